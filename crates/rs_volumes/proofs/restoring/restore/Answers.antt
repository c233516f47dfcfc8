use Rattle.std.proofs.Common.{◌≡◌, ℕ, [], Some, refl, ap, ◌∙◌, arith, take, inl}
use Rattle.std.proofs.lemmas.Result.{err_from_is_err_and}
use Rattle.rs_field.specs.code.Column.{shard_at}
use Rattle.rs_volumes.proofs.Coded.{next_strip}
use Rattle.rs_volumes.proofs.Originals.{block_more, whole_block}
use Rattle.rs_volumes.proofs.Restored.{strip_fails, digests_back, fails_back}
use Rattle.rs_volumes.proofs.restoring.restore.Goals as goal

pub loop-start-init : goal.loop-start-init
loop-start-init g c =
    record {
      inside = omega arith;
      begins = inl refl;
      number = rw c.as_slice-wanted.ensures.value at c.in_ok-outputs.ensures.number;
      kept = refl;
      done = record {
        held = λ i. [];
        are = c.in_ok-outputs.ensures.nothing (g.W.BlockSink.written c.args.sink.now);
        back = λ originals recovery set i is covered. refl;
      };
      others = λ i unwanted. refl;
    }

pub loop-start-preserved : goal.loop-start-preserved
loop-start-preserved g c =
    let held = c.loop-start.invariant in
    let strip = next_strip held.inside held.begins c.requires.chunks c.requires.some c.loop-start-test.true
    c.min.ensures in
    let wanted = c.as_slice-wanted.ensures.value in
    let step = c.in_ok-restore_piece.ensures.back held.done.held (g.W.BlockSink.written c.args.sink.now)
    held.done.are in
    record {
      inside = strip.inside;
      begins = strip.ends;
      number = rw wanted at c.restore_piece.ensures.number;
      kept = c.in_ok-pieces.ensures.kept ∙ held.kept;
      done = record {
        held = step.0;
        are = step.1;
        back = λ originals recovery set i is covered.
            block_more held.done.held strip set (rw held.kept at c.in_ok-pieces.ensures.originals)
            (rw held.kept at c.in_ok-pieces.ensures.recovery) (rw wanted at step.2) i is covered
            (held.done.back originals recovery set i is covered);
      };
      others = λ i unwanted.
          c.restore_piece.ensures.others i (rw wanted unwanted) ∙ held.others i unwanted;
    }

pub returns-in_err-restore_piece-clause-fails : goal.returns-in_err-restore_piece-clause-fails
returns-in_err-restore_piece-clause-fails g c =
    let held = c.loop-start.invariant in
    let strip = next_strip held.inside held.begins c.requires.chunks c.requires.some c.loop-start-test.true
    c.min.ensures in
    let p = err_from_is_err_and c.from_residual-in_err-restore_piece.result
    c.from_residual-in_err-restore_piece.ensures.1 in
    rw (p.1, p.2)
    (strip_fails c.args.shape c.args.plan.now c.args.digests.now g.S.BlockSource.read_may_fail
    g.W.BlockSink.write_may_fail (g.S.BlockSource.blocks c.args.source.now) (g.W.BlockSink.written c.args.sink.now)
    (g.W.BlockSink.written c.restore_piece.new.sink) c.in_err-restore_piece.field-0.0
    (omega (arith, c.min.ensures, c.requires.some, c.loop-start-test.true)) strip
    (rw held.kept at c.in_ok-pieces.ensures.originals) (rw held.kept at c.in_ok-pieces.ensures.recovery)
    (rw c.as_slice-wanted.ensures.value at
    (c.in_err-restore_piece.ensures.fails held.done.held (g.W.BlockSink.written c.args.sink.now) held.done.are)))

pub returns-clause-digests : goal.returns-clause-digests
returns-clause-digests g c =
    let done = c.loop-start.invariant.done in
    digests_back c.compare.result c.args.plan.now.wanted.items c.args.digests.now
    (g.W.BlockSink.written c.args.sink.now) (g.W.BlockSink.written c.loop-start.sink) c.loop-start.outputs.hashers.items
    done.held c.loop-start.invariant.number.hashers done.are.hashed done.are.written
    (rw c.as_slice-wanted.ensures.value at c.compare.ensures.digest)

pub returns-clause-originals : goal.returns-clause-originals
returns-clause-originals g c all originals recovery set =
    let held = c.loop-start.invariant in
    let ends : c.loop-start.start ≡ c.args.shape.block_bytes = omega (arith, held.inside, c.loop-start-test.false) in
    record {
      each = λ i is covered none.
          held.done.are.written i none
          ∙ ap Some (held.done.back originals recovery set i is covered
          ∙ ap (λ (n : ℕ). take n (shard_at originals i)) ends
          ∙ whole_block i set.shards);
    }

pub returns-clause-fails : goal.returns-clause-fails
returns-clause-fails g c =
    let done = c.loop-start.invariant.done in
    fails_back c.compare.result c.args.shape c.args.plan.now c.args.digests.now g.S.BlockSource.read_may_fail
    g.W.BlockSink.write_may_fail (g.S.BlockSource.blocks c.args.source.now) (g.W.BlockSink.written c.args.sink.now)
    (g.W.BlockSink.written c.loop-start.sink) c.loop-start.outputs.hashers.items done.held
    c.loop-start.invariant.number.hashers done.are.hashed done.are.written
    (rw c.as_slice-wanted.ensures.value at c.compare.ensures.fails)
