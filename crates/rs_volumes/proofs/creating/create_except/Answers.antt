use Rattle.std.proofs.Common.{rules, ◌≡◌, ℕ, List, ◌++◌, ap, ◌∙◌, arith}
use Rattle.std.specs.List.{flat_map}
use Rattle.sha2.specs.Sha256.{sha256}
use Rattle.std.proofs.lemmas.Result.{err_from_is_err_and}
use Rattle.rs_volumes.proofs.Coded.{next_strip}
use Rattle.rs_volumes.proofs.Created.{length-empty, created_none, created_more, created_all, creating_fails}
use Rattle.rs_volumes.proofs.creating.create_except.Goals as goal

pub loop-start-init : goal.loop-start-init
loop-start-init g c = search (rules, length-empty, created_none)

pub loop-start-preserved : goal.loop-start-preserved
loop-start-preserved g c =
    let held = c.loop-start.invariant in
    let strip = next_strip held.inside held.begins c.requires.chunks c.requires.some c.loop-start-test.true
    c.min.ensures in
    let now = c.in_ok-create_piece.ensures in
    let made = rw (held.kept, held.marks) at now.made in
    record {
      marks = now.marks ∙ held.marks;
      inside = strip.inside;
      begins = strip.ends;
      originals = now.originals;
      recovery = now.recovery;
      kept = now.kept ∙ held.kept;
      done = created_more strip held.done made;
      others = λ i past. now.others i past ∙ held.others i past;
    }

pub returns-clause-created : goal.returns-clause-created
returns-clause-created g c =
    let held = c.loop-start.invariant in
    let ends : c.loop-start.start ≡ c.args.shape.block_bytes = omega (arith, held.inside, c.loop-start-test.false) in
    created_all ends held.done
    (λ blocks is others are. c.in_ok-finish-2.ensures others are
    ∙ ap (λ (d : List ℕ). d ++ flat_map sha256 others)
    (c.in_ok-finish.ensures blocks is
    ∙ ap (λ (d : List ℕ). d ++ flat_map sha256 blocks) c.new-digests.ensures.items))

pub returns-in_err-create_piece-clause-fails : goal.returns-in_err-create_piece-clause-fails
returns-in_err-create_piece-clause-fails g c =
    let held = c.loop-start.invariant in
    let strip = next_strip held.inside held.begins c.requires.chunks c.requires.some c.loop-start-test.true
    c.min.ensures in
    let p = err_from_is_err_and c.from_residual-in_err-create_piece.result
    c.from_residual-in_err-create_piece.ensures.1 in
    rw (p.1, p.2)
    (creating_fails g.S.BlockSource.read_may_fail g.W.BlockSink.write_may_fail c.in_err-create_piece.field-0.0
    (omega (arith, c.min.ensures, c.requires.some, c.loop-start-test.true)) strip held.done
    (rw held.kept at c.in_err-create_piece.ensures.fails))
