use Rattle.std.proofs.Common.{◌≡◌, ℕ, ◌+◌, ◌*◌, inl, inr, ap, sym, subst, ◌∙◌, arith}
use Rattle.std.proofs.lemmas.Bool.{cases_lt}
use Rattle.rs_field.specs.code.Column.{column}
use Rattle.rs_field.specs.rows.Layout.{laid_out}
use Rattle.rs_field.specs.rows.Rows.{chunk}
use Rattle.rs_field.proofs.rows_lemmas.LayoutLemmas.{laid_out-same, in_order-same, column-laid_out}
use Rattle.rs_field.proofs.rows_lemmas.RowOffsets.{row_ends}
use Rattle.rs_rate.specs.rows.ShardRows.{shard_from}
use Rattle.rs_rate.proofs.passes.sums.finish_sums.Goals as goal

pub move_tail_from-requires-clause-room : goal.move_tail_from-requires-clause-room
move_tail_from-requires-clause-room c =
    let ends = row_ends c.loop-index.index c.args.count c.args.stride c.loop-index-test.true in
    omega (arith, ends, c.requires.fit, c.requires.room, c.loop-index.invariant.room)

pub loop-index-preserved : goal.loop-index-preserved
loop-index-preserved c =
    let m : ℕ = c.args.stride in
    let i : ℕ = c.loop-index.index in
    let size : ℕ = c.args.piece_len in
    let loop = c.loop-index.invariant in
    let others = c.move_tail_from.ensures.others in
    record {
      room = c.move_tail_from.ensures.length ∙ loop.room;
      moved = λ d few. elim (cases_lt d c.loop-index.index) [
        | inl before ↦
            let ends = row_ends d c.loop-index.index c.args.stride before in
            in_order-same size (λ k. chunk c.move_tail_from.new.chunks (d * m + k))
            (λ k. chunk c.loop-index.x (d * m + k))
            (λ k inside. others (d * m + k) (inl (omega (arith, ends, inside, c.requires.fit))))
            ∙ loop.moved d before
        | inr past ↦
            let is : d ≡ c.loop-index.index = omega (arith, few, past) in
            subst (λ (d : ℕ). shard_from c.move_tail_from.new.chunks (d * c.args.stride) c.args.piece_len
            ≡ laid_out c.args.piece_len (λ k. chunk c.args.x.now (d * c.args.stride + k))) (sym is)
            (c.move_tail_from.ensures.here
            ∙ laid_out-same size (λ k. chunk c.loop-index.x (i * m + k)) (λ k. chunk c.args.x.now (i * m + k))
            (λ k _. loop.left (i * m + k) (omega arith)))
      ];
      left = λ k beyond.
          others k (inr (omega (arith, beyond, c.requires.fit))) ∙ loop.left k (omega (arith, beyond));
    }

pub returns-clause-words : goal.returns-clause-words
returns-clause-words c d j few inside =
    ap (column j) (c.loop-index.invariant.moved d (omega (arith, few)))
    ∙ column-laid_out c.args.piece_len j (λ k. chunk c.args.x.now (d * c.args.stride + k)) inside

pub returns-clause-bytes : goal.returns-clause-bytes
returns-clause-bytes c d few =
    let ends = row_ends d c.args.count c.args.stride few in
    c.parts_are_bytes.ensures (d * c.args.stride)
    (omega (arith, ends, c.requires.fit, c.requires.room, c.loop-index.invariant.room))
