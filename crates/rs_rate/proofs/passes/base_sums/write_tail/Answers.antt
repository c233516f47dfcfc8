use Rattle.std.proofs.Common.{rules, ◌≡◌, ℕ, ◌+◌, ◌*◌, ◌/◌, ◌%◌, length, ap, ◌∙◌, arith, bit_xor}
use Rattle.std.specs.Prelude.{slice_index}
use Rattle.rs_field.specs.rows.Rows.{chunk, symbol}
use Rattle.rs_field.specs.rows.Written.{held}
use Rattle.rs_field.specs.words.Transform.{sum_below}
use Rattle.rs_field.proofs.words_lemmas.Combination.{sum_below-added}
use Rattle.rs_rate.proofs.passes_lemmas.SumLemmas.{base_term, base_sum-listed, none_added, term-of}
use Rattle.rs_rate.proofs.passes.base_sums.write_tail.Goals as goal

pub loop-index-init : goal.loop-index-init
loop-index-init g c = record {
  room = search rules;
  added = λ j inside.
      c.prepare.ensures.held 0 j (omega (arith, c.requires)) (omega (arith, inside)) ∙ none_added _ _;
}

pub loop-index-preserved : goal.loop-index-preserved
loop-index-preserved g c = record {
  room = search rules;
  added = λ j inside.
      let sums = c.args.sum.sums.now in
      let words : ℕ → ℕ = g.P.BasePieces.word sums.pieces.now (32 * (sums.piece_len / 64) + j) in
      let y : ℕ = slice_index sums.rows.now c.args.sum.index in
      let term : ℕ → ℕ = λ n. base_term sums.base.now words y (slice_index sums.base.now.rows.now n) in
      let first : j / 32 ≡ 0 = omega (arith, inside) in
      let same : j % 32 ≡ j = omega (arith, inside) in
      rw (first, same) at (c.add_tail_times.ensures.words j (omega (arith, inside, c.tail.ensures.length)))
      ∙ ap (bit_xor (symbol (chunk c.loop-index.row 0) j))
      (term-of sums.base.now words j y (slice_index sums.base.now.rows.now c.loop-index.index) _
      c.tail.result.now (c.tail.ensures.words j inside) c.factor-factor.ensures)
      ∙ sum_below-added term (held c.args.writing (symbol (chunk c.args.row.now 0) j))
      (symbol (chunk c.loop-index.row 0) j) c.loop-index.index (c.loop-index.invariant.added j inside);
}

pub returns : goal.returns
returns g c j inside =
    let sums = c.args.sum.sums.now in
    let words : ℕ → ℕ = g.P.BasePieces.word sums.pieces.now (32 * (sums.piece_len / 64) + j) in
    let y : ℕ = slice_index sums.rows.now c.args.sum.index in
    let term : ℕ → ℕ = λ n. base_term sums.base.now words y (slice_index sums.base.now.rows.now n) in
    let ends : c.loop-index.index ≡ length c.args.sum.sums.now.base.now.rows.now = search rules in
    c.loop-index.invariant.added j inside
    ∙ ap (bit_xor (held c.args.writing (symbol (chunk c.args.row.now 0) j)))
    (ap (λ m. sum_below m term) ends ∙ base_sum-listed sums.base.now words y)
