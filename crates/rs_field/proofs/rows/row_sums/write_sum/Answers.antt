use Rattle.std.proofs.Common.{rules, ℕ, bit_xor, ap, ap₂, ◌∙◌, arith}
use Rattle.std.specs.Int.Bits.{xor_zero_r}
use Rattle.rs_field.specs.rows.Rows.{chunk, symbol}
use Rattle.rs_field.specs.words.Tables.{times_factor}
use Rattle.rs_field.proofs.words_lemmas.Combination.{sum_below-zero, sum_below-added}
use Rattle.rs_field.proofs.words_lemmas.Counting.{counts_then, counts_within}
use Rattle.rs_field.proofs.rows.row_sums.write_sum.Goals as goal

pub loop-index-init : goal.loop-index-init
loop-index-init g c = search (rules, sum_below-zero, xor_zero_r)

pub loop-index-preserved : goal.loop-index-preserved
loop-index-preserved g c =
    let rows = c.args.sum.rows.now in
    let held = c.loop-index.invariant in
    record {
      room = search rules;
      done = λ k s inside small.
          let words : ℕ → ℕ = g.A.ReadRows.word rows k s in
          let term : ℕ → ℕ = λ i. times_factor (g.A.AddedRows.log rows i c.args.sum.index) (words i) in
          c.mul_add.ensures.sums k s (search rules) small
          ∙ ap (bit_xor (symbol (chunk c.loop-index.x k) s))
          (ap₂ times_factor c.factor-factor.ensures (c.row.ensures.words k s inside small))
          ∙ sum_below-added term _ _ c.loop-index.index (held.done k s inside small);
      counts = counts_within (omega arith) (counts_then held.counts c.mul_add.ensures.counts);
    }
