use Rattle.std.proofs.Common.{rules, ℕ, ◌∙◌}
use Rattle.std.specs.Int.Bits.{xor_zero_r}
use Rattle.rs_field.specs.words.Tables.{times_factor}
use Rattle.rs_field.proofs.words_lemmas.Combination.{sum_below-zero, sum_below-added}
use Rattle.rs_engines.proofs.shuffle_sums.sum_apart.Goals as goal

pub loop-index-init : goal.loop-index-init
loop-index-init g c = search (rules, sum_below-zero, xor_zero_r)

pub loop-index-preserved : goal.loop-index-preserved
loop-index-preserved g c =
    let added = c.args.added.now in
    let loop = c.loop-index.invariant in
    record {
      done = λ k s d inside small from below.
          let words : ℕ → ℕ = g.A.ReadRows.word added k s in
          let term : ℕ → ℕ = λ i. times_factor (g.A.AddedRows.log added i d) (words i) in
          c.add_plain.ensures.sums k s d inside small from below
          ∙ sum_below-added term _ _ c.loop-index.index (loop.done k s d inside small from below);
      others = λ k s d small apart.
          c.add_plain.ensures.others k s d small apart ∙ loop.others k s d small apart;
      kept = c.add_plain.ensures.kept ∙ loop.kept;
    }
