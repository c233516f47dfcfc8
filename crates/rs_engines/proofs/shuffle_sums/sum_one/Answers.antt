use Rattle.std.proofs.Common.{rules, ◌≡◌, ℕ, ◌+◌, ◌-◌, ◌*◌, inl, inr, bit_xor, ap, ap₂, subst, ◌∙◌, arith}
use Rattle.std.specs.Int.Bits.{xor_zero_r}
use Rattle.rs_field.specs.rows.AddedRows.{row_sum}
use Rattle.rs_field.specs.rows.Written.{held}
use Rattle.rs_field.specs.words.Tables.{times_factor}
use Rattle.rs_field.specs.words.Transform.{sum_below}
use Rattle.rs_field.proofs.words_lemmas.Combination.{sum_below-zero, sum_below-added}
use Rattle.rs_engines.proofs.shuffle_sums.sum_one.Goals as goal

-- Two more terms are added.
two_more : (term : ℕ → ℕ) (a sum n : ℕ) → sum ≡ bit_xor a (sum_below (2 * n) term)
    → bit_xor (bit_xor sum (term (2 * n))) (term (2 * n + 1)) ≡ bit_xor a (sum_below (2 * (n + 1)) term)
two_more term a sum n is =
    let next : 2 * n + 1 + 1 ≡ 2 * (n + 1) = omega arith in
    sum_below-added term a (bit_xor sum (term (2 * n))) (2 * n + 1) (sum_below-added term a sum (2 * n) is)
    ∙ ap (λ m. bit_xor a (sum_below m term)) next

pub loop-pair-init : goal.loop-pair-init
loop-pair-init g c = search (rules, sum_below-zero, xor_zero_r)

pub loop-pair-preserved : goal.loop-pair-preserved
loop-pair-preserved g c =
    let added = c.args.added.now in
    let at : ℕ = c.args.at in
    let first = c.term_at-first.ensures in
    let second = c.term_at-second.ensures in
    let loop = c.loop-pair.invariant in
    record {
      done = λ k s inside small.
          let words : ℕ → ℕ = g.A.ReadRows.word added k s in
          let term : ℕ → ℕ = λ i. times_factor (g.A.AddedRows.log added i at) (words i) in
          c.add_pair.ensures.sums k s (omega (arith, inside, first.length)) small
          ∙ ap₂ (λ v w. bit_xor (bit_xor (g.R.ChangeRows.word c.loop-pair.rows k s at) v) w)
          (ap₂ times_factor first.factor (first.words k s inside small))
          (ap₂ times_factor second.factor (second.words k s inside small))
          ∙ two_more term _ _ c.loop-pair.pair (loop.done k s inside small);
      others = λ k s i small apart.
          c.add_pair.ensures.others k s i small (elim apart [
            | inl past ↦ inl (omega (arith, past, first.length))
            | inr away ↦ inr away
          ]) ∙ loop.others k s i small apart;
      kept = c.add_pair.ensures.kept ∙ loop.kept;
    }

pub returns-then-count-eq1-clause-sums : goal.returns-then-count-eq1-clause-sums
returns-then-count-eq1-clause-sums g c =
    let added = c.args.added.now in
    let at : ℕ = c.args.at in
    let loop = c.loop-pair.invariant in
    let last : c.count-count.result - 1 ≡ 2 * c.loop-pair.pair = omega arith in
    let ends : 2 * c.loop-pair.pair + 1 ≡ g.A.ReadRows.row_count c.args.added.now =
    omega (arith, c.count-count.ensures) in
    record {
      sums = λ k s d inside small from below.
          let is : c.args.at ≡ d = omega (arith, from, below) in
          let words : ℕ → ℕ = g.A.ReadRows.word added k s in
          let term : ℕ → ℕ = λ i. times_factor (g.A.AddedRows.log added i at) (words i) in
          let old : ℕ = g.R.ChangeRows.word c.args.rows.now k s at in
          subst (λ d. g.R.ChangeRows.word c.add_to_one.new.rows k s d
          ≡ bit_xor (held c.args.writing (g.R.ChangeRows.word c.args.rows.now k s d))
          (row_sum (g.A.ReadRows.row_count added) (λ i. g.A.AddedRows.log added i d) words)) is
          (c.add_to_one.ensures.sums k s (omega (arith, inside, c.row.ensures.length)) small
          ∙ ap (bit_xor (g.R.ChangeRows.word c.loop-pair.rows k s at))
          (ap₂ times_factor c.factor.ensures (c.row.ensures.words k s inside small)
          ∙ ap term last)
          ∙ sum_below-added term _ _ (2 * c.loop-pair.pair) (loop.done k s inside small)
          ∙ ap₂ (λ v m. bit_xor v (sum_below m term))
          (c.prepare_row.ensures.held k s (omega (arith, inside, c.len.ensures)) small) ends);
      others = λ k s d small apart.
          (elim apart [
            | inl past ↦ c.add_to_one.ensures.others k s d small (inl (omega (arith, past, c.row.ensures.length)))
            | inr (inl before) ↦ c.add_to_one.ensures.others k s d small (inr (λ same. omega (arith, before, same)))
            | inr (inr after) ↦ c.add_to_one.ensures.others k s d small (inr (λ same. omega (arith, after, same)))
          ])
          ∙ (elim apart [
            | inl past ↦ loop.others k s d small (inl past)
            | inr (inl before) ↦ loop.others k s d small (inr (λ same. omega (arith, before, same)))
            | inr (inr after) ↦ loop.others k s d small (inr (λ same. omega (arith, after, same)))
          ])
          ∙ (elim apart [
            | inl past ↦ c.prepare_row.ensures.others k s d small (inl (omega (arith, past, c.len.ensures)))
            | inr (inl before) ↦ c.prepare_row.ensures.others k s d small (inr (λ same. omega (arith, before, same)))
            | inr (inr after) ↦ c.prepare_row.ensures.others k s d small (inr (λ same. omega (arith, after, same)))
          ]);
    }
