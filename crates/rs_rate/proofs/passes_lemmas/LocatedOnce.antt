-- Locators that are not computed again.
use Rattle.std.proofs.Common.{ℕ, ◌≡◌, Option, Some, sym, ap, inl, inr, rules, arith}
use Rattle.rs_field.specs.words.StepBounds.{CountsUpTo}
use Rattle.rs_field.specs.declared.words.steps.Steps.{Steps}
use Rattle.rs_rate.specs.passes.Located.{LocatesOnce}

-- A round whose locator was computed only if none was stored for as many marks, and that then counts row steps alone.
pub located_once : {n m : ℕ} {before : Option ℕ} {a b c : Steps}
    → (before ≡ Some n → b ≡ a) → CountsUpTo m 0 0 b c → LocatesOnce before (Some n) a c
located_once {n} {m} {before} {a} {b} {c} kept counts either = elim either [
  | inl none ↦ search (rules, none)
  | inr same ↦
      let pairs = ap (λ (s : Steps). s.pair_sums) (kept (sym same)) in
      let products = ap (λ (s : Steps). s.products) (kept (sym same)) in (
        omega (arith, pairs, counts.pair_sums_rise, counts.pair_sums_most),
        omega (arith, products, counts.products_rise, counts.products_most),
      )
]
