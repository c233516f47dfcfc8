use Rattle.std.proofs.Common.{rules, ◌≡◌, ℕ, ◌+◌, ◌<◌, [], List, get_or, set, sym, subst, inl, inr, arith}
use Rattle.std.proofs.lemmas.Bool.{cases_eq}
use Rattle.std.proofs.lemmas.List.{get_or-set_same, get_or-set_other}
use Rattle.rs_field.specs.words.Field.{power}
use Rattle.rs_field.specs.words.Products.{IsNibbleBytes}
use Rattle.rs_ffi.specs.Tables.{products_of}
use Rattle.rs_ffi.proofs.tables.fill_products.Goals as goal

pub loop-m-preserved : goal.loop-m-preserved
loop-m-preserved c k h =
    let table = c.loop-m.table in
    let m = c.loop-m.m in
    let entry : List ℕ = c.halves.result in
    elim (cases_eq k m) [
      | inl same ↦ subst (λ (n : ℕ). IsNibbleBytes (power n) (products_of (get_or (set table m entry) n []))) (sym same)
          (subst (λ (e : List ℕ). IsNibbleBytes (power m) (products_of e))
          (sym (get_or-set_same table m entry [] (omega arith))) (c.halves.ensures (power m) (search rules)))
      | inr other ↦ subst (λ (e : List ℕ). IsNibbleBytes (power k) (products_of e))
          (sym (get_or-set_other table m k entry [] other))
          (c.loop-m.invariant k (let below : k < m = by_cases k m h other in below))
    ]
  where
    by_cases : (k m : ℕ) → k < m + 1 → (k ≡ m → ⊥) → k < m
    by_cases k m h other = omega (arith, h, other)
