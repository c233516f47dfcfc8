use Rattle.std.proofs.Common.{◌≡◌, ℕ, zero, suc, ◌+◌, ◌/◌, ◌%◌, ◌^◌, ◌<◌, cond, bit_xor, refl, sym, ap, ap₂, ◌∙◌, arith}
use Rattle.std.specs.Prelude.{if◌then◌else◌, ◌==◌}
use Rattle.rs_field.specs.words.Field.{product, combine, bits, from_bits, cantor_basis, monomials, carryless, reduce}
use Rattle.rs_field.specs.words.Subspace.{product_below, subspace, basis}
use Rattle.rs_field.specs.words.Transform.{sum_below, forward}
use Rattle.rs_field.specs.worked.Numbers.{pair}
use Rattle.rs_field.proofs.words_lemmas.Subspace.{product_below-same, subspace_shift}
use Rattle.rs_field.proofs.worked.transforms.Goals as goal

-- The basis polynomial q at x, from shifts of the point x.
by_shift : ℕ → ℕ → ℕ
by_shift q x = product_below 16 (λ d. if q / 2 ^ d % 2 == 1 then x / 2 ^ d else 1)

-- Each factor of a basis polynomial is the point shifted right.
basis_shift : (q x : ℕ) → x < 2 ^ 16 → basis q x ≡ by_shift q x
unfolding basis by_shift
basis_shift q x h =
    product_below-same 16 (λ d. if q / 2 ^ d % 2 == 1 then subspace d x else 1)
    (λ d. if q / 2 ^ d % 2 == 1 then x / 2 ^ d else 1)
    (λ d hd. ap (λ v. cond (q / 2 ^ d % 2 == 1) v 1) (subspace_shift d x (omega arith) h))

-- The transform of two words at a point.
at_point : (f : ℕ → ℕ) (shift i x : ℕ) → shift + i ≡ x → x < 2 ^ 16
    → forward 2 shift f i ≡ bit_xor (bit_xor 0 (product (f 0) (by_shift 0 x))) (product (f 1) (by_shift 1 x))
unfolding forward sum_below
at_point f shift i x e h =
    ap₂ (λ u v. bit_xor (bit_xor 0 (product (f 0) u)) (product (f 1) v)) (ap (basis 0) e ∙ basis_shift 0 x h)
    (ap (basis 1) e ∙ basis_shift 1 x h)

-- The values of 2 + 4 * x at the points 4 and 5 are 4 and 0.
values : (bit_xor (bit_xor 0 (product 2 (by_shift 0 4))) (product 4 (by_shift 1 4)) ≡ 4)
    × (bit_xor (bit_xor 0 (product 2 (by_shift 0 5))) (product 4 (by_shift 1 5)) ≡ 0)
unfolding by_shift product_below product combine bits from_bits cantor_basis monomials carryless reduce
values = (refl, refl)

-- The transform of 2, 4 at the points 4 and 5 is 4, 0.
two : (i : ℕ) → i < 2 → pair 4 0 i ≡ forward 2 4 (pair 2 4) i
two zero h = sym (at_point (pair 2 4) 4 0 4 refl (omega arith) ∙ values.0)
two (suc zero) h = sym (at_point (pair 2 4) 4 1 5 refl (omega arith) ∙ values.1)
two (suc (suc i)) h = absurd (let no : ⊥ = omega arith in no)

pub returns : goal.returns
returns c = (two, two)
