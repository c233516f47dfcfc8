-- A transform in two steps: of groups of neighbouring words, and of the words that have the same place in each group.
use Rattle.std.proofs.Common.{◌≡◌, ℕ, zero, suc, ◌+◌, ◌*◌, ◌/◌, ◌%◌, ◌^◌, ◌<◌, ◌≤◌, bit_xor, sym, ap, ap₂, ◌∙◌}
use Rattle.std.proofs.Common.{subst, arith, add-zero, zero-add, add-suc, pow-add, lt_of_le_of_lt, mod-lt, inl, inr}
use Rattle.std.proofs.Math.Nat.{mul-le-mul_right}
use Rattle.std.proofs.lemmas.Bool.{cases_lt}
use Rattle.std.proofs.lemmas.Nat.{shr-shr, shr_le, pow_pos, div-mul-add, div-add-mod'}
use Rattle.std.proofs.lemmas.Grind.{common_steps}
use Rattle.rs_field.specs.words.Field.{product}
use Rattle.rs_field.specs.words.Subspace.{subspace}
use Rattle.rs_field.specs.words.Transform.{forward, IsBackward}
use Rattle.rs_field.proofs.words_lemmas.Combination.{forward_is, forward-half, forward-moved, forward-product}
use Rattle.rs_field.proofs.words_lemmas.Combination.{forward-same, forward-xor, forward_lt, basis-zero, sum_below-suc}
use Rattle.rs_field.proofs.words_lemmas.Combination.{sum_below-zero}
use Rattle.rs_field.proofs.words_lemmas.Halves.{exponent_below}
use Rattle.rs_field.proofs.words_lemmas.Product.{product_one}
use Rattle.rs_field.proofs.words_lemmas.Subspace.{subspace_shift}

-- The transform of one number is the number as a word.
one_number : (y : ℕ) (f : ℕ → ℕ) → forward 1 0 f y ≡ product (f 0) 1
one_number y f = grind (arith, common_steps, forward_is, sum_below-suc, sum_below-zero, basis-zero)

module _ (b x : ℕ) (hx : x < 2 ^ 16) where
  -- The transform of the words at place s of 2 ^ c groups of 2 ^ b words, at the group of the point x.
  abbrev pub at_place : ℕ → (ℕ → ℕ) → ℕ → ℕ
  at_place c f s = forward (2 ^ c) 0 (λ r. f (r * 2 ^ b + s)) (x / 2 ^ b)

  -- The transforms of all words, and of all groups.
  abbrev pub whole : ℕ → (ℕ → ℕ) → ℕ
  whole c f = forward (2 ^ (b + c)) 0 f x

  abbrev pub of_places : ℕ → (ℕ → ℕ) → ℕ
  of_places c f = forward (2 ^ b) 0 (at_place c f) x

  -- The second half of the words.
  abbrev second : ℕ → (ℕ → ℕ) → ℕ → ℕ
  second c f q = f (2 ^ (b + c) + q)

  one_group : (f : ℕ → ℕ) → whole 0 f ≡ of_places 0 f
  one_group f =
      ap (λ n. forward (2 ^ n) 0 f x) (add-zero b)
      ∙ sym (product_one (forward (2 ^ b) 0 f x) (forward_lt (2 ^ b) 0 f x))
      ∙ sym (forward-product (2 ^ b) 0 f 1 x)
      ∙ forward-same (2 ^ b) 0 (λ q. product (f q) 1) (at_place 0 f) x
      (λ q few. let place : q ≡ 0 * 2 ^ b + q = omega arith in
      ap (λ v. product (f v) 1) place ∙ sym (one_number (x / 2 ^ b) (λ r. f (r * 2 ^ b + q))))

  -- The value of the subspace polynomial b + c at x is that of the polynomial c at x shifted right by b bits.
  shifted : (c : ℕ) → b + c ≤ 16 → subspace c (0 + x / 2 ^ b) ≡ subspace (b + c) (0 + x)
  shifted c few =
      let y : ℕ = x / 2 ^ b in
      let low : y < 2 ^ 16 = lt_of_le_of_lt (shr_le x b) hx in
      let here : 0 + y ≡ y = omega arith in
      let there : x ≡ 0 + x = omega arith in
      ap (subspace c) here ∙ subspace_shift c y (omega (arith, few)) low ∙ shr-shr x b c
      ∙ sym (subspace_shift (b + c) x few hx) ∙ ap (subspace (b + c)) there

  halves : (c : ℕ) (f : ℕ → ℕ) (s : ℕ) → b + suc c ≤ 16
      → at_place (suc c) f s ≡ bit_xor (at_place c f s) (product (at_place c (second c f) s) (subspace (b + c) (0 + x)))
  halves c f s few =
      let y : ℕ = x / 2 ^ b in
      let p : 2 ^ (b + c) ≡ 2 ^ b * 2 ^ c = pow-add 2 b c in
      forward-half c 0 (λ r. f (r * 2 ^ b + s)) y (omega (arith, few))
      ∙ ap (bit_xor (at_place c f s)) (ap₂ product
      (forward-same (2 ^ c) 0 (λ r. f ((2 ^ c + r) * 2 ^ b + s)) (λ r. second c f (r * 2 ^ b + s)) y
      (λ r low. let place : (2 ^ c + r) * 2 ^ b + s ≡ 2 ^ (b + c) + (r * 2 ^ b + s) = omega (arith, p) in ap f place))
      (shifted c (omega (arith, few))))

  pub grouped : (c : ℕ) (f : ℕ → ℕ) → b + c ≤ 16 → whole c f ≡ of_places c f
  grouped zero f few = one_group f
  grouped (suc c) f few =
      let k : ℕ = subspace (b + c) (0 + x) in
      ap (λ n. forward (2 ^ n) 0 f x) (add-suc b c)
      ∙ forward-half (b + c) 0 f x (omega (arith, few))
      ∙ ap₂ (λ u v. bit_xor u (product v k)) (grouped c f (omega (arith, few)))
      (grouped c (second c f) (omega (arith, few)))
      ∙ ap (bit_xor (of_places c f)) (sym (forward-product (2 ^ b) 0 (at_place c (second c f)) k x))
      ∙ sym (forward-xor (2 ^ b) 0 (at_place c f) (λ q. product (at_place c (second c f) q) k) x)
      ∙ sym (forward-same (2 ^ b) 0 (at_place (suc c) f)
      (λ q. bit_xor (at_place c f q) (product (at_place c (second c f) q) k)) x
      (λ s low. halves c f s few))

-- A transform at a shift has the values of the transform without a shift at the later points.
from_zero : (n shift : ℕ) (f : ℕ → ℕ) (i : ℕ) → forward n shift f i ≡ forward n 0 f (shift + i)
from_zero n shift f i = ap (λ v. forward n v f i) (sym (zero-add shift)) ∙ forward-moved n 0 shift f i

-- A quotient is below the number of groups.
below_product : (j n m r : ℕ) → j * m + r < n * m → j < n
below_product j n m r low = elim (cases_lt j n) [
  | inl before ↦ before
  | inr past ↦ let le : n * m ≤ j * m = mul-le-mul_right m past in absurd (let no : ⊥ = omega (arith, le, low) in no)
]

-- If the words of each group are transformed backward, and then the words at each place of the groups, all words are
-- transformed backward.
backward_of_powers : (b c shift : ℕ) (old mid new : ℕ → ℕ) → shift % 2 ^ b ≡ 0 → shift + 2 ^ c * 2 ^ b ≤ 65536
    → ((j : ℕ) → j < 2 ^ c
    → IsBackward (2 ^ b) (shift + j * 2 ^ b) (λ i. old (j * 2 ^ b + i)) (λ i. mid (j * 2 ^ b + i)))
    → ((s : ℕ) → s < 2 ^ b
    → IsBackward (2 ^ c) (shift / 2 ^ b) (λ r. mid (r * 2 ^ b + s)) (λ r. new (r * 2 ^ b + s)))
    → IsBackward (2 ^ c * 2 ^ b) shift old new
backward_of_powers b c shift old mid new aligned points groups places i low =
    let m : ℕ = 2 ^ b in
    let j : ℕ = i / m in
    let r : ℕ = i % m in
    let x : ℕ = shift + i in
    let word : x < 2 ^ 16 = omega (arith, points, low) in
    let u : ℕ = shift / m in
    let size : 2 ^ (b + c) ≡ 2 ^ c * m = let p = pow-add 2 b c in omega (arith, p) in
    let few : b + c ≤ 16 =
    let below = exponent_below (b + c) 17 (omega (arith, size, points)) in omega (arith, below) in
    let inside : r < m = mod-lt i (pow_pos b) in
    let back : j * m + r ≡ i = div-add-mod' i m in
    let group : j < 2 ^ c = below_product j (2 ^ c) m r (omega (arith, back, low)) in
    let start : u * m + shift % m ≡ shift = div-add-mod' shift m in
    let point : (u + j) * m + r ≡ x = omega (arith, start, aligned, back) in
    let number : u + j ≡ x / m = sym (div-mul-add (u + j) m r inside) ∙ ap (λ v. v / m) point in
    let here : shift + j * m + r ≡ x = omega (arith, back) in
    ap old (sym back) ∙ groups j group r inside
    ∙ forward-same m (shift + j * m) (λ s. mid (j * m + s)) (at_place b x word c new) r
    (λ s low. places s low j group ∙ from_zero (2 ^ c) u (λ r. new (r * m + s)) j
    ∙ ap (forward (2 ^ c) 0 (λ r. new (r * m + s))) number)
    ∙ from_zero m (shift + j * m) (at_place b x word c new) r
    ∙ ap (forward m 0 (at_place b x word c new)) here
    ∙ sym (grouped b x word c new few)
    ∙ ap (λ n. forward n 0 new x) size
    ∙ sym (from_zero (2 ^ c * m) shift new i)

pub grouped_backward : (m n shift : ℕ) (old mid new : ℕ → ℕ) → (d : ℕ) × (m ≡ 2 ^ d) → (d : ℕ) × (n ≡ 2 ^ d)
    → shift % m ≡ 0 → shift + n * m ≤ 65536
    → ((j : ℕ) → j < n → IsBackward m (shift + j * m) (λ i. old (j * m + i)) (λ i. mid (j * m + i)))
    → ((s : ℕ) → s < m → IsBackward n (shift / m) (λ r. mid (r * m + s)) (λ r. new (r * m + s)))
    → IsBackward (n * m) shift old new
grouped_backward m n shift old mid new (b, m_is) (c, n_is) aligned points groups places =
    subst (λ (v : ℕ). IsBackward (v * m) shift old new) (sym n_is)
    (subst (λ (v : ℕ). IsBackward (2 ^ c * v) shift old new) (sym m_is)
    (backward_of_powers b c shift old mid new (rw m_is at aligned) (rw (m_is, n_is) at points)
    (rw (m_is, n_is) at groups) (rw (m_is, n_is) at places)))
