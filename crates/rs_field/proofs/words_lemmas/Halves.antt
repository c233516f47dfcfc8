-- The halves of a transform: the sizes, the factor in the table, and the row steps.
use Rattle.std.proofs.lemmas.Grind.{common_steps}
use Rattle.std.proofs.lemmas.Bool.{cases_eq, cases_lt}
use Rattle.std.proofs.lemmas.Nat.{pow_pos, pow_below}
use Rattle.std.proofs.Common.{◌≡◌, ℕ, zero, suc, ◌+◌, ◌-◌, ◌*◌, ◌/◌, ◌%◌, ◌^◌, ◌<◌, ◌≤◌, Bool, false, cond, eqb, List}
use Rattle.std.proofs.Common.{get_or, bit_xor, refl, ap, ap₂, ◌∙◌, inl, inr, arith, pow-suc, pow_mono, ne_eqb, zero-mul}
use Rattle.std.specs.Prelude.{nat_le}
use Rattle.std.proofs.Math.Nat.{mul-mod_left, add-mod_right}
use Rattle.std.specs.Int.Bits.{xor_assoc, xor_self, xor_zero_r}
use Rattle.rs_field.specs.words.Field.{product, power, log}
use Rattle.rs_field.specs.words.Subspace.{subspace}
use Rattle.rs_field.specs.words.Tables.{IsSkew, log_or_mark, times_factor}
use Rattle.rs_field.specs.words.StepBounds.{log2, transform_steps}
use Rattle.rs_field.proofs.words_lemmas.Search.{first_below-is}
use Rattle.rs_field.proofs.words_lemmas.Product.{product_zero}
use Rattle.rs_field.proofs.words_lemmas.Power.{log_lt, power-log}
use Rattle.rs_field.proofs.words_lemmas.Subspace.{product_below_lt}
use Rattle.rs_field.proofs.words_lemmas.Combination.{aligned_parts}

-- Half of a power of two above 1 is a power of two.
pub half_power : (size : ℕ) → 1 < size → (d : ℕ) × (size ≡ 2 ^ d) → (e : ℕ) × (size ≡ 2 ^ suc e) × (size / 2 ≡ 2 ^ e)
half_power size h (zero, is) = absurd (let no : ⊥ = omega arith in no)
half_power size h (suc e, is) = (e, is, let p = pow-suc 2 e in omega arith)

-- A quarter of a power of two above 2 is a power of two.
pub quarter_power : (size : ℕ) → 2 < size → (d : ℕ) × (size ≡ 2 ^ d) → (e : ℕ) × (size ≡ 2 ^ suc (suc e))
    × (size / 4 ≡ 2 ^ e) × (size ≡ 4 * (size / 4))
quarter_power size h (zero, is) = absurd (let no : ⊥ = omega arith in no)
quarter_power size h (suc zero, is) = absurd (let no : ⊥ = omega arith in no)
quarter_power size h (suc (suc e), is) = grind (arith, common_steps, pow-suc)

pub two_halves : (size : ℕ) → 1 < size → (d : ℕ) × (size ≡ 2 ^ d) → size ≡ size / 2 + size / 2
two_halves size h power = omega (arith, half_power size h power)

-- A power of two below another has the smaller exponent.
pub exponent_below : (d n : ℕ) → 2 ^ d < 2 ^ n → d < n
exponent_below d n h =
    elim (cases_lt d n) [
      | inl less ↦ less
      | inr more ↦ let large : 2 ^ n ≤ 2 ^ d = pow_mono more in
          absurd (omega arith)
    ]

-- A transform has at most 65536 points.
pub few_halves : (size e shift : ℕ) → size ≡ 2 ^ suc e → shift + size ≤ 65536 → e < 16
few_halves size e shift is fits = let few = exponent_below (suc e) 17 (omega arith) in omega arith

-- A multiple of the size is a multiple of half the size, and so is the point where the second half begins.
pub shift_half : (size e shift : ℕ) → size ≡ 2 ^ suc e → shift % size ≡ 0 → (shift % 2 ^ e ≡ 0)
    × ((shift + 2 ^ e) % 2 ^ e ≡ 0)
shift_half size e shift is whole =
    let first : shift % 2 ^ e ≡ 0 =
    ap (λ v. v % 2 ^ e) (aligned_parts size 2 (2 ^ e) shift (omega (arith, pow-suc 2 e)) whole)
    ∙ mul-mod_left (shift / size * 2) (2 ^ e) in
    (first, add-mod_right shift (2 ^ e) ∙ first)

pub mark_zero : log_or_mark 0 ≡ 65535
unfolding log_or_mark
mark_zero = refl

pub mark_word : (z : ℕ) → eqb z 0 ≡ false → log_or_mark z ≡ log z
unfolding log_or_mark
mark_word z e = ap (λ (b : Bool). cond b 65535 (log z)) e

-- The product with the table entry of a factor is the product with the factor.
pub scaled_by : (c w : ℕ) → c < 2 ^ 16 → times_factor (log_or_mark c) w ≡ product w c
scaled_by c w hc = grind (arith, common_steps, cases_eq, mark_zero, product_zero, log_lt, mark_word, ne_eqb, power-log)

pub subspace_lt : (d x : ℕ) → subspace d x < 2 ^ 16
unfolding subspace
subspace_lt d x = product_below_lt (2 ^ d) (λ y. bit_xor x y)

-- The table's entry for the butterflies between the halves of a block.
pub table_factor : (skew : List ℕ) (e half shift w : ℕ) → IsSkew skew → half ≡ 2 ^ e → shift % 2 ^ suc e ≡ 0
    → shift + 2 ^ suc e ≤ 65536
    → times_factor (get_or skew (shift + half - 1) 0) w ≡ product w (subspace e shift)
table_factor skew e half shift w table is whole fits =
    let u : ℕ = shift / 2 ^ suc e in
    let p : 2 ^ suc e ≡ 2 ^ e * 2 = pow-suc 2 e in
    let pos : 0 < 2 ^ e = pow_pos e in
    let even : shift ≡ u * 2 * 2 ^ e = aligned_parts (2 ^ suc e) 2 (2 ^ e) shift (omega arith) whole in
    let odd : shift + 2 ^ e ≡ (2 * u + 1) * 2 ^ e = omega arith in
    let back : shift + 2 ^ e - 2 ^ e ≡ shift = omega arith in
    ap (λ v. times_factor (get_or skew (shift + v - 1) 0) w) is
    ∙ ap (λ m. times_factor m w)
    (table.skew_entry e u (shift + 2 ^ e) odd (omega arith) ∙ ap (λ v. log_or_mark (subspace e v)) back)
    ∙ scaled_by (subspace e shift) w (subspace_lt e shift)

pub xor_undo : (a b : ℕ) → bit_xor (bit_xor a b) b ≡ a
xor_undo a b = xor_assoc a b b ∙ ap (bit_xor a) (xor_self b) ∙ xor_zero_r a

-- ---- row steps

log2-power : (e : ℕ) → e < 64 → log2 (2 ^ e) ≡ e
unfolding log2
log2-power e he =
    first_below-is 64 (λ d. nat_le (2 ^ e) (2 ^ d)) e he (grind arith)
    (λ j h. let small : 2 ^ j < 2 ^ e = pow_below j e h in grind arith)

-- Half of a power of two, times two and its exponent, is the power times its exponent.
twice : (half e : ℕ) → half ≡ 2 ^ e → half / 2 * 2 * e ≡ half * e
twice half zero is = omega arith
twice half (suc e) is = let p = pow-suc 2 e in
    ap (λ n. n * suc e) (let even : half / 2 * 2 ≡ half = omega arith in even)

-- Twice the row steps of a transform are the number of rows times its exponent.
pub steps_twice : (size e : ℕ) → e < 64 → size ≡ 2 ^ e → 2 * transform_steps size ≡ size * e
unfolding transform_steps
steps_twice size e he is =
    let steps : size / 2 * log2 size ≡ size / 2 * e = ap (λ n. size / 2 * n) (ap log2 is ∙ log2-power e he) in
    let whole = twice size e is in
    omega arith

-- The row steps of the butterflies between the halves and of both halves are the row steps of the whole.
pub steps_half : (size e half : ℕ) → e < 16 → size ≡ 2 ^ suc e → half ≡ 2 ^ e
    → half + 2 * transform_steps half ≡ transform_steps size
unfolding transform_steps
steps_half size e half he is h =
    let low : log2 half ≡ e = ap log2 h ∙ log2-power e (omega arith) in
    cc (sum half (half / 2) e (size / 2) (log2 size) (log2 half) (omega arith)
    (ap log2 is ∙ log2-power (suc e) (omega arith)) low (twice half e h))
  where
    sum : (half quarter e n a b : ℕ) → n ≡ half → a ≡ suc e → b ≡ e → quarter * 2 * e ≡ half * e
        → half + 2 * (quarter * b) ≡ n * a
    sum half quarter e n a b i j k t =
        let l : 2 * (quarter * b) ≡ 2 * (quarter * e) = ap (λ v. 2 * (quarter * v)) k in
        let r : n * a ≡ half * suc e = ap₂ (λ v w. v * w) i j in
        omega arith

-- The row steps of two layers between the quarters and of all four quarters are the row steps of the whole.
pub steps_quarters : (size e quarter : ℕ) → size ≤ 65536 → size ≡ 2 ^ suc (suc e) → quarter ≡ 2 ^ e
    → 4 * quarter + 4 * transform_steps quarter ≡ transform_steps size
steps_quarters size e quarter small is q =
    let few = few_halves size (suc e) 0 is (omega arith) in
    let outer = steps_half size (suc e) (quarter + quarter) few is (omega arith) in
    let inner = steps_half (quarter + quarter) e quarter (omega arith) (omega arith) q in
    omega arith

-- The transform of one row has no row steps.
pub no_steps : (size : ℕ) → size ≤ 1 → transform_steps size ≡ 0
unfolding transform_steps
no_steps size few = ap (λ n. n * log2 size) (let none : size / 2 ≡ 0 = omega arith in none) ∙ zero-mul (log2 size)
