-- Many blocks of points at once: the last coefficients of the whole are the sums of the coefficients of the blocks.
use Rattle.std.proofs.Common.{◌≡◌, ℕ, zero, suc, ◌+◌, ◌-◌, ◌*◌, ◌%◌, ◌^◌, ◌<◌, ◌≤◌, Bool, cond, bit_xor, refl, sym, ap}
use Rattle.std.proofs.Common.{ap₂, ◌∙◌, subst, inl, inr, arith, add-zero, add-suc, add_assoc, pow-suc, pow-add}
use Rattle.std.proofs.Common.{pow_mono}
use Rattle.std.specs.Prelude.{nat_lt}
use Rattle.std.specs.Int.Bits.{xor_comm}
use Rattle.std.proofs.Math.Nat.{mul-le-mul_right}
use Rattle.std.proofs.lemmas.Bool.{cases_lt, lt-ltb}
use Rattle.std.proofs.lemmas.Grind.{common_steps}
use Rattle.rs_field.specs.words.Field.{product}
use Rattle.rs_field.specs.words.Subspace.{subspace}
use Rattle.rs_field.specs.words.Transform.{sum_below, forward}
use Rattle.rs_field.proofs.words_lemmas.Combination.{sum_below-suc, sum_below-zero, sum_below-add, sum_below-same}
use Rattle.rs_field.proofs.words_lemmas.Combination.{lower_half, upper_half}
use Rattle.rs_field.proofs.words_lemmas.Halves.{shift_half, few_halves, xor_undo}

-- ---- the coefficients after many blocks

-- The coefficients of a block of points from those of its halves. The subspace polynomial is c on the first half.
paired : ℕ → ℕ → (ℕ → ℕ) → (ℕ → ℕ) → ℕ → ℕ
paired half c a b q =
    cond (nat_lt q half) (bit_xor (a q) (product (bit_xor (a q) (b q)) c)) (bit_xor (a (q - half)) (b (q - half)))

paired-first : (half c : ℕ) (a b : ℕ → ℕ) (q : ℕ) → q < half
    → paired half c a b q ≡ bit_xor (a q) (product (bit_xor (a q) (b q)) c)
unfolding paired
paired-first half c a b q h =
    ap (λ (t : Bool). cond t (bit_xor (a q) (product (bit_xor (a q) (b q)) c)) (bit_xor (a (q - half)) (b (q - half))))
    (lt-ltb q half h)

paired-second : (half c : ℕ) (a b : ℕ → ℕ) (q : ℕ) → paired half c a b (half + q) ≡ bit_xor (a q) (b q)
unfolding paired
paired-second half c a b q = grind (arith, common_steps)

first_of : (half c : ℕ) (a b : ℕ → ℕ) (q : ℕ) → q < half
    → a q ≡ bit_xor (paired half c a b q) (product (paired half c a b (half + q)) c)
first_of half c a b q h =
    sym (ap₂ (λ v w. bit_xor v (product w c)) (paired-first half c a b q h) (paired-second half c a b q)
    ∙ xor_undo (a q) (product (bit_xor (a q) (b q)) c))

second_of : (half c : ℕ) (a b : ℕ → ℕ) (q : ℕ) → b q ≡ bit_xor (paired half c a b (half + q)) (a q)
second_of half c a b q =
    sym (ap (λ v. bit_xor v (a q)) (paired-second half c a b q ∙ xor_comm (a q) (b q)) ∙ xor_undo (b q) (a q))

-- The coefficients of 2 ^ n blocks of 2 ^ d points, joined from the coefficients g u, g (u + 1), .. of the blocks.
pub joined_blocks : ℕ → ℕ → ℕ → (ℕ → ℕ → ℕ) → ℕ → ℕ
joined_blocks d zero u g = g u
joined_blocks d (suc n) u g =
    paired (2 ^ (d + n)) (subspace (d + n) (u * 2 ^ d)) (joined_blocks d n u g) (joined_blocks d n (u + 2 ^ n) g)

power_suc : (d n : ℕ) → 2 ^ (d + suc n) ≡ 2 ^ suc (d + n)
power_suc d n = ap (λ e. 2 ^ e) (add-suc d n)

-- The blocks of the second half come after the blocks of the first half.
second_start : (d n u : ℕ) → u * 2 ^ d + 2 ^ (d + n) ≡ (u + 2 ^ n) * 2 ^ d
second_start d n u = let p : 2 ^ (d + n) ≡ 2 ^ d * 2 ^ n = pow-add 2 d n in omega (arith, p)

-- At the points of a block, the joined coefficients have the values of the block's coefficients.
pub values-joined : (d n u : ℕ) (g : ℕ → ℕ → ℕ) (j i : ℕ) → (u * 2 ^ d) % 2 ^ (d + n) ≡ 0
    → u * 2 ^ d + 2 ^ (d + n) ≤ 65536 → j < 2 ^ n → i < 2 ^ d
    → forward (2 ^ (d + n)) (u * 2 ^ d) (joined_blocks d n u g) (j * 2 ^ d + i)
    ≡ forward (2 ^ d) ((u + j) * 2 ^ d) (g (u + j)) i
unfolding joined_blocks
values-joined d zero u g j i whole fits hj hi = grind (arith, common_steps, add-zero)
values-joined d (suc n) u g j i whole fits hj hi =
    let aligned : (u * 2 ^ d) % 2 ^ suc (d + n) ≡ 0 = subst (λ (m : ℕ). (u * 2 ^ d) % m ≡ 0) (power_suc d n) whole in
    let room : u * 2 ^ d + 2 ^ suc (d + n) ≤ 65536 = subst (λ (m : ℕ). u * 2 ^ d + m ≤ 65536) (power_suc d n) fits in
    let few : d + n < 16 = few_halves (2 ^ suc (d + n)) (d + n) (u * 2 ^ d) refl room in
    let halves = shift_half (2 ^ suc (d + n)) (d + n) (u * 2 ^ d) refl aligned in
    let blocks : 2 ^ (d + n) ≡ 2 ^ d * 2 ^ n = pow-add 2 d n in
    let next : u * 2 ^ d + 2 ^ (d + n) ≡ (u + 2 ^ n) * 2 ^ d = second_start d n u in
    let c : ℕ = subspace (d + n) (u * 2 ^ d) in
    let a : ℕ → ℕ = joined_blocks d n u g in
    let b : ℕ → ℕ = joined_blocks d n (u + 2 ^ n) g in
    let all : ℕ → ℕ = paired (2 ^ (d + n)) c a b in
    let low : (q : ℕ) → q < 2 ^ (d + n) → a q ≡ bit_xor (all q) (product (all (2 ^ (d + n) + q)) c) = λ q h.
    first_of (2 ^ (d + n)) c a b q h in
    ap (λ m. forward m (u * 2 ^ d) all (j * 2 ^ d + i)) (power_suc d n)
    ∙ elim (cases_lt j (2 ^ n)) [
      | inl below ↦
          let at : j * 2 ^ d + i < 2 ^ (d + n) = inside j i (2 ^ n) (2 ^ d) (2 ^ (d + n)) blocks below hi in
          sym (lower_half (d + n) (u * 2 ^ d) few aligned room all a (j * 2 ^ d + i) at low)
          ∙ values-joined d n u g j i halves.0 (omega arith) below hi
      | inr above ↦
          let k : ℕ = j - 2 ^ n in
          let back : 2 ^ n + k ≡ j = omega arith in
          let at : k * 2 ^ d + i < 2 ^ (d + n) = inside k i (2 ^ n) (2 ^ d) (2 ^ (d + n)) blocks (omega arith) hi in
          ap (forward (2 ^ suc (d + n)) (u * 2 ^ d) all)
          (ap (λ v. v * 2 ^ d + i) (sym back) ∙ moved (2 ^ n) k (2 ^ d) i (2 ^ (d + n)) blocks)
          ∙ sym (upper_half (d + n) (u * 2 ^ d) few aligned room all a (k * 2 ^ d + i) at low b
          (λ q h. second_of (2 ^ (d + n)) c a b q))
          ∙ ap (λ s. forward (2 ^ (d + n)) s b (k * 2 ^ d + i)) next
          ∙ values-joined d n (u + 2 ^ n) g k i (subst (λ (s : ℕ). s % 2 ^ (d + n) ≡ 0) next halves.1) (omega arith)
          (omega arith) hi
          ∙ ap (λ v. forward (2 ^ d) (v * 2 ^ d) (g v) i) (omega arith)
    ]
  where
    inside : (j i n m all : ℕ) → all ≡ m * n → j < n → i < m → j * m + i < all
    inside j i n m all e hj hi =
        let le : suc j * m ≤ n * m = mul-le-mul_right m (omega arith) in
        omega arith

    moved : (n k m i all : ℕ) → all ≡ m * n → (n + k) * m + i ≡ all + (k * m + i)
    moved n k m i all e = omega arith

-- The last 2 ^ d joined coefficients are the sums of the coefficients of the blocks.
pub last-joined : (d n u : ℕ) (g : ℕ → ℕ → ℕ) (before q : ℕ) → before + 2 ^ d ≡ 2 ^ (d + n)
    → joined_blocks d n u g (before + q) ≡ sum_below (2 ^ n) (λ j. g (u + j) q)
unfolding joined_blocks
last-joined d zero u g before q is = grind (arith, common_steps, add-zero, sum_below-suc, sum_below-zero)
last-joined d (suc n) u g before q is =
    let size : 2 ^ (d + suc n) ≡ 2 ^ suc (d + n) = power_suc d n in
    let twice : 2 ^ suc (d + n) ≡ 2 ^ (d + n) * 2 = pow-suc 2 (d + n) in
    let double : 2 ^ suc n ≡ 2 ^ n + 2 ^ n = (let p = pow-suc 2 n in omega arith) in
    let least : 2 ^ d ≤ 2 ^ (d + n) = pow_mono (omega arith) in
    let rest : ℕ = 2 ^ (d + n) - 2 ^ d in
    let whole : 2 ^ (d + n) - 2 ^ d + 2 ^ d ≡ 2 ^ (d + n) = omega arith in
    let at : before + q ≡ 2 ^ (d + n) + (2 ^ (d + n) - 2 ^ d + q) = omega arith in
    let c : ℕ = subspace (d + n) (u * 2 ^ d) in
    let a : ℕ → ℕ = joined_blocks d n u g in
    let b : ℕ → ℕ = joined_blocks d n (u + 2 ^ n) g in
    ap (paired (2 ^ (d + n)) c a b) at
    ∙ paired-second (2 ^ (d + n)) c a b (rest + q)
    ∙ ap₂ bit_xor (last-joined d n u g rest q whole) (last-joined d n (u + 2 ^ n) g rest q whole)
    ∙ sym (ap (λ m. sum_below m (λ j. g (u + j) q)) double ∙ sum_below-add (2 ^ n) (2 ^ n) (λ j. g (u + j) q)
    ∙ ap (bit_xor (sum_below (2 ^ n) (λ j. g (u + j) q)))
    (sum_below-same (2 ^ n) (λ j. g (u + (2 ^ n + j)) q) (λ j. g (u + 2 ^ n + j) q)
    (λ j h. ap (λ v. g v q) (sym (add_assoc u (2 ^ n) j)))))
