-- Products over the words below a power of two.
use Rattle.std.proofs.Common.{◌≡◌, ℕ, zero, suc, ◌+◌, ◌-◌, ◌*◌, ◌/◌, ◌^◌, ◌<◌, ◌≤◌, bit_xor, refl, sym, ap, ap₂, ◌∙◌}
use Rattle.std.proofs.Common.{subst, arith, add-zero, zero-add, add-suc, pow_mono, lt_of_le_of_lt, zero-mul, one-mul}
use Rattle.std.proofs.Common.{suc-mul, add_assoc, add-one, pow-add, sub-add_cancel, add-sub_cancel}
use Rattle.std.proofs.Common.{mul-lt-mul_of_pos_right}
use Rattle.std.proofs.Math.Nat.{div-eq_of_lt, two-pow-succ}
use Rattle.std.specs.Int.Bits.{xor_assoc, xor_shr, xor_lt, xor_shifted}
use Rattle.std.proofs.lemmas.Nat.{pow_pos, shr-shr, shl-shr, shr_le}
use Rattle.std.proofs.lemmas.Grind.{common_steps}
use Rattle.rs_field.specs.words.Field.{product}
use Rattle.rs_field.specs.words.Subspace.{product_below, subspace}
use Rattle.rs_field.proofs.words_lemmas.Product.{product_lt, product_assoc, product_one, one_product, product_xor_right}
use Rattle.rs_field.proofs.words_lemmas.Inverse.{square_and_self}

pub product_below_lt : (n : ℕ) (f : ℕ → ℕ) → product_below n f < 2 ^ 16
unfolding product_below
product_below_lt zero f = omega arith
product_below_lt (suc n) f = product_lt _ (f n)

pub product_below-same : (n : ℕ) (f g : ℕ → ℕ) → ((i : ℕ) → i < n → f i ≡ g i) → product_below n f ≡ product_below n g
unfolding product_below
product_below-same zero f g same = refl
product_below-same (suc n) f g same =
    ap₂ product (product_below-same n f g (λ i h. same i (omega arith))) (same n (omega arith))

pub product_below-suc : (n : ℕ) (f : ℕ → ℕ) → product_below (suc n) f ≡ product (product_below n f) (f n)
unfolding product_below
product_below-suc n f = refl

pub product_below-zero : (f : ℕ → ℕ) → product_below 0 f ≡ 1
unfolding product_below
product_below-zero f = refl

-- A product over m + n numbers is the product over the first m times the product over the next n.
pub product_below-add : (m n : ℕ) (f : ℕ → ℕ) → ((i : ℕ) → i < m + n → f i < 2 ^ 16)
    → product_below (m + n) f ≡ product (product_below m f) (product_below n (λ i. f (m + i)))
unfolding product_below
product_below-add m zero f words =
    ap (λ k. product_below k f) (add-zero m) ∙ sym (product_one (product_below m f) (product_below_lt m f))
product_below-add m (suc n) f words =
    ap (λ k. product_below k f) (add-suc m n)
    ∙ ap (λ v. product v (f (m + n))) (product_below-add m n f (λ i h. words i (omega arith)))
    ∙ product_assoc (product_below m f) (product_below n (λ i. f (m + i))) (f (m + n)) (product_below_lt m f)
    (product_below_lt n _) (words (m + n) (omega arith))

subspace_is : (d x : ℕ) → subspace d x ≡ product_below (2 ^ d) (λ y. bit_xor x y)
unfolding subspace
subspace_is d x = refl

-- The product over the points from 0 on is the subspace polynomial.
pub subspace_from_zero : (e x : ℕ) → product_below (2 ^ e) (λ i. bit_xor x (0 + i)) ≡ subspace e x
subspace_from_zero e x =
    product_below-same (2 ^ e) (λ i. bit_xor x (0 + i)) (λ y. bit_xor x y) (λ i h. ap (bit_xor x) (zero-add i))
    ∙ sym (subspace_is e x)

-- The product x * (x + 1) is x shifted right by one bit.
pub times_next : (u : ℕ) → u < 2 ^ 16 → product u (bit_xor u 1) ≡ u / 2
times_next u hu =
    product_xor_right u u 1 ∙ ap (bit_xor (product u u)) (product_one u hu) ∙ square_and_self u hu

top_bit : (d y : ℕ) → y < 2 ^ d → 2 ^ d + y ≡ bit_xor (2 ^ d) y
top_bit d y h =
    ap (λ v. v + y) (sym (one-mul (2 ^ d))) ∙ sym (xor_shifted 1 d y h) ∙ ap (λ v. bit_xor v y) (one-mul (2 ^ d))

-- The value s_d(x) is x shifted right by d bits.
pub subspace_shift : (d x : ℕ) → d ≤ 16 → x < 2 ^ 16 → subspace d x ≡ x / 2 ^ d
subspace_shift zero x hd hx =
    grind (arith, common_steps, subspace_is, product_below-suc, product_below-zero, one_product)
subspace_shift (suc d) x hd hx =
    let less : d ≤ 16 = omega arith in
    let half : 2 ^ suc d ≤ 2 ^ 16 = pow_mono hd in
    let whole : 2 ^ suc d ≡ 2 ^ d + 2 ^ d = two-pow-succ d in
    let pos : 0 < 2 ^ d = pow_pos d in
    let bit : 2 ^ d < 2 ^ 16 = omega arith in
    let moved : bit_xor x (2 ^ d) < 2 ^ 16 = xor_lt 16 x (2 ^ d) hx bit in
    let u : ℕ = x / 2 ^ d in
    let hu : u < 2 ^ 16 = lt_of_le_of_lt (shr_le x d) hx in
    let upper : product_below (2 ^ d) (λ y. bit_xor x (2 ^ d + y)) ≡ subspace d (bit_xor x (2 ^ d)) =
    product_below-same (2 ^ d) (λ y. bit_xor x (2 ^ d + y)) (λ y. bit_xor (bit_xor x (2 ^ d)) y)
    (λ y h. ap (bit_xor x) (top_bit d y h) ∙ sym (xor_assoc x (2 ^ d) y))
    ∙ sym (subspace_is d (bit_xor x (2 ^ d))) in
    let one : 2 ^ d / 2 ^ d ≡ 1 = ap (λ v. v / 2 ^ d) (sym (one-mul (2 ^ d))) ∙ shl-shr 1 d in
    let words : (i : ℕ) → i < 2 ^ d + 2 ^ d → bit_xor x i < 2 ^ 16 = λ i h. xor_lt 16 x i hx (omega arith) in
    subspace_is (suc d) x
    ∙ ap (λ n. product_below n (λ y. bit_xor x y)) (two-pow-succ d)
    ∙ product_below-add (2 ^ d) (2 ^ d) (λ y. bit_xor x y) words
    ∙ ap₂ product (sym (subspace_is d x) ∙ subspace_shift d x less hx)
    (upper ∙ subspace_shift d (bit_xor x (2 ^ d)) less moved ∙ xor_shr x (2 ^ d) d ∙ ap (bit_xor u) one)
    ∙ times_next u hu
    ∙ shr-shr x d 1
    ∙ ap (λ k. x / 2 ^ k) (add-suc d 0 ∙ ap suc (add-zero d))

-- A product over m * n numbers is a product over m blocks of n numbers.
pub product_below-mul : (m n : ℕ) (f : ℕ → ℕ) → ((i : ℕ) → i < m * n → f i < 2 ^ 16)
    → product_below (m * n) f ≡ product_below m (λ u. product_below n (λ i. f (u * n + i)))
product_below-mul zero n f words = grind (arith, common_steps, zero-mul, product_below-zero)
product_below-mul (suc m) n f words =
    grind (
      arith,
      common_steps,
      suc-mul,
      product_below-add,
      product_below-suc,
      product_below-mul m n f
          (λ i h. words i (omega arith)),
    )

-- The product of the words from 1 to 2 ^ k - 1 is 1.
nonzero_words : (k : ℕ) → k ≤ 16 → product_below (2 ^ k - 1) (λ i. i + 1) ≡ 1
nonzero_words zero hk = product_below-zero (λ i. i + 1)
nonzero_words (suc k) hk =
    let pos : 0 < 2 ^ k = pow_pos k in
    let wide : 2 ^ suc k ≤ 2 ^ 16 = pow_mono hk in
    let parts : 2 ^ suc k - 1 ≡ 2 ^ k - 1 + 2 ^ k = omega arith in
    cc (
      product_below-add (2 ^ k - 1) (2 ^ k) (λ i. i + 1) (λ i h. omega arith),
      nonzero_words k (omega arith),
      product_one 1 (omega arith),
      product_below-same (2 ^ k) (λ i. 2 ^ k - 1 + i + 1) (λ y. bit_xor (2 ^ k) y)
          (λ i h. shifted (2 ^ k) i pos ∙ top_bit k i h),
      subspace_is k (2 ^ k),
      subspace_shift k (2 ^ k) (omega arith) (omega arith),
      one-mul (2 ^ k),
      shl-shr 1 k,
    )
  where
    shifted : (m i : ℕ) → 0 < m → m - 1 + i + 1 ≡ m + i
    shifted m i pos = omega arith

-- The product of x + y over a block of words y is the number of the block plus 1, for a word x below 2 ^ d.
block : (d x v : ℕ) → d ≤ 16 → x < 2 ^ d → suc v * 2 ^ d < 2 ^ 16
    → product_below (2 ^ d) (λ i. bit_xor x (2 ^ d + (v * 2 ^ d + i))) ≡ v + 1
block d x v hd hx hv =
    let wide : 2 ^ d ≤ 2 ^ 16 = pow_mono hd in
    let x_word : x < 2 ^ 16 = omega arith in
    let low : x / 2 ^ d ≡ 0 = div-eq_of_lt hx in
    product_below-same (2 ^ d) (λ i. bit_xor x (2 ^ d + (v * 2 ^ d + i))) (λ y. bit_xor (bit_xor x (suc v * 2 ^ d)) y)
    (λ i h. ap (bit_xor x)
    (sym (add_assoc (2 ^ d) (v * 2 ^ d) i) ∙ ap (λ k. k + i) (one_more_block (2 ^ d) v)
    ∙ sym (xor_shifted (suc v) d i h))
    ∙ sym (xor_assoc x (suc v * 2 ^ d) i))
    ∙ sym (subspace_is d (bit_xor x (suc v * 2 ^ d)))
    ∙ subspace_shift d (bit_xor x (suc v * 2 ^ d)) hd (xor_lt 16 x (suc v * 2 ^ d) x_word hv)
    ∙ xor_shr x (suc v * 2 ^ d) d ∙ ap₂ bit_xor low (shl-shr (suc v) d) ∙ sym (add-one v)
  where
    one_more_block : (n v : ℕ) → n + v * n ≡ suc v * n
    one_more_block n v = omega (arith, suc-mul v n)

-- The product of x + y over the words y from 2 ^ d on is 1, for x below 2 ^ d.
pub outside : (d x : ℕ) → d ≤ 16 → x < 2 ^ d → product_below (65536 - 2 ^ d) (λ i. bit_xor x (2 ^ d + i)) ≡ 1
outside d x hd hx =
    let wide : 2 ^ d ≤ 2 ^ 16 = pow_mono hd in
    let pos : 0 < 2 ^ (16 - d) = pow_pos (16 - d) in
    let all : 2 ^ (16 - d) * 2 ^ d ≡ 65536 = sym (pow-add 2 (16 - d) d) ∙ ap (λ (e : ℕ). 2 ^ e) (sub-add_cancel hd) in
    let count : 65536 - 2 ^ d ≡ (2 ^ (16 - d) - 1) * 2 ^ d =
    ap (λ v. v - 2 ^ d) (sym all) ∙ less_one (2 ^ (16 - d)) (2 ^ d) pos in
    cc (
      product_below-mul (2 ^ (16 - d) - 1) (2 ^ d) (λ i. bit_xor x (2 ^ d + i))
          (λ i h. xor_lt 16 x (2 ^ d + i) (omega arith) (omega arith)),
      product_below-same (2 ^ (16 - d) - 1) (λ v. product_below (2 ^ d) (λ i. bit_xor x (2 ^ d + (v * 2 ^ d + i))))
          (λ v. v + 1)
          (λ v h. block d x v hd hx (room v (2 ^ (16 - d)) (2 ^ d) (pow_pos d) h all)),
      nonzero_words (16 - d) (omega arith),
    )
  where
    less_one : (m n : ℕ) → 0 < m → m * n - n ≡ (m - 1) * n
    less_one zero n h = absurd (omega arith)
    less_one (suc m) n h = let e : suc m * n ≡ m * n + n = suc-mul m n in let s : suc m - 1 ≡ m = omega arith in
        ap (λ v. v - n) e ∙ add-sub_cancel (m * n) n ∙ ap (λ v. v * n) (sym s)

    room : (v m n : ℕ) → 0 < n → v < m - 1 → m * n ≡ 65536 → suc v * n < 65536
    room v m n pos h e = let lt : suc v < m = omega arith in
        subst (λ (w : ℕ). suc v * n < w) e (mul-lt-mul_of_pos_right lt pos)
