-- Sums of basis polynomials: a sum of 2n terms is two sums of n terms, and the values of a sum on a block of points.
use Rattle.std.proofs.Common.{◌≡◌, ℕ, zero, suc, ◌+◌, ◌-◌, ◌*◌, ◌/◌, ◌%◌, ◌^◌, ◌<◌, ◌≤◌, ◌≢◌, cond, eqb, bit_xor, refl}
use Rattle.std.proofs.Common.{sym, ap, ap₂, ◌∙◌, inl, inr, arith, one-mul, add-zero, add-suc, add_assoc, pow-suc}
use Rattle.std.proofs.Common.{pow-add, pow_mono}
use Rattle.std.proofs.Math.Nat.{div-eq_of_lt, mul-add-div_right, zero-div, two-pow-succ}
use Rattle.std.specs.Int.Bits.{xor_comm, xor_assoc, xor_zero_r, xor_lt, xor_shifted}
use Rattle.std.proofs.lemmas.Bool.{cases_eq, cases_lt}
use Rattle.std.proofs.lemmas.Nat.{pow_pos, div-mul-add, div-add-mod'}
use Rattle.std.proofs.lemmas.Grind.{common_steps}
use Rattle.rs_field.specs.words.Field.{product}
use Rattle.rs_field.specs.words.Subspace.{product_below, subspace, basis}
use Rattle.rs_field.specs.words.Transform.{sum_below, forward}
use Rattle.rs_field.proofs.words_lemmas.Linear.{xor_swap}
use Rattle.rs_field.proofs.words_lemmas.Product.{product_lt, product_one, zero_product, product_xor_left}
use Rattle.rs_field.proofs.words_lemmas.Product.{product_xor_right}
use Rattle.rs_field.proofs.words_lemmas.Total.{product-comm, product-assoc, product-right_comm}
use Rattle.rs_field.proofs.words_lemmas.Subspace.{product_below_lt, product_below-same, product_below-suc}
use Rattle.rs_field.proofs.words_lemmas.Subspace.{product_below-zero, subspace_shift}

-- ---- sums

pub sum_below-suc : (n : ℕ) (f : ℕ → ℕ) → sum_below (suc n) f ≡ bit_xor (sum_below n f) (f n)
unfolding sum_below
sum_below-suc n f = refl

-- One more term is added to a sum.
pub sum_below-added : (f : ℕ → ℕ) (a sum n : ℕ) → sum ≡ bit_xor a (sum_below n f)
    → bit_xor sum (f n) ≡ bit_xor a (sum_below (n + 1) f)
sum_below-added f a sum n is =
    let next : suc n ≡ n + 1 = omega arith in
    ap (λ v. bit_xor v (f n)) is ∙ xor_assoc a (sum_below n f) (f n)
    ∙ ap (bit_xor a) (sym (sum_below-suc n f) ∙ ap (λ m. sum_below m f) next)

pub sum_below_lt : (n : ℕ) (f : ℕ → ℕ) → ((i : ℕ) → i < n → f i < 2 ^ 16) → sum_below n f < 2 ^ 16
unfolding sum_below
sum_below_lt zero f words = pow_pos 16
sum_below_lt (suc n) f words =
    xor_lt 16 (sum_below n f) (f n) (sum_below_lt n f (λ i h. words i (omega arith))) (words n (omega arith))

pub sum_below-same : (n : ℕ) (f g : ℕ → ℕ) → ((i : ℕ) → i < n → f i ≡ g i) → sum_below n f ≡ sum_below n g
unfolding sum_below
sum_below-same zero f g same = refl
sum_below-same (suc n) f g same =
    ap₂ bit_xor (sum_below-same n f g (λ i h. same i (omega arith))) (same n (omega arith))

pub sum_below-zero : (n : ℕ) (f : ℕ → ℕ) → ((i : ℕ) → i < n → f i ≡ 0) → sum_below n f ≡ 0
unfolding sum_below
sum_below-zero zero f zeros = refl
sum_below-zero (suc n) f zeros = ap₂ bit_xor (sum_below-zero n f (λ i h. zeros i (omega arith))) (zeros n (omega arith))

pub sum_below-xor : (n : ℕ) (f g : ℕ → ℕ)
    → sum_below n (λ q. bit_xor (f q) (g q)) ≡ bit_xor (sum_below n f) (sum_below n g)
unfolding sum_below
sum_below-xor zero f g = refl
sum_below-xor (suc n) f g =
    ap (λ v. bit_xor v (bit_xor (f n) (g n))) (sum_below-xor n f g)
    ∙ xor_swap (sum_below n f) (sum_below n g) (f n) (g n)

pub sum_below-product : (n : ℕ) (f : ℕ → ℕ) (c : ℕ) → sum_below n (λ q. product (f q) c) ≡ product (sum_below n f) c
unfolding sum_below
sum_below-product zero f c = sym (zero_product c)
sum_below-product (suc n) f c =
    ap (λ v. bit_xor v (product (f n) c)) (sum_below-product n f c) ∙ sym (product_xor_left (sum_below n f) (f n) c)

pub sum_below-add : (m n : ℕ) (f : ℕ → ℕ) → sum_below (m + n) f ≡ bit_xor (sum_below m f) (sum_below n (λ i. f (m + i)))
unfolding sum_below
sum_below-add m zero f = ap (λ k. sum_below k f) (add-zero m) ∙ sym (xor_zero_r (sum_below m f))
sum_below-add m (suc n) f =
    cc (add-suc m n, sum_below-add m n f, xor_assoc (sum_below m f) (sum_below n (λ i. f (m + i))) (f (m + n)))

-- ---- the basis

-- Changing one factor from 1 to s multiplies a product by s.
product_below-one_more : (n e s : ℕ) (f g : ℕ → ℕ) → e < n → f e ≡ 1 → g e ≡ s → ((d : ℕ) → d < n → d ≢ e → g d ≡ f d)
    → product_below n g ≡ product (product_below n f) s
product_below-one_more zero e s f g he one is same = absurd (omega arith)
product_below-one_more (suc n) e s f g he one is same =
    elim (cases_eq e n) [
      | inl last ↦
          product_below-suc n g
          ∙ ap₂ product (product_below-same n g f
          (λ i h. same i (omega arith) (λ (x : i ≡ e). let no : ⊥ = omega arith in no))) (ap g (sym last) ∙ is)
          ∙ ap (λ v. product v s)
          (sym (product_below-suc n f ∙ ap (product (product_below n f)) (ap f (sym last) ∙ one)
          ∙ product_one (product_below n f) (product_below_lt n f)))
      | inr other ↦
          product_below-suc n g
          ∙ ap₂ product (product_below-one_more n e s f g (omega arith) one is (λ d h. same d (omega arith)))
          (same n (omega arith) (λ (x : n ≡ e). other (sym x)))
          ∙ product-assoc (product_below n f) s (f n)
          ∙ ap (product (product_below n f)) (product-comm s (f n))
          ∙ sym (product-assoc (product_below n f) (f n) s)
          ∙ ap (λ v. product v s) (sym (product_below-suc n f))
    ]

product_below-ones : (n : ℕ) → product_below n (λ d. 1) ≡ 1
product_below-ones zero = product_below-zero (λ d. 1)
product_below-ones (suc n) = product_below-suc n (λ d. 1) ∙ ap (λ v. product v 1) (product_below-ones n)
    ∙ product_one 1 (omega arith)

-- The factor of the basis polynomial q at the bit d.
factor : ℕ → ℕ → ℕ → ℕ
factor q x d = cond (eqb (q / 2 ^ d % 2) 1) (subspace d x) 1

basis_is : (q x : ℕ) → basis q x ≡ product_below 16 (factor q x)
unfolding basis factor
basis_is q x = refl

factor-bit : (q x d b : ℕ) → q / 2 ^ d % 2 ≡ b → factor q x d ≡ cond (eqb b 1) (subspace d x) 1
unfolding factor
factor-bit q x d b e = ap (λ (b : ℕ). cond (eqb b 1) (subspace d x) 1) e

-- Adding 2 ^ e to a number below 2 ^ e sets bit e and changes no other bit.
bit_below : (d e q : ℕ) → d < e → (2 ^ e + q) / 2 ^ d % 2 ≡ q / 2 ^ d % 2
bit_below d e q h =
    let k : ℕ = e - suc d in
    grind (
      arith,
      common_steps,
      mul-add-div_right (pow_pos d) (2 ^ k * 2) q,
      even (2 ^ k) (q / 2 ^ d),
      pow-add 2 k
          (suc d),
      regroup (2 ^ k) d,
    )
  where
    regroup : (m d : ℕ) → m * 2 ^ suc d ≡ m * 2 * 2 ^ d
    regroup m d = omega (arith, ap (λ v. m * v) (pow-suc 2 d))

    even : (m y : ℕ) → (m * 2 + y) % 2 ≡ y % 2
    even m y = omega arith

top_bit_of : (e q : ℕ) → q < 2 ^ e → (2 ^ e + q) / 2 ^ e % 2 ≡ 1
top_bit_of e q h =
    ap (λ v. (v + q) / 2 ^ e % 2) (sym (one-mul (2 ^ e))) ∙ ap (λ v. v % 2) (div-mul-add 1 (2 ^ e) q h)

bit_past : (d q : ℕ) → q < 2 ^ d → q / 2 ^ d % 2 ≡ 0
bit_past d q h = ap (λ v. v % 2) (div-eq_of_lt h)

other_bit : (d e q : ℕ) → q < 2 ^ e → d ≢ e → (2 ^ e + q) / 2 ^ d % 2 ≡ q / 2 ^ d % 2
other_bit d e q h apart =
    elim (cases_lt d e) [
      | inl below ↦ bit_below d e q below
      | inr above ↦
          let wide : 2 ^ suc e ≤ 2 ^ d = pow_mono (omega arith) in
          bit_past d (2 ^ e + q) (omega arith) ∙ sym (bit_past d q (omega arith))
    ]

pub basis-zero : (x : ℕ) → basis 0 x ≡ 1
basis-zero x =
    basis_is 0 x
    ∙ product_below-same 16 (factor 0 x) (λ d. 1) (λ d h. factor-bit 0 x d 0 (ap (λ v. v % 2) (zero-div (2 ^ d))))
    ∙ product_below-ones 16

-- The basis polynomial 2 ^ e + q is the basis polynomial q times the subspace polynomial e.
pub basis-half : (e q x : ℕ) → e < 16 → q < 2 ^ e → basis (2 ^ e + q) x ≡ product (basis q x) (subspace e x)
basis-half e q x he hq =
    basis_is (2 ^ e + q) x
    ∙ product_below-one_more 16 e (subspace e x) (factor q x) (factor (2 ^ e + q) x) he
    (factor-bit q x e 0 (bit_past e q hq)) (factor-bit (2 ^ e + q) x e 1 (top_bit_of e q hq))
    (λ d h apart. factor-bit (2 ^ e + q) x d _ (other_bit d e q hq apart) ∙ sym (factor-bit q x d _ refl))
    ∙ ap (λ v. product v (subspace e x)) (sym (basis_is q x))

-- ---- the forward transform

pub forward_is : (n shift : ℕ) (f : ℕ → ℕ) (i : ℕ)
    → forward n shift f i ≡ sum_below n (λ q. product (f q) (basis q (shift + i)))
unfolding forward
forward_is n shift f i = refl

pub forward_lt : (n shift : ℕ) (f : ℕ → ℕ) (i : ℕ) → forward n shift f i < 2 ^ 16
unfolding forward
forward_lt n shift f i = sum_below_lt n _ (λ q h. product_lt (f q) (basis q (shift + i)))

pub forward-same : (n shift : ℕ) (f g : ℕ → ℕ) (i : ℕ) → ((q : ℕ) → q < n → f q ≡ g q)
    → forward n shift f i ≡ forward n shift g i
unfolding forward
forward-same n shift f g i same = grind (arith, common_steps, sum_below-same)

pub forward-zero : (n shift : ℕ) (f : ℕ → ℕ) (i : ℕ) → ((q : ℕ) → q < n → f q ≡ 0) → forward n shift f i ≡ 0
unfolding forward
forward-zero n shift f i zeros =
    sum_below-zero n _ (λ q h. ap (λ v. product v (basis q (shift + i))) (zeros q h)
    ∙ zero_product (basis q (shift + i)))

pub forward-xor : (n shift : ℕ) (f g : ℕ → ℕ) (i : ℕ)
    → forward n shift (λ q. bit_xor (f q) (g q)) i ≡ bit_xor (forward n shift f i) (forward n shift g i)
unfolding forward
forward-xor n shift f g i =
    sum_below-same n (λ q. product (bit_xor (f q) (g q)) (basis q (shift + i)))
    (λ q. bit_xor (product (f q) (basis q (shift + i))) (product (g q) (basis q (shift + i))))
    (λ q h. product_xor_left (f q) (g q) (basis q (shift + i)))
    ∙ sum_below-xor n (λ q. product (f q) (basis q (shift + i))) (λ q. product (g q) (basis q (shift + i)))

pub forward-product : (n shift : ℕ) (f : ℕ → ℕ) (c i : ℕ)
    → forward n shift (λ q. product (f q) c) i ≡ product (forward n shift f i) c
unfolding forward
forward-product n shift f c i =
    sum_below-same n (λ q. product (product (f q) c) (basis q (shift + i)))
    (λ q. product (product (f q) (basis q (shift + i))) c)
    (λ q h. product-right_comm (f q) c (basis q (shift + i)))
    ∙ sum_below-product n (λ q. product (f q) (basis q (shift + i))) c

-- The forward transform depends on the shift and the index only through the point, which is their sum.
pub forward-moved : (n shift more : ℕ) (f : ℕ → ℕ) (i : ℕ) → forward n (shift + more) f i ≡ forward n shift f (more + i)
unfolding forward
forward-moved n shift more f i = ap (λ x. sum_below n (λ q. product (f q) (basis q x))) (add_assoc shift more i)

-- The forward transform of one word is this word.
pub forward-one : (shift : ℕ) (f : ℕ → ℕ) (i : ℕ) → f 0 < 2 ^ 16 → forward 1 shift f i ≡ f 0
forward-one shift f i word =
    grind (arith, common_steps, forward_is, sum_below-suc, sum_below-zero, basis-zero, product_one)

-- A sum of 2 ^ (e + 1) terms is the sum of its first half plus the subspace polynomial e times the sum of its second
-- half.
pub forward-half : (e shift : ℕ) (f : ℕ → ℕ) (i : ℕ) → e < 16
    → forward (2 ^ suc e) shift f i
    ≡ bit_xor (forward (2 ^ e) shift f i)
    (product (forward (2 ^ e) shift (λ q. f (2 ^ e + q)) i) (subspace e (shift + i)))
forward-half e shift f i he =
    let x : ℕ = shift + i in
    let s : ℕ = subspace e x in
    forward_is (2 ^ suc e) shift f i
    ∙ ap (λ n. sum_below n (λ q. product (f q) (basis q x))) (two-pow-succ e)
    ∙ sum_below-add (2 ^ e) (2 ^ e) (λ q. product (f q) (basis q x))
    ∙ ap₂ bit_xor (sym (forward_is (2 ^ e) shift f i))
    (sum_below-same (2 ^ e) (λ q. product (f (2 ^ e + q)) (basis (2 ^ e + q) x))
    (λ q. product (product (f (2 ^ e + q)) (basis q x)) s)
    (λ q h. ap (product (f (2 ^ e + q))) (basis-half e q x he h) ∙ sym (product-assoc (f (2 ^ e + q)) (basis q x) s))
    ∙ sum_below-product (2 ^ e) (λ q. product (f (2 ^ e + q)) (basis q x)) s
    ∙ ap (λ v. product v s) (sym (forward_is (2 ^ e) shift (λ q. f (2 ^ e + q)) i)))

-- ---- a block of 2 ^ (e + 1) points

-- A multiple of m * n is a multiple of n.
pub aligned_parts : (size m n shift : ℕ) → size ≡ m * n → shift % size ≡ 0 → shift ≡ shift / size * m * n
aligned_parts size m n shift whole aligned = regroup (shift / size) (div-add-mod' shift size)
  where
    regroup : (u : ℕ) → u * size + shift % size ≡ shift → shift ≡ u * m * n
    regroup u parts = omega (arith, ap (λ v. u * v) whole)

even_block : (e shift : ℕ) → shift % 2 ^ suc e ≡ 0 → (u : ℕ) × (shift ≡ u * 2 * 2 ^ e)
even_block e shift h = (shift / 2 ^ suc e, aligned_parts (2 ^ suc e) 2 (2 ^ e) shift (omega (arith, pow-suc 2 e)) h)

mixed : (e shift : ℕ) (f g : ℕ → ℕ) (i : ℕ)
    → ((q : ℕ) → q < 2 ^ e → g q ≡ bit_xor (f q) (product (f (2 ^ e + q)) (subspace e shift)))
    → forward (2 ^ e) shift g i
    ≡ bit_xor (forward (2 ^ e) shift f i) (product (forward (2 ^ e) shift (λ q. f (2 ^ e + q)) i) (subspace e shift))
mixed e shift f g i made =
    let c : ℕ = subspace e shift in
    forward-same (2 ^ e) shift g (λ q. bit_xor (f q) (product (f (2 ^ e + q)) c)) i made
    ∙ forward-xor (2 ^ e) shift f (λ q. product (f (2 ^ e + q)) c) i
    ∙ ap (bit_xor (forward (2 ^ e) shift f i)) (forward-product (2 ^ e) shift (λ q. f (2 ^ e + q)) c i)

module _ (e shift : ℕ) (he : e < 16) (whole : shift % 2 ^ suc e ≡ 0) (fits : shift + 2 ^ suc e ≤ 65536) where
  -- On the first half of a block, the subspace polynomial e has the value that it has at the start of the block.
  lower_factor : (i : ℕ) → i < 2 ^ e
      → subspace e (shift + i) ≡ subspace e shift
  lower_factor i hi =
      grind (arith, common_steps, two-pow-succ, even_block, subspace_shift, div-mul-add, add-zero, pow_pos)

  -- On the second half of a block, the subspace polynomial e has the value at the start of the block XOR 1.
  upper_factor : (i : ℕ) → i < 2 ^ e
      → subspace e (shift + (2 ^ e + i)) ≡ bit_xor (subspace e shift) 1
  upper_factor i hi =
      let d : 2 ^ suc e ≡ 2 ^ e + 2 ^ e = two-pow-succ e in
      let b = even_block e shift whole in
      subspace_shift e (shift + (2 ^ e + i)) (omega arith) (omega arith)
      ∙ ap (λ v. (v + (2 ^ e + i)) / 2 ^ e) b.1 ∙ ap (λ v. v / 2 ^ e) (next (b.0 * 2) (2 ^ e) i)
      ∙ div-mul-add (b.0 * 2 + 1) (2 ^ e) i hi
      ∙ sym (xor_shifted b.0 1 1 (omega arith))
      ∙ ap (λ v. bit_xor v 1)
      (sym (subspace_shift e shift (omega arith) (omega arith)
      ∙ ap (λ v. v / 2 ^ e) (b.1 ∙ sym (add-zero (b.0 * 2 * 2 ^ e))) ∙ div-mul-add (b.0 * 2) (2 ^ e) 0 (pow_pos e)))
    where
      next : (u m i : ℕ) → u * m + (m + i) ≡ (u + 1) * m + i
      next u m i = omega arith

  module _ (f g : ℕ → ℕ) (i : ℕ) (hi : i < 2 ^ e)
      (made : (q : ℕ) → q < 2 ^ e → g q ≡ bit_xor (f q) (product (f (2 ^ e + q)) (subspace e shift))) where
    -- The transform of the first half of the rows after a butterfly is the first half of the transform of all rows
    -- before the butterfly.
    pub lower_half : forward (2 ^ e) shift g i ≡ forward (2 ^ suc e) shift f i
    lower_half = grind (arith, common_steps, mixed, forward-half, lower_factor)

    -- The transform of the second half of the rows after a butterfly is the second half of the transform of all rows
    -- before the butterfly.
    pub upper_half : (h : ℕ → ℕ) → ((q : ℕ) → q < 2 ^ e → h q ≡ bit_xor (f (2 ^ e + q)) (g q))
        → forward (2 ^ e) (shift + 2 ^ e) h i ≡ forward (2 ^ suc e) shift f (2 ^ e + i)
    upper_half h sums =
        let c : ℕ = subspace e shift in
        let j : ℕ = 2 ^ e + i in
        let second : ℕ → ℕ = λ q. f (2 ^ e + q) in
        let top : ℕ = forward (2 ^ e) shift second j in
        let low : ℕ = forward (2 ^ e) shift f j in
        forward-moved (2 ^ e) shift (2 ^ e) h i
        ∙ forward-same (2 ^ e) shift h (λ q. bit_xor (second q) (g q)) j sums
        ∙ forward-xor (2 ^ e) shift second g j
        ∙ ap (bit_xor top) (mixed e shift f g j made)
        ∙ one_more top low c (forward_lt (2 ^ e) shift second j)
        ∙ sym (forward-half e shift f j he
        ∙ ap (λ v. bit_xor low (product top v)) (upper_factor i hi))
      where
        one_more : (top low c : ℕ) → top < 2 ^ 16
            → bit_xor top (bit_xor low (product top c)) ≡ bit_xor low (product top (bit_xor c 1))
        one_more top low c word =
            xor_comm top (bit_xor low (product top c)) ∙ xor_assoc low (product top c) top
            ∙ ap (bit_xor low) (ap (bit_xor (product top c)) (sym (product_one top word))
            ∙ sym (product_xor_right top c 1))
