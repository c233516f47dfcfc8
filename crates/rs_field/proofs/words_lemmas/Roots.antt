-- A polynomial with as many roots as coefficients is zero.
use Rattle.std.proofs.Common.{◌≡◌, ℕ, zero, suc, ◌^◌, ◌<◌, ◌≢◌, List, [], ◌∷◌, length, bit_xor, refl, sym, ap, ◌∙◌}
use Rattle.std.proofs.Common.{subst, arith, inl, inr}
use Rattle.std.specs.Prelude.{All}
use Rattle.std.specs.Int.Bits.{xor_comm, xor_assoc, xor_self, xor_zero_r, xor_lt}
use Rattle.std.proofs.lemmas.Bool.{cases_eq}
use Rattle.std.proofs.lemmas.Nat.{pow_pos}
use Rattle.std.proofs.lemmas.Grind.{common_steps}
use Rattle.rs_field.specs.words.Field.{product}
use Rattle.rs_field.specs.words.Polynomial.{value}
use Rattle.rs_field.proofs.words_lemmas.Product.{product_lt, product_xor_left, product_xor_right, product_zero}
use Rattle.rs_field.proofs.words_lemmas.Total.{product-left_comm}
use Rattle.rs_field.proofs.words_lemmas.Inverse.{product_pos}

-- Every coefficient is a word, by recursion on the list.
abbrev pub WordsOneByOne : List ℕ → Type 0
WordsOneByOne [] = Unit {0}
WordsOneByOne (c ∷ cs) = (c < 2 ^ 16) × WordsOneByOne cs

-- Words by `All` are words in the recursive form `WordsOneByOne`.
pub words_from : (P : List ℕ) → All (λ w. w < 65536) P → WordsOneByOne P
words_from [] h = tt
words_from (c ∷ cs) h = (h 0 0 (omega arith), words_from cs (λ k d hk. h (suc k) d (omega arith)))

-- Every coefficient is zero, by recursion on the list.
abbrev pub ZerosOneByOne : List ℕ → Type 0
ZerosOneByOne [] = Unit {0}
ZerosOneByOne (c ∷ cs) = (c ≡ 0) × ZerosOneByOne cs

pub value-nil : (x : ℕ) → value [] x ≡ 0
unfolding value
value-nil x = refl

pub value-cons : (c : ℕ) (cs : List ℕ) (x : ℕ) → value (c ∷ cs) x ≡ bit_xor c (product x (value cs x))
unfolding value
value-cons c cs x = refl

pub value-one : (c x : ℕ) → value (c ∷ []) x ≡ c
value-one c x = value-cons c [] x ∙ ap (bit_xor c) (ap (product x) (value-nil x) ∙ product_zero x) ∙ xor_zero_r c

pub value_lt : (cs : List ℕ) (x : ℕ) → WordsOneByOne cs → value cs x < 2 ^ 16
value_lt [] x h = subst (λ (v : ℕ). v < 2 ^ 16) (sym (value-nil x)) (pow_pos 16)
value_lt (c ∷ cs) x (hc, h) =
    subst (λ (v : ℕ). v < 2 ^ 16) (sym (value-cons c cs x)) (xor_lt 16 c _ hc (product_lt x _))

-- The quotient of c ∷ cs by x + a.
unfoldable pub steps : ℕ → List ℕ → List ℕ
steps a [] = []
steps a (d ∷ cs) = value (d ∷ cs) a ∷ steps a cs

pub length-steps : (a : ℕ) (cs : List ℕ) → length (steps a cs) ≡ length cs
unfolding steps
length-steps a [] = refl
length-steps a (d ∷ cs) = ap suc (length-steps a cs)

pub words_steps : (a : ℕ) (cs : List ℕ) → WordsOneByOne cs → WordsOneByOne (steps a cs)
unfolding steps
words_steps a [] h = tt
words_steps a (d ∷ cs) h = (value_lt (d ∷ cs) a h, words_steps a cs h.1)

-- The sum a + (x + (a + y)) is x + y.
xor_cancel : (a x y : ℕ) → bit_xor a (bit_xor x (bit_xor a y)) ≡ bit_xor x y
xor_cancel a x y = grind (arith, common_steps, xor_assoc, xor_comm, xor_self)

-- The sum (c + a r) + s (r + x q) is c + x (r + s q). Here s is x + a.
regroup : (c a x r q : ℕ)
    → bit_xor (bit_xor c (product a r)) (product (bit_xor x a) (bit_xor r (product x q)))
    ≡ bit_xor c (product x (bit_xor r (product (bit_xor x a) q)))
regroup c a x r q = grind
    (arith, common_steps, xor_assoc, product_xor_left, product_xor_right, product-left_comm, xor_cancel)

-- The value P(x) is P(a) + (x + a) * Q(x).
factor : (a x c : ℕ) (cs : List ℕ)
    → value (c ∷ cs) x ≡ bit_xor (value (c ∷ cs) a) (product (bit_xor x a) (value (steps a cs) x))
unfolding steps
factor a x c [] = grind (arith, common_steps, value-one, value-nil, product_zero, xor_zero_r)
factor a x c (d ∷ cs) = grind (arith, common_steps, value-cons, regroup, factor a x d cs)

-- If a is a root, P(x) is (x + a) * Q(x).
pub factor-root : (a x c : ℕ) (cs : List ℕ) → value (c ∷ cs) a ≡ 0
    → value (c ∷ cs) x ≡ product (bit_xor x a) (value (steps a cs) x)
factor-root a x c cs root = factor a x c cs ∙ ap (λ v. bit_xor v (product (bit_xor x a) (value (steps a cs) x))) root

zero_back : (a c : ℕ) (cs : List ℕ) → ZerosOneByOne (steps a cs) → value (c ∷ cs) a ≡ 0 → ZerosOneByOne (c ∷ cs)
unfolding steps
zero_back a c [] z e = (sym (value-one c a) ∙ e, tt)
zero_back a c (d ∷ cs) z e = (
  sym (value-cons c (d ∷ cs) a ∙ ap (bit_xor c) (ap (product a) z.0 ∙ product_zero a) ∙ xor_zero_r c)
      ∙ e,
  zero_back a d cs z.1 z.0,
)

pub same_from_xor : (x y : ℕ) → bit_xor x y ≡ 0 → x ≡ y
same_from_xor x y e =
    sym (xor_zero_r x) ∙ ap (bit_xor x) (sym (xor_self y)) ∙ sym (xor_assoc x y y) ∙ ap (λ v. bit_xor v y) e

-- Dividing by one root keeps each other root.
pub next_root : (a x c : ℕ) (cs : List ℕ) → a < 2 ^ 16 → x < 2 ^ 16 → WordsOneByOne cs → value (c ∷ cs) a ≡ 0
    → value (c ∷ cs) x ≡ 0 → x ≢ a
    → value (steps a cs) x ≡ 0
next_root a x c cs ha hx h at zero_x differ =
    let hq : value (steps a cs) x < 2 ^ 16 = value_lt (steps a cs) x (words_steps a cs h) in
    let none : product (bit_xor x a) (value (steps a cs) x) ≡ 0 = sym (factor-root a x c cs at) ∙ zero_x in
    elim (cases_eq (value (steps a cs) x) 0) [
      | inl e ↦ e
      | inr nonzero ↦ elim (cases_eq (bit_xor x a) 0) [
        | inl e ↦ absurd (differ (same_from_xor x a e))
        | inr s ↦ absurd (omega (
          arith,
          product_pos (bit_xor x a) (value (steps a cs) x) (omega arith) (omega arith)
              (xor_lt 16 x a hx ha) hq,
        ))
      ]
    ]

-- A polynomial of n coefficients with n distinct roots is zero.
pub zero_from_roots : (n : ℕ) (cs : List ℕ) → length cs ≡ n → WordsOneByOne cs → (f : ℕ → ℕ)
    → ((i : ℕ) → i < n → f i < 2 ^ 16) → ((i j : ℕ) → i < n → j < n → f i ≡ f j → i ≡ j)
    → ((i : ℕ) → i < n → value cs (f i) ≡ 0) → ZerosOneByOne cs
zero_from_roots n [] size h f words once roots = tt
zero_from_roots zero (c ∷ cs) size h f words once roots = absurd (omega arith)
zero_from_roots (suc n) (c ∷ cs) size h f words once roots =
    let last : n < suc n = omega arith in
    let ha : f n < 2 ^ 16 = words n last in
    let at : value (c ∷ cs) (f n) ≡ 0 = roots n last in
    zero_back (f n) c cs
    (zero_from_roots n (steps (f n) cs) (length-steps (f n) cs ∙ omega arith) (words_steps (f n) cs h.1) f
    (λ i hi. words i (omega arith)) (λ i j hi hj. once i j (omega arith) (omega arith))
    (λ i hi. next_root (f n) (f i) c cs ha (words i (omega arith)) h.1 at (roots i (omega arith))
    (λ e. not_last i n hi (once i n (omega arith) last e))))
    at
  where
    not_last : (i n : ℕ) → i < n → i ≡ n → ⊥
    not_last i n hi e = omega arith
