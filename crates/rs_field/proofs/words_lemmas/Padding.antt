-- A polynomial with zero coefficients appended.
use Rattle.std.proofs.Common.{◌≡◌, ℕ, zero, suc, ◌+◌, List, [], ◌∷◌, ◌++◌, length, replicate, bit_xor, sym, ap, ap₂}
use Rattle.std.proofs.Common.{◌∙◌, arith, length-append}
use Rattle.std.specs.Int.Bits.{xor_zero_l}
use Rattle.std.proofs.lemmas.List.{length-replicate}
use Rattle.rs_field.specs.words.Field.{product}
use Rattle.rs_field.specs.words.Polynomial.{value, derivative_value}
use Rattle.rs_field.proofs.words_lemmas.Product.{product_zero}
use Rattle.rs_field.proofs.words_lemmas.Roots.{WordsOneByOne, value-nil, value-cons}
use Rattle.rs_field.proofs.words_lemmas.Derivative.{derivative-nil, derivative-cons}

-- A polynomial with n zero coefficients appended.
unfoldable pub padded : ℕ → List ℕ → List ℕ
padded n p = p ++ replicate n 0

pub length-padded : (n : ℕ) (p : List ℕ) → length (padded n p) ≡ length p + n
unfolding padded
length-padded n p = length-append p (replicate n 0) ∙ ap (λ k. length p + k) (length-replicate n 0)

words_zeros : (n : ℕ) → WordsOneByOne (replicate n 0)
words_zeros zero = tt
words_zeros (suc n) = (omega arith, words_zeros n)

pub words_padded : (n : ℕ) (p : List ℕ) → WordsOneByOne p → WordsOneByOne (padded n p)
unfolding padded
words_padded n [] h = words_zeros n
words_padded n (c ∷ cs) h = (h.0, words_padded n cs h.1)

value-zeros : (n x : ℕ) → value (replicate n 0) x ≡ 0
value-zeros zero x = value-nil x
value-zeros (suc n) x = value-cons 0 (replicate n 0) x ∙ ap (λ k. bit_xor 0 (product x k)) (value-zeros n x)
    ∙ xor_zero_l (product x 0) ∙ product_zero x

derivative-zeros : (n x : ℕ) → derivative_value (replicate n 0) x ≡ 0
derivative-zeros zero x = derivative-nil x
derivative-zeros (suc n) x =
    derivative-cons 0 (replicate n 0) x ∙ ap₂ (λ j k. bit_xor j (product x k)) (value-zeros n x) (derivative-zeros n x)
    ∙ xor_zero_l (product x 0) ∙ product_zero x

pub value-padded : (n : ℕ) (p : List ℕ) (x : ℕ) → value (padded n p) x ≡ value p x
unfolding padded
value-padded n [] x = value-zeros n x ∙ sym (value-nil x)
value-padded n (c ∷ cs) x =
    value-cons c (cs ++ replicate n 0) x ∙ ap (λ k. bit_xor c (product x k)) (value-padded n cs x)
    ∙ sym (value-cons c cs x)

pub derivative-padded : (n : ℕ) (p : List ℕ) (x : ℕ) → derivative_value (padded n p) x ≡ derivative_value p x
unfolding padded
derivative-padded n [] x = derivative-zeros n x ∙ sym (derivative-nil x)
derivative-padded n (c ∷ cs) x =
    derivative-cons c (cs ++ replicate n 0) x
    ∙ ap₂ (λ j k. bit_xor j (product x k)) (value-padded n cs x) (derivative-padded n cs x)
    ∙ sym (derivative-cons c cs x)
