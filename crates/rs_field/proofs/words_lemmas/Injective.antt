-- Words with the same forward transform are equal.
use Rattle.std.proofs.Common.{◌≡◌, ℕ, zero, suc, ◌+◌, ◌-◌, ◌%◌, ◌^◌, ◌<◌, ◌≤◌, bit_xor, refl, sym, ap, ap₂, ◌∙◌, inl}
use Rattle.std.proofs.Common.{inr, arith}
use Rattle.std.specs.Int.Bits.{xor_lt}
use Rattle.std.proofs.lemmas.Bool.{cases_lt}
use Rattle.rs_field.specs.words.Field.{product}
use Rattle.rs_field.specs.words.Subspace.{subspace}
use Rattle.rs_field.specs.words.Transform.{forward}
use Rattle.rs_field.specs.words.Inverse.{TransformsAreInverse}
use Rattle.rs_field.proofs.words_lemmas.Product.{product_lt}
use Rattle.rs_field.proofs.words_lemmas.Combination.{forward-one, lower_half, upper_half}
use Rattle.rs_field.proofs.words_lemmas.Halves.{few_halves, shift_half, xor_undo}
use Rattle.std.proofs.lemmas.Grind.{common_steps}

-- The first half and the second half of the rows after a butterfly.
abbrev low : ℕ → ℕ → (ℕ → ℕ) → ℕ → ℕ
low half c f q = bit_xor (f q) (product (f (half + q)) c)

abbrev high : ℕ → ℕ → (ℕ → ℕ) → ℕ → ℕ
high half c f q = bit_xor (f (half + q)) (low half c f q)

low_lt : (half c : ℕ) (f : ℕ → ℕ) (q : ℕ) → f q < 65536 → low half c f q < 65536
low_lt half c f q h = xor_lt 16 (f q) (product (f (half + q)) c) h (product_lt (f (half + q)) c)

high_lt : (half c : ℕ) (f : ℕ → ℕ) (q : ℕ) → f q < 65536 → f (half + q) < 65536 → high half c f q < 65536
high_lt half c f q h k = xor_lt 16 (f (half + q)) (low half c f q) k (low_lt half c f q h)

-- The rows after a butterfly determine the rows before it.
second_back : (half c : ℕ) (f : ℕ → ℕ) (q : ℕ) → f (half + q) ≡ bit_xor (high half c f q) (low half c f q)
second_back half c f q = sym (xor_undo (f (half + q)) (low half c f q))

first_back : (half c : ℕ) (f : ℕ → ℕ) (q : ℕ) → f q ≡ bit_xor (low half c f q) (product (f (half + q)) c)
first_back half c f q = sym (xor_undo (f q) (product (f (half + q)) c))

pub forward_injective : (e shift : ℕ) (f g : ℕ → ℕ) → shift % 2 ^ e ≡ 0 → shift + 2 ^ e ≤ 65536
    → ((i : ℕ) → i < 2 ^ e → f i < 65536) → ((i : ℕ) → i < 2 ^ e → g i < 65536)
    → ((i : ℕ) → i < 2 ^ e → forward (2 ^ e) shift f i ≡ forward (2 ^ e) shift g i) → (i : ℕ) → i < 2 ^ e → f i ≡ g i
forward_injective zero shift f g whole fits words_f words_g same i hi =
    let one : 0 < 2 ^ 0 = omega arith in
    grind (
      arith,
      common_steps,
      forward-one shift f 0 (words_f 0 one),
      same 0 one,
      forward-one shift g 0
          (words_g 0 one),
    )
forward_injective (suc e) shift f g whole fits words_f words_g same i hi =
    let few : e < 16 = few_halves (2 ^ suc e) e shift refl fits in
    let s = shift_half (2 ^ suc e) e shift refl whole in
    let lows : (q : ℕ) → q < 2 ^ e → low (2 ^ e) (subspace e shift) f q ≡ low (2 ^ e) (subspace e shift) g q =
    forward_injective e shift (low (2 ^ e) (subspace e shift) f) (low (2 ^ e) (subspace e shift) g) s.0 (omega arith)
    (λ q hq. low_lt (2 ^ e) (subspace e shift) f q (words_f q (omega arith)))
    (λ q hq. low_lt (2 ^ e) (subspace e shift) g q (words_g q (omega arith)))
    (λ q hq. lower_half e shift few whole fits f (low (2 ^ e) (subspace e shift) f) q hq (λ p hp. refl)
    ∙ same q (omega arith)
    ∙ sym (lower_half e shift few whole fits g (low (2 ^ e) (subspace e shift) g) q hq (λ p hp. refl))) in
    let highs : (q : ℕ) → q < 2 ^ e → high (2 ^ e) (subspace e shift) f q ≡ high (2 ^ e) (subspace e shift) g q =
    forward_injective e (shift + 2 ^ e) (high (2 ^ e) (subspace e shift) f) (high (2 ^ e) (subspace e shift) g) s.1
    (omega arith)
    (λ q hq. high_lt (2 ^ e) (subspace e shift) f q (words_f q (omega arith)) (words_f (2 ^ e + q) (omega arith)))
    (λ q hq. high_lt (2 ^ e) (subspace e shift) g q (words_g q (omega arith)) (words_g (2 ^ e + q) (omega arith)))
    (λ q hq. upper_half e shift few whole fits f (low (2 ^ e) (subspace e shift) f) q hq (λ p hp. refl)
    (high (2 ^ e) (subspace e shift) f) (λ p hp. refl)
    ∙ same (2 ^ e + q) (omega arith)
    ∙ sym (upper_half e shift few whole fits g (low (2 ^ e) (subspace e shift) g) q hq (λ p hp. refl)
    (high (2 ^ e) (subspace e shift) g) (λ p hp. refl))) in
    let seconds : (q : ℕ) → q < 2 ^ e → f (2 ^ e + q) ≡ g (2 ^ e + q) =
    λ q hq. second_back (2 ^ e) (subspace e shift) f q ∙ ap₂ bit_xor (highs q hq) (lows q hq)
    ∙ sym (second_back (2 ^ e) (subspace e shift) g q) in
    elim (cases_lt i (2 ^ e)) [
      | inl below ↦
          first_back (2 ^ e) (subspace e shift) f i
          ∙ ap₂ bit_xor (lows i below) (ap (λ v. product v (subspace e shift)) (seconds i below))
          ∙ sym (first_back (2 ^ e) (subspace e shift) g i)
      | inr above ↦
          ap f (sym (omega arith)) ∙ seconds (i - 2 ^ e) (omega arith) ∙ ap g (omega arith)
    ]

pub transforms_are_inverse : TransformsAreInverse
transforms_are_inverse = record {
  forward_last = λ n shift f g h back forth i hi. forth i hi ∙ sym (back i hi);
  backward_last = λ d shift f g h whole fits words_f words_h forth back.
      forward_injective d shift h f whole fits words_h words_f (λ i hi. sym (back i hi) ∙ forth i hi);
}
