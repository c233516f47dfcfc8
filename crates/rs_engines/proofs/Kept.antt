-- Relations between old and new words, if the words do not change before or after a step.
use Rattle.std.proofs.Common.{◌≡◌, ℕ, bit_xor, sym, ap, subst, ◌∙◌}
use Rattle.rs_field.specs.rows.TwoLayers.{OnFourWords}
use Rattle.rs_field.specs.rows.Pairs.{OnTwoWords}
use Rattle.rs_field.proofs.words_lemmas.Halves.{xor_undo}
use Rattle.std.specs.Int.Bits.{xor_comm}

-- If the words do not change before a step, the relation of the step holds from the earlier words.
pub two_kept_before : (R : OnTwoWords) (w0 w1 x0 x1 y0 y1 : ℕ) → w0 ≡ x0 → w1 ≡ x1 → R w0 w1 y0 y1 → R x0 x1 y0 y1
two_kept_before R w0 w1 x0 x1 y0 y1 e0 e1 r = subst (λ x. R x0 x y0 y1) e1 (subst (λ x. R x w1 y0 y1) e0 r)

-- If the words do not change after a step, the relation of the step holds for the later words.
pub two_kept_after : (R : OnTwoWords) (x0 x1 y0 y1 z0 z1 : ℕ) → z0 ≡ y0 → z1 ≡ y1 → R x0 x1 y0 y1 → R x0 x1 z0 z1
two_kept_after R x0 x1 y0 y1 z0 z1 e0 e1 = two_kept_before (λ a b c d. R c d a b) y0 y1 z0 z1 x0 x1 (sym e0) (sym e1)

-- A relation of four words holds for equal words.
pub four_kept_before : (R : OnFourWords) (w0 w1 w2 w3 x0 x1 x2 x3 y0 y1 y2 y3 : ℕ) → w0 ≡ x0 → w1 ≡ x1 → w2 ≡ x2
    → w3 ≡ x3
    → R w0 w1 w2 w3 y0 y1 y2 y3 → R x0 x1 x2 x3 y0 y1 y2 y3
four_kept_before R w0 w1 w2 w3 x0 x1 x2 x3 y0 y1 y2 y3 e0 e1 e2 e3 r =
    two_kept_before (λ a b c d. R x0 x1 a b y0 y1 c d) w2 w3 x2 x3 y2 y3 e2 e3
    (two_kept_before (λ a b c d. R a b w2 w3 c d y2 y3) w0 w1 x0 x1 y0 y1 e0 e1 r)

pub four_kept_after : (R : OnFourWords) (x0 x1 x2 x3 y0 y1 y2 y3 z0 z1 z2 z3 : ℕ) → z0 ≡ y0 → z1 ≡ y1 → z2 ≡ y2
    → z3 ≡ y3
    → R x0 x1 x2 x3 y0 y1 y2 y3 → R x0 x1 x2 x3 z0 z1 z2 z3
four_kept_after R x0 x1 x2 x3 y0 y1 y2 y3 z0 z1 z2 z3 e0 e1 e2 e3 =
    four_kept_before (λ a b c d e f g h. R e f g h a b c d) y0 y1 y2 y3 z0 z1 z2 z3 x0 x1 x2 x3 (sym e0) (sym e1)
    (sym e2) (sym e3)

-- The sum of an old word and of its sum with another word is that other word.
pub xor_sum : (old new word : ℕ) → new ≡ bit_xor old word → bit_xor old new ≡ word
xor_sum old new word is =
    ap (bit_xor old) (is ∙ xor_comm old word) ∙ xor_comm old (bit_xor word old) ∙ xor_undo word old

-- What was added to a word does not change if a later step keeps the word.
pub added_after : (old mid new : ℕ) → new ≡ mid → bit_xor old new ≡ bit_xor old mid
added_after old mid new kept = ap (bit_xor old) kept

-- What was added to a word is what the last step added if the steps before kept the word.
pub added_before : (old mid new : ℕ) → mid ≡ old → bit_xor old new ≡ bit_xor mid new
added_before old mid new kept = sym (ap (λ word. bit_xor word new) kept)
