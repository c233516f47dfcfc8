-- The butterflies of two and of four words, as backward transforms, and rows that are written before their transform.
use Rattle.std.proofs.Common.{◌≡◌, ℕ, zero, suc, ◌+◌, ◌-◌, ◌*◌, ◌%◌, ◌<◌, ◌≤◌, List, get_or, length, bit_xor}
use Rattle.std.proofs.Common.{refl, sym, ap, ap₂, ◌∙◌, subst, arith}
use Rattle.std.specs.Int.Bits.{xor_comm, xor_zero_r}
use borrow.Rule.Slice.PartMut.{put_mid}
use Rattle.rs_field.specs.rows.Layers.{ArePartsOf}
use Rattle.rs_field.specs.rows.Pairs.{IsForwardTwo, IsBackwardTwo, at_two_added}
use Rattle.rs_field.specs.declared.rows.reading.Writing.{Writing}
use Rattle.rs_field.specs.rows.Rows.{Chunks, chunk, symbol, word_in}
use Rattle.rs_field.specs.rows.TwoLayers.{IsForwardFour, IsBackwardFour, at_four_added}
use Rattle.rs_field.specs.rows.Written.{held, AreWritten}
use Rattle.rs_field.specs.words.Tables.{IsSkew, times_factor}
use Rattle.rs_field.specs.words.Transform.{forward, IsBackward}
use Rattle.rs_field.proofs.rows_lemmas.BlockChunks.{of_written}
use Rattle.rs_field.proofs.rows_lemmas.Layers.{IsBlock, IsLayer, factor, backward_undone, forward_parts, one_layer}
use Rattle.rs_field.proofs.rows_lemmas.Layers.{pair_undone}
use Rattle.rs_field.proofs.rows_lemmas.PartLoops.{one_row_of_part, single_rows}
use Rattle.rs_field.proofs.rows_lemmas.RowOffsets.{row_within}
use Rattle.rs_field.proofs.words_lemmas.Combination.{forward-same, forward-xor}
use Rattle.rs_field.proofs.words_lemmas.Halves.{xor_undo}

-- What holds at 0 holds at each index below 1.
only : (P : ℕ → Type 0) (q : ℕ) → q < 1 → P 0 → P q
only P q few holds = subst P (let none : 0 ≡ q = omega (arith, few) in none) holds

module _ (skew : List ℕ) (table : IsSkew skew) (shift : ℕ) (given made : ℕ → ℕ) where
  pub two_backward : shift % 2 ≡ 0 → shift + 2 ≤ 65536 → ((i : ℕ) → i < 2 → given i < 65536)
      → IsBackwardTwo (get_or skew shift 0) (given 0) (given 1) (made 0) (made 1)
      → IsBackward 2 shift given made
  two_backward aligned points small pair i hi =
      single_rows 2 shift i made given (omega arith) (omega arith) (1, refl)
      (subst (λ (m : ℕ). ArePartsOf 2 m shift made given)
      (sym (one_row_of_part 2 (omega arith) (omega arith) (1, refl)))
      (one_layer block layer)) hi (small i hi)
    where
      block : IsBlock skew 2 shift
      block = record {
        table = table;
        large = omega arith;
        power = (1, refl);
        aligned = aligned;
        points = points;
      }

      words : IsForwardTwo (get_or skew (shift + 1 - 1) 0) (made 0) (made 1) (given 0) (given 1)
      words =
          let on : shift ≡ shift + 1 - 1 = omega arith in
          rw on at (pair_undone (get_or skew shift 0) (given 0) (given 1) (made 0) (made 1) pair)

      layer : IsLayer skew 1 shift made given
      layer = record {
        first = λ q few. only (λ q. given q ≡ bit_xor (made q)
            (times_factor (get_or skew (shift + 1 - 1) 0) (made (1 + q)))) q few (words.0);
        second = λ q few. only (λ q. given (1 + q) ≡ bit_xor (made (1 + q)) (given q)) q few (words.1);
      }

  pub four_backward : shift % 4 ≡ 0 → shift + 4 ≤ 65536 → ((i : ℕ) → i < 4 → given i < 65536)
      → IsBackwardFour (get_or skew (shift + 1) 0) (get_or skew shift 0) (get_or skew (shift + 2) 0)
      (given 0) (given 1) (given 2) (given 3) (made 0) (made 1) (made 2) (made 3)
      → IsBackward 4 shift given made
  four_backward aligned points small four i hi =
      single_rows 4 shift i made given (omega arith) (omega arith) (2, refl)
      (subst (λ (m : ℕ). ArePartsOf 4 m shift made given)
      (sym (one_row_of_part 4 (omega arith) (omega arith) (2, refl)))
      (forward_parts 1 made given block (λ q few. only
      (λ q. IsForwardFour m02 m01 m23 (made q) (made (1 + q)) (made (1 + 1 + q)) (made (1 + 1 + (1 + q)))
      (given q) (given (1 + q)) (given (1 + 1 + q)) (given (1 + 1 + (1 + q)))) q few words))) hi (small i hi)
    where
      m02 : ℕ
      m02 = factor skew (1 + 1) shift

      m01 : ℕ
      m01 = factor skew 1 shift

      m23 : ℕ
      m23 = factor skew 1 (shift + (1 + 1))

      block : IsBlock skew 4 shift
      block = record {
        table = table;
        large = omega arith;
        power = (2, refl);
        aligned = aligned;
        points = points;
      }

      words : IsForwardFour m02 m01 m23 (made 0) (made 1) (made 2) (made 3) (given 0) (given 1) (given 2) (given 3)
      words =
          let on02 : get_or skew (shift + 1) 0 ≡ get_or skew (shift + (1 + 1) - 1) 0 =
          ap (λ i. get_or skew i 0) (omega arith) in
          let on01 : get_or skew shift 0 ≡ get_or skew (shift + 1 - 1) 0 = ap (λ i. get_or skew i 0) (omega arith) in
          let on23 : get_or skew (shift + 2) 0 ≡ get_or skew (shift + (1 + 1) + 1 - 1) 0 =
          ap (λ i. get_or skew i 0) (omega arith) in
          rw (on02, on23, on01) at (backward_undone (get_or skew (shift + 1) 0) (get_or skew shift 0)
          (get_or skew (shift + 2) 0) (given 0) (given 1) (given 2) (given 3)
          (made 0) (made 1) (made 2) (made 3) four)

module _ (writing : Writing) (skew : List ℕ) (table : IsSkew skew) (shift n k s : ℕ) (old new : Chunks) (given : ℕ → ℕ)
  where
    -- The word that was written to row q.
    abbrev made : ℕ → ℕ
    made q = bit_xor (held writing (word_in old n k s q)) (word_in new n k s q)

    -- The word that was written to a chunk.
    abbrev made_in : ℕ → ℕ
    made_in i = bit_xor (held writing (symbol (chunk old i) s)) (symbol (chunk new i) s)

    made_at : (q at : ℕ) → at ≡ q * n + k → made_in at ≡ made q
    made_at q at is = ap (λ i. made_in i) is

    pub two_written : (m : ℕ) (y0 y1 : Chunks) → shift % 2 ≡ 0 → shift + 2 ≤ 65536 → m ≡ n
        → symbol (chunk y0 k) s < 65536 → symbol (chunk y1 k) s < 65536
        → symbol (chunk y0 k) s ≡ given 0 → symbol (chunk y1 k) s ≡ given 1
        → at_two_added s (IsBackwardTwo (get_or skew shift 0)) (held writing) (chunk y0 k) (chunk y1 k) (chunk old k)
        (chunk old (m + k)) (chunk new k) (chunk new (m + k))
        → AreWritten writing 2 shift n k s given old new
    two_written m y0 y1 aligned points len w0 w1 e0 e1 pair =
        two_backward skew table shift given made aligned points small
        (let at₀ = made_at 0 k (omega arith) in let at₁ = made_at 1 (m + k) (omega (arith, len)) in
        rw (e0, e1, at₀, at₁) at pair)
      where
        small : (i : ℕ) → i < 2 → given i < 65536
        small zero few = omega (arith, e0, w0)
        small (suc zero) few = omega (arith, e1, w1)
        small (suc (suc i)) few = absurd (omega (arith, few))

    pub four_written : (m : ℕ) (y0 y1 y2 y3 : Chunks) → shift % 4 ≡ 0 → shift + 4 ≤ 65536 → m ≡ n
        → symbol (chunk y0 k) s < 65536 → symbol (chunk y1 k) s < 65536
        → symbol (chunk y2 k) s < 65536 → symbol (chunk y3 k) s < 65536
        → symbol (chunk y0 k) s ≡ given 0 → symbol (chunk y1 k) s ≡ given 1
        → symbol (chunk y2 k) s ≡ given 2 → symbol (chunk y3 k) s ≡ given 3
        → at_four_added s (IsBackwardFour (get_or skew (shift + 1) 0) (get_or skew shift 0) (get_or skew (shift + 2) 0))
        (held writing) (chunk y0 k) (chunk y1 k) (chunk y2 k) (chunk y3 k)
        (chunk old k) (chunk old (m + k)) (chunk old (2 * m + k)) (chunk old (3 * m + k))
        (chunk new k) (chunk new (m + k)) (chunk new (2 * m + k)) (chunk new (3 * m + k))
        → AreWritten writing 4 shift n k s given old new
    four_written m y0 y1 y2 y3 aligned points len w0 w1 w2 w3 e0 e1 e2 e3 four =
        four_backward skew table shift given made aligned points small
        (let at₀ = made_at 0 k (omega arith) in let at₁ = made_at 1 (m + k) (omega (arith, len)) in
        let at₂ = made_at 2 (2 * m + k) (omega (arith, len)) in let at₃ = made_at 3 (3 * m + k) (omega (arith, len)) in
        rw (e0, e1, e2, e3, at₀, at₁, at₂, at₃) at four)
      where
        small : (i : ℕ) → i < 4 → given i < 65536
        small zero few = omega (arith, e0, w0)
        small (suc zero) few = omega (arith, e1, w1)
        small (suc (suc zero)) few = omega (arith, e2, w2)
        small (suc (suc (suc zero))) few = omega (arith, e3, w3)
        small (suc (suc (suc (suc i)))) few = absurd (omega (arith, few))

-- A word that is added twice is gone.
pub twice : (a b : ℕ) → bit_xor a (bit_xor a b) ≡ b
twice a b = xor_comm a (bit_xor a b) ∙ ap (λ v. bit_xor v a) (xor_comm a b) ∙ xor_undo b a

-- Rows that are written to the forward transform of the old rows, and then transformed backward, are written to the
-- old rows as their backward transform.
pub written_before : (writing : Writing) (count shift n k s : ℕ) (words : ℕ → ℕ) (old mid put new : Chunks)
    → ((i : ℕ) → i < count → forward count shift (λ q. held writing (word_in old n k s q)) i
    ≡ held writing (word_in mid n k s i))
    → ((i : ℕ) → i < count → word_in put n k s i ≡ bit_xor (held writing (word_in mid n k s i)) (words i))
    → IsBackward count shift (word_in put n k s) (word_in new n k s)
    → AreWritten writing count shift n k s words old new
written_before writing count shift n k s words old mid put new before written after i few =
    sym (forward-xor count shift (λ q. held writing (word_in old n k s q)) (word_in new n k s) i
    ∙ ap₂ bit_xor (before i few) (sym (after i few) ∙ written i few)
    ∙ twice (held writing (word_in mid n k s i)) (words i))

-- A word that is added to 0 is the word.
to_zero : (w : ℕ) → bit_xor 0 w ≡ w
to_zero w = xor_comm 0 w ∙ xor_zero_r w

-- Rows that replace others are what was written.
pub replacing : (writing : Writing) (size shift n k s : ℕ) (words : ℕ → ℕ) (old new : Chunks)
    → writing ≡ Writing.Replacing → IsBackward size shift words (word_in new n k s)
    → AreWritten writing size shift n k s words old new
unfolding held
replacing writing size shift n k s words old new is made =
    subst (λ (w : Writing). AreWritten w size shift n k s words old new) (sym is)
    (λ i few. made i few ∙ forward-same size shift (word_in new n k s) (λ q. bit_xor 0 (word_in new n k s q)) i
    (λ q low. sym (to_zero (word_in new n k s q))))

-- Rows that were written to a part of a list, in place of what the part held, are rows of the list.
pub part_replaced : (size shift n k s first a m : ℕ) (words : ℕ → ℕ) (old given made : Chunks) → a ≡ first * n
    → m ≡ size * n → a + m ≤ length old → length made ≡ m → k < n
    → AreWritten Writing.Replacing size shift n k s words given made
    → IsBackward size shift words (λ q. word_in (put_mid a m old made) n k s (first + q))
unfolding held
part_replaced size shift n k s first a m words old given made begins long inside len few written i low =
    written i low
    ∙ forward-same size shift _ (λ q. word_in (put_mid a m old made) n k s (first + q)) i (λ q below.
    let within : q * n + k < size * n = row_within q size k n below few in
    let at : a + (q * n + k) ≡ (first + q) * n + k = omega (arith, begins) in
    to_zero (word_in made n k s q)
    ∙ ap (λ c. symbol c s) (of_written old made a m (q * n + k) inside len (omega (arith, within, long))
    ∙ ap (chunk (put_mid a m old made)) at))
