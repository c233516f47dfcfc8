-- A row is zero in each column of its shard exactly if the bytes of its whole chunks and of both halves of its tail are
-- zero.
use Rattle.std.proofs.Common.{rules, ◌≡◌, ℕ, ◌+◌, ◌-◌, ◌*◌, ◌/◌, ◌%◌, ◌<◌, ◌≤◌, List, [], length, get_or, take, drop}
use Rattle.std.proofs.Common.{ap, ap₂, sym, ◌∙◌, arith, inl, inr}
use Rattle.std.proofs.lemmas.Grind.{common_steps}
use Rattle.std.proofs.lemmas.Bool.{cases_lt}
use Rattle.std.proofs.lemmas.List.{get_or-take, get_or-drop, length-take-le, length-drop}
use Rattle.std.specs.Prelude.{slice_index, EachIndex}
use Rattle.std.specs.List.{flat_map}
use Rattle.rs_field.specs.rows.Rows.{Chunks, chunk, symbol}
use Rattle.rs_field.specs.rows.Layout.{row_len, HasZeroColumns}
use Rattle.rs_field.proofs.rows_lemmas.LayoutLemmas.{get-flat}

-- A row for shards of this size, and the bytes of its chunks joined.
pub record IsRow (size : ℕ) (row : Chunks) (bytes : List ℕ) : Type 0 where
  pub length_is : length row ≡ row_len size
  pub sized : (i : ℕ) → i < length row → length (get_or row i []) ≡ 64
  pub flat : bytes ≡ flat_map (λ x. x) row
  pub count : length bytes ≡ length row * 64

-- The place where the tail begins.
abbrev tail : ℕ → ℕ
tail size = size / 64 * 64

-- Half the number of bytes of the tail.
abbrev half : ℕ → ℕ
half size = size % 64 / 2

-- The n bytes from a on are zero.
abbrev pub ZeroFrom : List ℕ → ℕ → ℕ → Type 0
ZeroFrom bytes a n = (i : ℕ) → i < n → slice_index bytes (a + i) ≡ 0

abbrev pub AreZero : List ℕ → Type 0
AreZero bytes = EachIndex bytes (λ i. slice_index bytes i ≡ 0)

part-at : (bytes : List ℕ) (a n i : ℕ) → i < n → slice_index (take n (drop a bytes)) i ≡ slice_index bytes (a + i)
part-at bytes a n i h = get_or-take n (drop a bytes) i 0 h ∙ get_or-drop a bytes i 0

part-length : (bytes : List ℕ) (a n : ℕ) → a + n ≤ length bytes → length (take n (drop a bytes)) ≡ n
part-length bytes a n within = let left = length-drop a bytes in length-take-le n (drop a bytes) (omega arith)

pub zero-from : (bytes : List ℕ) (a n : ℕ) → a + n ≤ length bytes → AreZero (take n (drop a bytes)) → ZeroFrom bytes a n
zero-from bytes a n within zeros i h = search (rules, part-at, part-length)

pub zero-part : (bytes : List ℕ) (a n : ℕ) → a + n ≤ length bytes → ZeroFrom bytes a n → AreZero (take n (drop a bytes))
zero-part bytes a n within zeros i h = search (rules, part-length, part-at)

module _ {size : ℕ} {row : Chunks} {bytes : List ℕ} (is : IsRow size row bytes) where
  byte-of : (q b : ℕ) → b < 64 → slice_index (chunk row q) b ≡ slice_index bytes (q * 64 + b)
  byte-of q b low = grind (arith, common_steps, get-flat)

  -- A symbol is made of its low and its high byte.
  symbol-bytes : (q i : ℕ) → i < 32
      → symbol (chunk row q) i ≡ slice_index bytes (q * 64 + i) + 256 * slice_index bytes (q * 64 + (i + 32))
  symbol-bytes q i low = ap₂ (λ u v. u + 256 * v) (byte-of q i (omega arith)) (byte-of q (i + 32) (omega arith))

  pub zero_columns : ZeroFrom bytes 0 (tail size + half size) → ZeroFrom bytes (tail size + 32) (half size)
      → HasZeroColumns size (λ k. chunk row k)
  zero_columns first second j h =
      symbol-bytes (j / 32) (j % 32) (omega arith)
      ∙ ap₂ (λ u v. u + 256 * v) (before (j / 32 * 64 + j % 32) (omega arith)) high
    where
      before : (b : ℕ) → b < tail size + half size → slice_index bytes b ≡ 0
      before b g = let at : b ≡ 0 + b = omega arith in ap (slice_index bytes) at ∙ first b g

      high : slice_index bytes (j / 32 * 64 + (j % 32 + 32)) ≡ 0
      high =
          elim (cases_lt (j / 32) (size / 64)) [
            | inl whole ↦ before (j / 32 * 64 + (j % 32 + 32)) (omega arith)
            | inr last ↦
                let at : j / 32 * 64 + (j % 32 + 32) ≡ size / 64 * 64 + 32 + j % 32 = omega arith in
                ap (slice_index bytes) at ∙ second (j % 32) (omega arith)
          ]

  -- If the columns are zero, both bytes of each symbol are zero.
  zero-bytes : HasZeroColumns size (λ k. chunk row k)
      → (q i : ℕ) → i < 32 → q * 32 + i < size / 2 → (slice_index bytes (q * 64 + i) ≡ 0)
      × (slice_index bytes (q * 64 + (i + 32)) ≡ 0)
  zero-bytes zeros q i low within =
      let k : (q * 32 + i) / 32 ≡ q = omega arith in
      let s : (q * 32 + i) % 32 ≡ i = omega arith in
      let word : symbol (chunk row q) i ≡ 0 = sym (ap₂ (λ n m. symbol (chunk row n) m) k s)
      ∙ zeros (q * 32 + i) within in
      let sum : slice_index bytes (q * 64 + i) + 256 * slice_index bytes (q * 64 + (i + 32)) ≡ 0
      = sym (symbol-bytes q i low) ∙ word in
      (omega arith, omega arith)

  pub zero-first : HasZeroColumns size (λ k. chunk row k)
      → ZeroFrom bytes 0 (tail size + half size)
  zero-first zeros b h =
      elim (cases_lt (b % 64) 32) [
        | inl low ↦
            let at : 0 + b ≡ b / 64 * 64 + b % 64 = omega arith in
            ap (slice_index bytes) at ∙ (zero-bytes zeros (b / 64) (b % 64) low (omega arith)).0
        | inr high ↦
            let at : 0 + b ≡ b / 64 * 64 + (b % 64 - 32 + 32) = omega arith in
            ap (slice_index bytes) at ∙ (zero-bytes zeros (b / 64) (b % 64 - 32) (omega arith) (omega arith)).1
      ]

  pub zero-second : HasZeroColumns size (λ k. chunk row k)
      → ZeroFrom bytes (tail size + 32) (half size)
  zero-second zeros b h =
      let at : size / 64 * 64 + 32 + b ≡ size / 64 * 64 + (b + 32) = omega arith in
      ap (slice_index bytes) at ∙ (zero-bytes zeros (size / 64) b (omega arith) (omega arith)).1
