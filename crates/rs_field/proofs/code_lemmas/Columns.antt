-- The columns of a shard, and the proof that they determine the shard.
use Rattle.std.proofs.Common.{rules, ◌≡◌, ℕ, ◌+◌, ◌-◌, ◌*◌, ◌/◌, ◌%◌, ◌<◌, ◌≤◌, List, [], length, min, refl, sym, ap}
use Rattle.std.proofs.Common.{◌∙◌, subst, arith, inl, inr}
use Rattle.std.specs.Prelude.{slice_index}
use Rattle.std.proofs.Math.Nat.{min-eq_left, min-eq_right}
use Rattle.std.proofs.lemmas.Bool.{cases_lt}
use Rattle.std.proofs.lemmas.List.{ext_get_or}
use Rattle.std.proofs.lemmas.Grind.{common_steps}
use Rattle.std.proofs.Math.ListN.{get_or, get_or-map}
use Rattle.rs_field.specs.code.Column.{Shard, IsShard, AreShards, shard_at, column, columns, chunk_words}

-- Word i of chunk q, as two bytes of the shard.
pub column-at : (q i : ℕ) (s : Shard) → i < 32
    → column (q * 32 + i) s ≡ slice_index s (q * 64 + i) + 256 * slice_index s (q * 64 + i + chunk_words s (q * 64))
unfolding column
column-at q i s h = grind (arith, common_steps)

-- In a whole chunk, the high byte of a word is 32 bytes after its low byte.
pub column-chunk : (q i : ℕ) (s : Shard) → i < 32 → q * 64 + 64 ≤ length s
    → column (q * 32 + i) s ≡ slice_index s (q * 64 + i) + 256 * slice_index s (q * 64 + i + 32)
column-chunk q i s h fits = grind (arith, common_steps, column-at, min-eq_left)

-- In a tail of L bytes, the high byte of a word is L / 2 bytes after its low byte.
pub column-tail : (q i : ℕ) (s : Shard) → i < 32 → q ≡ length s / 64
    → column (q * 32 + i) s ≡ slice_index s (q * 64 + i) + 256 * slice_index s (q * 64 + i + length s % 64 / 2)
column-tail q i s h last = grind (arith, common_steps, column-at, min-eq_right)

-- Equal words have equal low bytes and equal high bytes.
halves : (a : ℕ) {b : ℕ} (c : ℕ) {d : ℕ} → a < 256 → c < 256 → a + 256 * b ≡ c + 256 * d → (a ≡ c) × (b ≡ d)
halves a c ha hc e = (omega arith, omega arith)

-- Each entry of a shard is a byte, and so is the zero past its end.
pub byte_lt : {size : ℕ} {s : Shard} → IsShard size s → (i : ℕ) → slice_index s i < 256
byte_lt h i = grind (arith, common_steps)

-- Shards of one size with the same columns are equal.
pub shard_from_columns : {size : ℕ} {s t : Shard} → IsShard size s → IsShard size t → size % 2 ≡ 0
    → ((j : ℕ) → j < size / 2 → column j s ≡ column j t) → s ≡ t
shard_from_columns {size} {s} {t} hs ht even same =
    ext_get_or 0 s t (hs.length_is ∙ sym ht.length_is) (λ b hb. byte b (subst (λ (n : ℕ). b < n) hs.length_is hb))
  where
    -- If the columns are equal, both bytes of word i of a chunk of w words are equal.
    both : (q i w : ℕ) → i < w → w ≤ 32 → q * 64 + 2 * w ≤ size → chunk_words s (q * 64) ≡ w
        → chunk_words t (q * 64) ≡ w
        → (slice_index s (q * 64 + i) ≡ slice_index t (q * 64 + i))
        × (slice_index s (q * 64 + i + w) ≡ slice_index t (q * 64 + i + w))
    both q i w hi hw fits ws wt =
        let place : q * 32 + i < size / 2 = omega arith in
        halves (slice_index s (q * 64 + i)) (slice_index t (q * 64 + i)) (byte_lt hs (q * 64 + i))
        (byte_lt ht (q * 64 + i))
        (ap (λ v. slice_index s (q * 64 + i) + 256 * slice_index s (q * 64 + i + v)) (sym ws)
        ∙ sym (column-at q i s (omega arith)) ∙ same (q * 32 + i) place
        ∙ column-at q i t (omega arith)
        ∙ ap (λ v. slice_index t (q * 64 + i) + 256 * slice_index t (q * 64 + i + v)) wt)

    -- If the columns are equal, byte r of a chunk of w words is equal.
    at : (q r w : ℕ) → r < 2 * w → w ≤ 32 → q * 64 + 2 * w ≤ size → chunk_words s (q * 64) ≡ w
        → chunk_words t (q * 64) ≡ w
        → slice_index s (q * 64 + r) ≡ slice_index t (q * 64 + r)
    at q r w hr hw fits ws wt =
        elim (cases_lt r w) [
          | inl low ↦ (both q r w low hw fits ws wt).0
          | inr high ↦
              ap (slice_index s) (sym (omega arith)) ∙ (both q (r - w) w (omega arith) hw fits ws wt).1
              ∙ ap (slice_index t) (omega arith)
        ]

    -- If the columns are equal, each byte is equal, by the chunk in which it is.
    byte : (b : ℕ) → b < size → slice_index s b ≡ slice_index t b
    byte b hb =
        let words : (u : Shard) → length u ≡ size → (w : ℕ) → min 64 (size - b / 64 * 64) / 2 ≡ w
        → chunk_words u (b / 64 * 64) ≡ w
        = λ u e w is. ap (λ n. min 64 (n - b / 64 * 64) / 2) e ∙ is in
        ap (slice_index s) (sym (omega arith))
        ∙ elim (cases_lt (size - b / 64 * 64) 64) [
          | inl tail ↦
              let is : min 64 (size - b / 64 * 64) / 2 ≡ (size - b / 64 * 64) / 2 =
              ap (λ n. n / 2) (min-eq_right (let h : size - b / 64 * 64 ≤ 64 = omega arith in h)) in
              at (b / 64) (b % 64) ((size - b / 64 * 64) / 2) (omega arith) (omega arith) (omega arith)
              (words s hs.length_is _ is) (words t ht.length_is _ is)
          | inr whole ↦
              let is : min 64 (size - b / 64 * 64) / 2 ≡ 32 = ap (λ n. n / 2) (min-eq_left whole) in
              at (b / 64) (b % 64) 32 (omega arith) (omega arith) (omega arith) (words s hs.length_is _ is)
              (words t ht.length_is _ is)
        ]
        ∙ ap (slice_index t) (omega arith)

-- An empty shard has zero columns.
column-none : (j : ℕ) → column j [] ≡ 0
unfolding column
column-none j = refl

-- Entry i of column j of shards is column j of shard i.
pub columns-at : (j : ℕ) (xs : List Shard) (i : ℕ) → slice_index (columns j xs) i ≡ column j (shard_at xs i)
columns-at j xs i = ap (λ d. get_or (columns j xs) i d) (sym (column-none j)) ∙ get_or-map (column j) xs i []

-- Each element of a list of n shards is a shard.
pub shard_in : {count size : ℕ} {shards : List Shard} → AreShards count size shards → (i : ℕ) → i < count
    → IsShard size (shard_at shards i)
shard_in h i hi = h.each i [] (subst (λ (n : ℕ). i < n) (sym h.length_is) hi)

-- Each column of a shard is a word.
pub column_lt : {size : ℕ} {s : Shard} (j : ℕ) → IsShard size s → column j s < 65536
unfolding column
column_lt j h = grind (arith, common_steps)

pub columns_lt : {n size : ℕ} {shards : List Shard} → AreShards n size shards → (j i : ℕ) → i < n
    → slice_index (columns j shards) i < 65536
columns_lt h j i hi = search (rules, columns-at, column_lt, shard_in)

-- Two lists of n shards of one even size are equal if they have the same columns.
pub shards_from_columns : {count size : ℕ} {a b : List Shard} → AreShards count size a → AreShards count size b
    → size % 2 ≡ 0
    → ((i j : ℕ) → i < count → j < size / 2 → slice_index (columns j a) i ≡ slice_index (columns j b) i) → a ≡ b
shards_from_columns {count} {a} {b} ha hb even same =
    ext_get_or [] a b (ha.length_is ∙ sym hb.length_is) (λ i h.
    let below : i < count = subst (λ (n : ℕ). i < n) ha.length_is h in
    shard_from_columns (ha.each i [] h)
    (hb.each i [] (subst (λ (n : ℕ). i < n) (sym hb.length_is) below)) even
    (λ j hj. sym (columns-at j a i) ∙ same i j below hj ∙ columns-at j b i))
