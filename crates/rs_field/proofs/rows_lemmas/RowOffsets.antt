-- The place of row i of rows of n chunks among the chunks, and the chunks outside some rows, which are unchanged.
use Rattle.std.proofs.Common.{rules, ◌≡◌, ℕ, ◌+◌, ◌*◌, ◌<◌, ◌≤◌, ◌⊎◌, ◌≢◌, inl, inr, arith, ap, ◌∙◌, subst}
use Rattle.std.proofs.Math.Nat.{mul-le-mul_right}
use Rattle.rs_field.specs.rows.Rows.{Chunks, chunk, word_in, SameOutside}
use Rattle.rs_field.specs.rows.View.{cell, word, SameExtent, SameRowsOutside}
use Rattle.rs_field.specs.declared.rows.shards.ShardsRefMut.{ShardsRefMut}

pub row_ends : (i m n : ℕ) → i < m → i * n + n ≤ m * n
row_ends i m n h = let p : (i + 1) * n ≤ m * n = mul-le-mul_right n (omega arith) in omega arith

-- Some rows end before any later row begins, and row ends are within the rows.
pub rows_end : (a count m n : ℕ) → a + count ≤ m → a * n + count * n ≤ m * n
rows_end a count m n h = let p : (a + count) * n ≤ m * n = mul-le-mul_right n h in omega arith

-- Chunk k of row i of m rows is among the m * n chunks.
pub row_within : (i m k n : ℕ) → i < m → k < n → i * n + k < m * n
row_within i m k n hi hk = let ends = row_ends i m n hi in omega arith

-- A chunk of a row below a is before row a, and a chunk of a row from b on is at or after row b.
pub offset_outside : (a b i k n : ℕ) → k < n → (i < a) ⊎ (b ≤ i) → (i * n + k < a * n) ⊎ (b * n ≤ i * n + k)
offset_outside a b i k n q h = search (rules, row_ends)

-- A chunk of another row is outside row a.
pub offset_apart : (a i k n : ℕ) → k < n → i ≢ a → (i * n + k < a * n) ⊎ (a * n + n ≤ i * n + k)
offset_apart a i k n q ne = search (rules, row_ends)

-- The chunks of the rows outside the changed rows are unchanged.
pub outside_cell : {a b : ℕ} {old new : ShardsRefMut} → SameExtent old new → SameRowsOutside a b old new
    → (i k : ℕ) → k < old.shard_len_64 → (i < a) ⊎ (b ≤ i) → cell new k i ≡ cell old k i
unfolding cell
outside_cell {a} {b} {old} {new} extent others i k hk h =
    ap (λ n. chunk new.chunks.now (i * n + k)) extent.len_64
    ∙ others (i * old.shard_len_64 + k) (offset_outside a b i k old.shard_len_64 hk h)

-- Two changes one after another, each within the rows from e to f - 1, are one change within these rows.
pub outside_both : (a b c d e f : ℕ) (old mid new : ShardsRefMut) → SameExtent old mid → SameRowsOutside a b old mid
    → SameRowsOutside c d mid new
    → e ≤ a → b ≤ f → e ≤ c → d ≤ f → SameRowsOutside e f old new
outside_both a b c d e f old mid new extent first second ea bf ec df k h =
    let n : ℕ = old.shard_len_64 in
    let ea_n : e * n ≤ a * n = mul-le-mul_right n ea in
    let bf_n : b * n ≤ f * n = mul-le-mul_right n bf in
    let ec_n : e * n ≤ c * n = mul-le-mul_right n ec in
    let df_n : d * n ≤ f * n = mul-le-mul_right n df in
    let then : SameOutside (c * n) (d * n) mid.chunks.now new.chunks.now =
    subst (λ (m : ℕ). SameOutside (c * m) (d * m) mid.chunks.now new.chunks.now) extent.len_64 second in
    then k (elim h [ inl before ↦ inl (omega arith) | inr after ↦ inr (omega arith) ])
    ∙ first k (elim h [ inl before ↦ inl (omega arith) | inr after ↦ inr (omega arith) ])

pub extent_then : {old mid new : ShardsRefMut} → SameExtent old mid → SameExtent mid new → SameExtent old new
extent_then p q = search rules

-- A word of rows is a word of their chunks.
pub word_of : (rows : ShardsRefMut) (chunks : Chunks) (n k s i : ℕ) → rows.shard_len_64 ≡ n → chunks ≡ rows.chunks.now
    → word_in chunks n k s i ≡ word rows k s i
unfolding cell
word_of rows chunks n k s i len is = search rules
