-- The chunks of rows, and the shards in rows.
use Rattle.std.proofs.lemmas.Grind.{common_steps}
use Rattle.std.proofs.Common.{◌≡◌, ◌≢◌, ℕ, ◌+◌, ◌*◌, ◌/◌, ◌%◌, ◌^◌, ◌<◌, ◌≤◌, List, [], ◌∷◌, ◌++◌, length, take, drop}
use Rattle.std.proofs.Common.{get_or, ◌∙◌, arith, ◌⊎◌, rules}
use Rattle.std.proofs.Math.Nat.{mul-le-mul_right}
use Rattle.std.specs.Prelude.{slice_index, flat_map}
use Rattle.std.proofs.lemmas.List.{places, length-take, length-drop}
use borrow.Rule.Slice.PartMut.{put_mid}
use Rattle.rs_field.specs.rows.Rows.{Chunks, chunk, word_in}
use Rattle.rs_field.specs.rows.Layout.{row_len, laid_out, in_order}
use Rattle.rs_field.specs.words.UpTo.{up_to}
use Rattle.rs_field.specs.code.Column.{Shard, IsShard, column}
pub use Rattle.rs_rate.specs.values.RowCounts.{chunk_count-size}
use Rattle.rs_rate.specs.values.ChunkCounts.{chunk_count}
use Rattle.rs_rate.specs.rows.ShardRows.{row_chunk, shard_laid_out, shard_in_order}
use Rattle.rs_field.proofs.rows_lemmas.Symbols.{byte_fits}
use Rattle.rs_field.proofs.rows_lemmas.LayoutLemmas.{laid_out-same, in_order-same, column-laid_out}
use Rattle.rs_field.proofs.words_lemmas.UpTo.{up_to-same}
use Rattle.rs_field.proofs.rows_lemmas.RowOffsets.{offset_apart}

pub chunk_count-more : (m n size : ℕ) → m ≤ n → chunk_count m size ≤ chunk_count n size
unfolding chunk_count
chunk_count-more m n size h = mul-le-mul_right (row_len size) h

-- If the size of rows in bytes fits a `usize`, the number of rows fits a `usize`.
pub count-few : (n size : ℕ) → 0 < size → chunk_count n size * 64 < 2 ^ 64 → n < 2 ^ 64
unfolding chunk_count
count-few n size some fits = search rules

-- The number of chunks up to the end of row i.
pub row_end : (i size : ℕ) → chunk_count (i + 1) size ≡ i * row_len size + row_len size
unfolding chunk_count
row_end i size = omega arith

-- All chunks of a row below the last are within the chunks of the rows.
pub chunk_count-within : (i m size l : ℕ) → i < m → chunk_count m size ≤ l → chunk_count (i + 1) size ≤ l
chunk_count-within i m size l less all = let rise = chunk_count-more (i + 1) m size (omega (arith, less)) in
    omega (arith, rise, all)

-- Laying one more shard into the next row appends this shard to the shards of the rows.
pub given-more : (old new : Chunks) (size n length_ : ℕ) (shard : Shard) → length_ ≡ size
    → shard_laid_out new length_ n ≡ shard
    → ((i : ℕ) → i ≢ n → shard_laid_out new length_ i ≡ shard_laid_out old length_ i)
    → up_to (n + 1) (shard_laid_out new size) ≡ up_to n (shard_laid_out old size) ++ shard ∷ []
given-more old new size n length_ shard same here others = search (rules, up_to-same)

-- After a shard of the size was laid into a row, this row and the other rows that held shards of the size hold shards
-- of the size.
pub shard-entered : (old new : Chunks) (size row length_ i : ℕ) (shard : Shard) → length_ ≡ size → IsShard length_ shard
    → shard_laid_out new length_ row ≡ shard
    → ((j : ℕ) → j ≢ row → shard_laid_out new length_ j ≡ shard_laid_out old length_ j)
    → (i ≢ row → IsShard size (shard_laid_out old size i))
    → IsShard size (shard_laid_out new size i)
shard-entered old new size row length_ i shard same is here others before = search rules

-- A chunk inside a part that was written is the chunk of the part.
pub part-inside : (chunks part : Chunks) (start n k : ℕ) → start + n ≤ length chunks → length part ≡ n → k < n
    → chunk (put_mid start n chunks part) (start + k) ≡ chunk part k
part-inside chunks part start n k fits same inside = search (rules, places)

-- A chunk outside a part that was written is unchanged.
pub part-outside : (chunks part : Chunks) (start n k : ℕ) → start + n ≤ length chunks → length part ≡ n → (k < start)
    ⊎ (start + n ≤ k) → chunk (put_mid start n chunks part) k ≡ chunk chunks k
part-outside chunks part start n k fits same outside = search (rules, places)

-- If a part that is row i was written, the chunks of row i are the chunks of the part.
pub row_chunk-here : (chunks part : Chunks) (size i k : ℕ) → i * row_len size + row_len size ≤ length chunks
    → length part ≡ row_len size → k < row_len size
    → row_chunk (put_mid (i * row_len size) (row_len size) chunks part) size i k ≡ chunk part k
unfolding row_chunk
row_chunk-here chunks part size i k fits same inside =
    part-inside chunks part (i * row_len size) (row_len size) k fits same inside

pub row_chunk-other : (chunks part : Chunks) (size i j k : ℕ) → i * row_len size + row_len size ≤ length chunks
    → length part ≡ row_len size → k < row_len size → j ≢ i
    → row_chunk (put_mid (i * row_len size) (row_len size) chunks part) size j k ≡ row_chunk chunks size j k
unfolding row_chunk
row_chunk-other chunks part size i j k fits same inside apart = search (rules, part-outside, offset_apart)

-- If a part that is row i was written, the shard in row i is the shard of the part.
pub put-here : (chunks part : Chunks) (size i start n : ℕ) → start ≡ i * row_len size → n ≡ row_len size
    → start + n ≤ length chunks → length part ≡ n
    → shard_laid_out (put_mid start n chunks part) size i ≡ laid_out size (λ k. chunk part k)
put-here chunks part size i start n at width fits same = search (rules, laid_out-same, row_chunk-here)

-- If a part that is row i was written, the shards in the other rows are unchanged.
pub put-other : (chunks part : Chunks) (size i j start n : ℕ) → start ≡ i * row_len size → n ≡ row_len size
    → start + n ≤ length chunks → length part ≡ n → j ≢ i
    → shard_laid_out (put_mid start n chunks part) size j ≡ shard_laid_out chunks size j
put-other chunks part size i j start n at width fits same apart = search (rules, laid_out-same, row_chunk-other)

-- Chunk k of a part that begins at `start` is chunk `start + k` of the rows.
pub part-read : (chunks : Chunks) (start n k : ℕ) → start + n ≤ length chunks → k < n
    → chunk (take n (drop start chunks)) k ≡ chunk chunks (start + k)
part-read chunks start n k fits inside = search (rules, places)

pub moved-read : (chunks : Chunks) (size i start n m : ℕ) → start ≡ i * row_len size → n ≡ row_len size → m ≡ n
    → start + n ≤ length chunks
    → in_order size (λ k. chunk (take m (drop start chunks)) k) ≡ shard_in_order chunks size i
unfolding row_chunk
moved-read chunks size i start n m at width same fits = search (rules, in_order-same, part-read)

-- A part that was written has the length of the chunks that it replaced.
pub part_length : (chunks part : Chunks) (start n : ℕ) → start + n ≤ length chunks
    → length part ≡ length (take n (drop start chunks)) → length part ≡ n
part_length chunks part start n fits same = same ∙ simp (length-take, length-drop) (omega arith)

-- If a part that is row i was written, the chunks of the other rows are unchanged.
pub row_chunk-apart : (chunks part : Chunks) (size i j k start n : ℕ) → start ≡ i * row_len size → n ≡ row_len size
    → start + n ≤ length chunks → length part ≡ n → k < row_len size → j ≢ i
    → row_chunk (put_mid start n chunks part) size j k ≡ row_chunk chunks size j k
row_chunk-apart chunks part size i j k start n at width fits same inside apart = search (rules, row_chunk-other)

-- Column j of the shard in row i has the words of row i.
pub column-put : (chunks : Chunks) (size i j : ℕ) → size % 2 ≡ 0 → j < size / 2
    → column j (shard_laid_out chunks size i) ≡ word_in chunks (row_len size) (j / 32) (j % 32) i
unfolding row_chunk
column-put chunks size i j even inside = column-laid_out size j (row_chunk chunks size i) inside

-- Each element of a chunk is a byte.
pub chunk-fits : (chunks : Chunks) (bytes : List ℕ) (k b : ℕ) → bytes ≡ flat_map (λ x. x) chunks
    → ((j : ℕ) → get_or bytes j 0 < 256)
    → ((j : ℕ) → j < length chunks → length (chunk chunks j) ≡ 64) → k < length chunks → b < 64
    → slice_index (chunk chunks k) b < 256
chunk-fits chunks bytes k b whole fits wide inside small = grind (arith, common_steps, byte_fits)

-- Each element of a chunk of a row is a byte.
pub row-fits : (chunks : Chunks) (bytes : List ℕ) (size rows i k b : ℕ) → bytes ≡ flat_map (λ x. x) chunks
    → ((j : ℕ) → get_or bytes j 0 < 256)
    → ((j : ℕ) → j < length chunks → length (chunk chunks j) ≡ 64) → i < rows → chunk_count rows size ≤ length chunks
    → k < row_len size → b < 64
    → slice_index (row_chunk chunks size i k) b < 256
unfolding row_chunk
row-fits chunks bytes size rows i k b whole fits wide few room inside small = grind (arith, common_steps, byte_fits)
