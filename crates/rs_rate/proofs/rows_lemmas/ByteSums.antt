-- Shards that are added, byte by byte, to rows whose bytes are in order.
use Rattle.std.proofs.Common.{◌≡◌, ℕ, ◌+◌, ◌-◌, ◌*◌, ◌≢◌, ◌/◌, ◌%◌, ◌<◌, ◌≤◌, ◌++◌, [], length, take, drop, bit_xor}
use Rattle.std.proofs.Common.{get_or, sym, ap, ap₂, ◌∙◌, arith}
use Rattle.std.proofs.lemmas.List.{get_or_append_left, get_or-append_right, get_or-take}
use Rattle.std.proofs.lemmas.List.{get_or-drop}
use Rattle.std.specs.Prelude.{slice_index}
use Rattle.std.specs.Simd.{first_chunks}
use borrow.Rule.Slice.PartMut.{put_mid}
use Rattle.rs_field.specs.code.Column.{Shard}
use Rattle.rs_field.specs.rows.Layout.{row_len, in_order}
use Rattle.rs_field.specs.rows.Rows.{Chunks, chunk}
use Rattle.rs_field.proofs.rows_lemmas.LayoutLemmas.{byte_of_chunk, length-in_order, in_order-same}
use Rattle.rs_field.proofs.words_lemmas.UpTo.{get-up_to}
use Rattle.rs_rate.specs.rows.ShardRows.{row_chunk, shard_in_order, IsByteSum}
use Rattle.rs_rate.proofs.rows_lemmas.ShardRowsLemmas.{row_chunk-apart, part-inside, part-read}

-- Byte b of the first n chunks of a row, if these chunks are added to the first n chunks of a shard.
pub bytes-first : (n b : ℕ) (shard : Shard) (row front whole now rest : Chunks) → b / 64 < n → length now ≡ n
    → front ≡ take n row → whole ≡ first_chunks 64 n shard
    → ((k i : ℕ) → k < n → i < 64
    → slice_index (chunk now k) i ≡ bit_xor (slice_index (chunk front k) i) (slice_index (chunk whole k) i))
    → slice_index (chunk (now ++ rest) (b / 64)) (b % 64)
    ≡ bit_xor (slice_index (chunk row (b / 64)) (b % 64)) (slice_index shard b)
bytes-first n b shard row front whole now rest early long is are sums =
    ap (λ c. slice_index c (b % 64)) (get_or_append_left now rest [] (b / 64) (omega (arith, early, long)))
    ∙ sums (b / 64) (b % 64) early (omega arith)
    ∙ ap₂ bit_xor
    (ap (λ (c : Chunks). slice_index (chunk c (b / 64)) (b % 64)) is
    ∙ ap (λ c. slice_index c (b % 64)) (get_or-take n row (b / 64) [] early))
    (ap (λ (c : Chunks). slice_index (chunk c (b / 64)) (b % 64)) are
    ∙ byte_of_chunk n (b / 64) (b % 64) shard early (omega arith)
    ∙ ap (λ i. get_or shard i 0) (let e : b / 64 * 64 + b % 64 ≡ b = omega arith in e))

-- Byte b of the chunk after the first n ones, if a chunk that begins with the last bytes of a shard is added to it.
pub bytes-last : (n b : ℕ) (shard tail : Shard) (row back now last : Chunks) (added : Shard) → n ≤ b / 64
    → b < n * 64 + length tail → length tail < 64
    → length now ≡ n → back ≡ drop n row → tail ≡ drop (n * 64) shard
    → ((i : ℕ) → i < length tail → slice_index added i ≡ slice_index tail i)
    → ((i : ℕ) → i < 64
    → slice_index (chunk last 0) i ≡ bit_xor (slice_index (chunk back 0) i) (slice_index added i))
    → slice_index (chunk (now ++ last) (b / 64)) (b % 64)
    ≡ bit_xor (slice_index (chunk row (b / 64)) (b % 64)) (slice_index shard b)
bytes-last n b shard tail row back now last added late inside short long is are begins sums =
    let here : b / 64 ≡ n = omega (arith, late, inside, short) in
    let first : b / 64 - n ≡ 0 = omega (arith, here) in
    let at : n * 64 + b % 64 ≡ b = omega (arith, here) in
    let within : b % 64 < length tail = omega (arith, here, inside) in
    ap (λ c. slice_index c (b % 64))
    (get_or-append_right now last n (b / 64) [] long late ∙ ap (λ k. chunk last k) first)
    ∙ sums (b % 64) (omega arith)
    ∙ ap₂ bit_xor
    (ap (λ (c : Chunks). slice_index (chunk c 0) (b % 64)) is
    ∙ ap (λ c. slice_index c (b % 64)) (get_or-drop n row 0 [])
    ∙ ap (λ k. slice_index (chunk row k) (b % 64)) (let e : n + 0 ≡ b / 64 = omega (arith, here) in e))
    (begins (b % 64) within
    ∙ ap (λ (s : Shard). slice_index s (b % 64)) are
    ∙ get_or-drop (n * 64) shard (b % 64) 0
    ∙ ap (λ i. get_or shard i 0) at)

-- If the bytes of a row are the sums of its old bytes and those of a shard, the shard in the row is the sum of both.
pub sum-in_order : (size : ℕ) (shard : Shard) (old new : ℕ → Shard) → length shard ≡ size
    → ((b : ℕ) → b < size
    → slice_index (new (b / 64)) (b % 64) ≡ bit_xor (slice_index (old (b / 64)) (b % 64)) (slice_index shard b))
    → IsByteSum (in_order size old) shard (in_order size new)
unfolding in_order
sum-in_order size shard old new long sums = record {
  length_is = length-in_order size new ∙ sym long;
  bytes = λ b inside.
      let below : b < size = omega (arith, inside, long) in
      get-up_to size _ b 0 below ∙ sums b below
      ∙ ap (λ v. bit_xor v (slice_index shard b)) (sym (get-up_to size _ b 0 below));
}

-- If a part that is row i was written, and its bytes are the sums of those before and those of a shard, the shard in
-- row
-- i is the sum of both.
pub added-here : (chunks part : Chunks) (size i start n : ℕ) (shard : Shard) → start ≡ i * row_len size
    → n ≡ row_len size → start + n ≤ length chunks → length part ≡ n → length shard ≡ size
    → ((b : ℕ) → b < length shard
    → slice_index (chunk part (b / 64)) (b % 64)
    ≡ bit_xor (slice_index (chunk (take n (drop start chunks)) (b / 64)) (b % 64)) (slice_index shard b))
    → IsByteSum (shard_in_order chunks size i) shard (shard_in_order (put_mid start n chunks part) size i)
unfolding row_chunk
added-here chunks part size i start n shard at width fits same long sums =
    sum-in_order size shard (row_chunk chunks size i) (row_chunk (put_mid start n chunks part) size i) long
    (λ b inside.
    let k : b / 64 < n = omega (arith, inside, width) in
    let here : i * row_len size + b / 64 ≡ start + b / 64 = omega (arith, at) in
    ap (λ m. slice_index (chunk (put_mid start n chunks part) m) (b % 64)) here
    ∙ ap (λ c. slice_index c (b % 64)) (part-inside chunks part start n (b / 64) fits same k)
    ∙ sums b (omega (arith, inside, long))
    ∙ ap (λ c. bit_xor (slice_index c (b % 64)) (slice_index shard b)) (part-read chunks start n (b / 64) fits k)
    ∙ ap (λ m. bit_xor (slice_index (chunk chunks m) (b % 64)) (slice_index shard b)) (sym here))

-- If a part that is row i was written, the shards in the other rows are unchanged.
pub added-other : (chunks part : Chunks) (size i j start n : ℕ) → start ≡ i * row_len size → n ≡ row_len size
    → start + n ≤ length chunks → length part ≡ n → j ≢ i
    → shard_in_order (put_mid start n chunks part) size j ≡ shard_in_order chunks size j
added-other chunks part size i j start n at width fits same apart =
    in_order-same size (row_chunk (put_mid start n chunks part) size j) (row_chunk chunks size j)
    (λ k inside. row_chunk-apart chunks part size i j k start n at width fits same inside apart)
