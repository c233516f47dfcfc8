-- The places of the bytes of a shard in a row, and the proof that the columns of the shard are the symbols of the row's
-- chunks.
use Rattle.std.proofs.Common.{rules, ◌≡◌, ℕ, zero, suc, ◌+◌, ◌-◌, ◌*◌, ◌/◌, ◌%◌, ◌<◌, ◌≤◌, List, [], ◌∷◌, length}
use Rattle.std.proofs.Common.{get_or, min, take, drop, All, sym, ap, ap₂, ◌∙◌, refl, subst, arith, inl, inr}
use Rattle.std.proofs.Common.{length-append}
use Rattle.std.specs.Prelude.{slice_index}
use Rattle.std.specs.Simd.{first_chunks}
use Rattle.std.proofs.lemmas.Bool.{cases_lt}
use Rattle.std.proofs.lemmas.List.{get_or_append_left, get_or-append_right, get_or-take, get_or-drop, length-take-le}
use Rattle.std.proofs.lemmas.Grind.{common_steps}
use Rattle.rs_field.specs.code.Column.{Shard, IsShard, column}
use Rattle.std.specs.List.{flat_map}
use Rattle.rs_field.specs.rows.Rows.{chunk, symbol}
use Rattle.rs_field.specs.rows.Layout.{row_len, byte_offset, laid_out, in_order}
use Rattle.rs_field.proofs.code_lemmas.Columns.{column-chunk}
use Rattle.rs_field.proofs.words_lemmas.UpTo.{length-up_to, get-up_to, up_to-same, up_to-is}

pub length-laid_out : (size : ℕ) (chunks : ℕ → List ℕ) → length (laid_out size chunks) ≡ size
unfolding laid_out
length-laid_out size chunks = length-up_to size (λ b. slice_index (chunks (b / 64)) (byte_offset size b))

pub length-in_order : (size : ℕ) (chunks : ℕ → List ℕ) → length (in_order size chunks) ≡ size
unfolding in_order
length-in_order size chunks = length-up_to size (λ b. slice_index (chunks (b / 64)) (b % 64))

-- Byte b of the shard in a row is a byte of chunk b / 64.
pub get-laid_out : (size b : ℕ) (chunks : ℕ → List ℕ) → b < size
    → slice_index (laid_out size chunks) b ≡ slice_index (chunks (b / 64)) (byte_offset size b)
unfolding laid_out
get-laid_out size b chunks h = get-up_to size (λ b. slice_index (chunks (b / 64)) (byte_offset size b)) b 0 h

pub laid_out-same : (size : ℕ) (f g : ℕ → List ℕ) → ((k : ℕ) → k < row_len size → f k ≡ g k)
    → laid_out size f ≡ laid_out size g
unfolding laid_out
laid_out-same size f g same = search (rules, up_to-same)

pub in_order-same : (size : ℕ) (f g : ℕ → List ℕ) → ((k : ℕ) → k < row_len size → f k ≡ g k)
    → in_order size f ≡ in_order size g
unfolding in_order
in_order-same size f g same = search (rules, up_to-same)

-- If half the bytes of a chunk or of the tail are `half` bytes, the first half is at the beginning of the chunk.
pub byte_offset-low : (size b half : ℕ) → min 64 (size - b / 64 * 64) / 2 ≡ half → b % 64 < half
    → byte_offset size b ≡ b % 64
unfolding byte_offset
byte_offset-low size b half e h = grind (arith, common_steps)

-- If half the bytes of a chunk or of the tail are `half` bytes, the second half begins at byte 32 of the chunk.
pub byte_offset-high : (size b half : ℕ) → min 64 (size - b / 64 * 64) / 2 ≡ half → half ≤ b % 64
    → byte_offset size b ≡ b % 64 - half + 32
unfolding byte_offset
byte_offset-high size b half e h = grind (arith, common_steps)

half-tail : (size b : ℕ) → b / 64 ≡ size / 64 → min 64 (size - b / 64 * 64) / 2 ≡ size % 64 / 2
half-tail size b h = grind (arith, common_steps)

-- The bytes of a whole chunk have the same places in the shard and in the row.
pub byte_offset-whole : (size b : ℕ) → b / 64 < size / 64 → byte_offset size b ≡ b % 64
byte_offset-whole size b h = grind (arith, common_steps, byte_offset-low, byte_offset-high)

pub byte_offset-tail_low : (size b : ℕ) → b / 64 ≡ size / 64 → b % 64 < size % 64 / 2 → byte_offset size b ≡ b % 64
byte_offset-tail_low size b q h = byte_offset-low size b (size % 64 / 2) (half-tail size b q) h

pub byte_offset-tail_high : (size b : ℕ) → b / 64 ≡ size / 64 → size % 64 / 2 ≤ b % 64
    → byte_offset size b ≡ b % 64 - size % 64 / 2 + 32
byte_offset-tail_high size b q h = byte_offset-high size b (size % 64 / 2) (half-tail size b q) h

byte_offset_lt : (size b : ℕ) → b < size → byte_offset size b < 64
byte_offset_lt size b h = grind (arith, common_steps, byte_offset-whole, byte_offset-tail_low, byte_offset-tail_high)

module _ (size : ℕ) (chunks : ℕ → List ℕ)
    (small : (k b : ℕ) → k < row_len size → b < 64 → slice_index (chunks k) b < 256) where
  bytes-laid_out : All (λ b. b < 256) (laid_out size chunks)
  unfolding laid_out
  bytes-laid_out i d h = grind (arith, common_steps, length-laid_out, get-up_to, byte_offset_lt)

  pub shard-laid_out : IsShard size (laid_out size chunks)
  shard-laid_out = record { length_is = length-laid_out size chunks; bytes = bytes-laid_out }

  -- A shard whose tail was moved is a shard of the size.
  pub shard-in_order : IsShard size (in_order size chunks)
  unfolding in_order
  shard-in_order = grind (arith, common_steps, length-in_order, get-up_to)

-- Word i of chunk q has its low byte in the first half and its high byte in the second half.
word-laid_out : (size q i half : ℕ) (chunks : ℕ → List ℕ) → min 64 (size - q * 64) / 2 ≡ half → i < half
    → q * 64 + 2 * half ≤ size
    → slice_index (laid_out size chunks) (q * 64 + i) + 256 * slice_index (laid_out size chunks) (q * 64 + i + half)
    ≡ symbol (chunks q) i
word-laid_out size q i half chunks e low fits = search (rules, byte_offset-low, byte_offset-high, get-laid_out)

-- Column j of the shard is a symbol of a chunk of the row.
pub column-laid_out : (size j : ℕ) (chunks : ℕ → List ℕ) → j < size / 2
    → column j (laid_out size chunks) ≡ symbol (chunks (j / 32)) (j % 32)
unfolding column
column-laid_out size j chunks h = grind (arith, common_steps, length-laid_out, word-laid_out)

-- If the whole chunks of a row are those of the shard, and the last chunk holds the halves of the tail, the row holds
-- the shard.
pub laid_out-is : (size : ℕ) (chunks : ℕ → List ℕ) (s : Shard) → length s ≡ size → size % 2 ≡ 0
    → ((k b : ℕ) → k < size / 64 → b < 64 → slice_index (chunks k) b ≡ slice_index s (k * 64 + b))
    → ((b : ℕ) → b < size % 64 / 2 → slice_index (chunks (size / 64)) b ≡ slice_index s (size / 64 * 64 + b))
    → ((b : ℕ) → b < size % 64 / 2
    → slice_index (chunks (size / 64)) (32 + b) ≡ slice_index s (size / 64 * 64 + (size % 64 / 2 + b)))
    → laid_out size chunks ≡ s
unfolding laid_out
laid_out-is size chunks s len even whole low high =
    up_to-is 0 size (λ b. slice_index (chunks (b / 64)) (byte_offset size b)) s len byte
  where
    byte : (b : ℕ) → b < size → slice_index (chunks (b / 64)) (byte_offset size b) ≡ slice_index s b
    byte b h =
        elim (cases_lt (b / 64) (size / 64)) [
          | inl before ↦
              let e : b / 64 * 64 + b % 64 ≡ b = omega arith in
              ap (slice_index (chunks (b / 64))) (byte_offset-whole size b before)
              ∙ whole (b / 64) (b % 64) before (omega arith) ∙ ap (slice_index s) e
          | inr last ↦
              let q : b / 64 ≡ size / 64 = omega arith in
              elim (cases_lt (b % 64) (size % 64 / 2)) [
                | inl first ↦
                    let e : size / 64 * 64 + b % 64 ≡ b = omega arith in
                    ap₂ (λ k n. slice_index (chunks k) n) q (byte_offset-tail_low size b q first) ∙ low (b % 64) first
                    ∙ ap (slice_index s) e
                | inr second ↦
                    let at : b % 64 - size % 64 / 2 + 32 ≡ 32 + (b % 64 - size % 64 / 2) = omega arith in
                    let e : size / 64 * 64 + (size % 64 / 2 + (b % 64 - size % 64 / 2)) ≡ b = omega arith in
                    ap₂ (λ k n. slice_index (chunks k) n) q (byte_offset-tail_high size b q second ∙ at)
                    ∙ high (b % 64 - size % 64 / 2) (omega arith) ∙ ap (slice_index s) e
              ]
        ]

-- Moving the second half of the tail puts the bytes in order.
pub in_order-is : (size : ℕ) {new old : ℕ → List ℕ} → size % 2 ≡ 0
    → ((k : ℕ) → k < size / 64 → new k ≡ old k)
    → ((b : ℕ) → b < size % 64 / 2 → slice_index (new (size / 64)) b ≡ slice_index (old (size / 64)) b)
    → ((b : ℕ) → b < size % 64 / 2
    → slice_index (new (size / 64)) (size % 64 / 2 + b) ≡ slice_index (old (size / 64)) (32 + b))
    → in_order size new ≡ laid_out size old
unfolding in_order laid_out
in_order-is size {new} {old} even whole low high = up_to-same size _ _ byte
  where
    byte : (b : ℕ) → b < size → slice_index (new (b / 64)) (b % 64) ≡ slice_index (old (b / 64)) (byte_offset size b)
    byte b h =
        elim (cases_lt (b / 64) (size / 64)) [
          | inl before ↦ ap₂ slice_index (whole (b / 64) before) (sym (byte_offset-whole size b before))
          | inr last ↦
              let q : b / 64 ≡ size / 64 = omega arith in
              elim (cases_lt (b % 64) (size % 64 / 2)) [
                | inl first ↦
                    ap (λ k. slice_index (new k) (b % 64)) q ∙ low (b % 64) first
                    ∙ sym (ap₂ (λ k n. slice_index (old k) n) q (byte_offset-tail_low size b q first))
                | inr second ↦
                    let at : b % 64 - size % 64 / 2 + 32 ≡ 32 + (b % 64 - size % 64 / 2) = omega arith in
                    let e : b % 64 ≡ size % 64 / 2 + (b % 64 - size % 64 / 2) = omega arith in
                    ap₂ (λ k n. slice_index (new k) n) q e ∙ high (b % 64 - size % 64 / 2) (omega arith)
                    ∙ sym (ap₂ (λ k n. slice_index (old k) n) q (byte_offset-tail_high size b q second ∙ at))
              ]
        ]

-- Byte i of the bytes from a on is byte a + i of the list.
pub get-rest : (s : List ℕ) (a i : ℕ) → i < length s - a
    → slice_index (take (length s - a) (drop a s)) i ≡ slice_index s (a + i)
get-rest s a i h = get_or-take (length s - a) (drop a s) i 0 h ∙ get_or-drop a s i 0

-- Byte b of chunks that are joined is byte b % 64 of chunk b / 64.
pub get-flat : (rows : List (List ℕ)) → ((i : ℕ) → i < length rows → length (get_or rows i []) ≡ 64) → (b : ℕ)
    → b < length rows * 64
    → slice_index (flat_map (λ x. x) rows) b ≡ slice_index (get_or rows (b / 64) []) (b % 64)
get-flat [] sized b h = absurd (omega arith)
get-flat (x ∷ rows) sized b h =
    let len : length x ≡ 64 = sized 0 (omega arith) in
    elim (cases_lt b 64) [
      | inl low ↦
          let q : b / 64 ≡ 0 = omega arith in
          let r : b % 64 ≡ b = omega arith in
          get_or_append_left x (flat_map (λ y. y) rows) 0 b (subst (λ n. b < n) (sym len) low)
          ∙ sym (ap₂ (λ k n. slice_index (get_or (x ∷ rows) k []) n) q r)
      | inr high ↦
          let q : b / 64 ≡ suc ((b - 64) / 64) = omega arith in
          let r : b % 64 ≡ (b - 64) % 64 = omega arith in
          get_or-append_right x (flat_map (λ y. y) rows) 64 b 0 len high
          ∙ get-flat rows (λ i g. sized (suc i) (omega arith)) (b - 64) (omega arith)
          ∙ sym (ap₂ (λ k n. slice_index (get_or (x ∷ rows) k []) n) q r)
    ]

length-flat : (rows : List (List ℕ)) → ((i : ℕ) → i < length rows → length (get_or rows i []) ≡ 64)
    → length (flat_map (λ x. x) rows) ≡ length rows * 64
length-flat [] sized = refl
length-flat (x ∷ rows) sized =
    let len : length x ≡ 64 = sized 0 (omega arith) in
    let more = length-flat rows (λ i g. sized (suc i) (omega arith)) in
    length-append x (flat_map (λ y. y) rows)
    ∙ (let e : length x + length (flat_map (λ y. y) rows) ≡ suc (length rows) * 64 = omega arith in e)

-- The first bytes of joined chunks are the shard in order.
pub take-flat : (size : ℕ) (rows : List (List ℕ)) → ((i : ℕ) → i < length rows → length (get_or rows i []) ≡ 64)
    → length rows ≡ row_len size
    → take size (flat_map (λ x. x) rows) ≡ in_order size (λ k. chunk rows k)
unfolding in_order
take-flat size rows sized len =
    sym
    (up_to-is 0 size (λ b. slice_index (chunk rows (b / 64)) (b % 64)) (take size (flat_map (λ x. x) rows))
    (length-take-le size _ (let whole = length-flat rows sized in omega arith))
    (λ b h. sym (get_or-take size (flat_map (λ x. x) rows) b 0 h ∙ get-flat rows sized b (omega arith))))

-- ---- a list of bytes as whole chunks

-- Byte b of chunk k is byte 64 k + b of the list.
pub byte_of_chunk : (count k b : ℕ) (bytes : List ℕ) → k < count → b < 64
    → get_or (get_or (first_chunks 64 count bytes) k []) b 0 ≡ get_or bytes (k * 64 + b) 0
byte_of_chunk zero k b bytes h hb = absurd (omega arith)
byte_of_chunk (suc count) zero b bytes h hb = get_or-take 64 bytes b 0 hb ∙ ap (λ i. get_or bytes i 0) (omega arith)
byte_of_chunk (suc count) (suc k) b bytes h hb =
    byte_of_chunk count k b (drop 64 bytes) (omega arith) hb ∙ get_or-drop 64 bytes (k * 64 + b) 0
    ∙ ap (λ i. get_or bytes i 0) (omega arith)

-- The symbols of the whole chunks of a shard are its columns.
pub symbol_of_chunk : (count j : ℕ) (shard : Shard) → j / 32 < count → count * 64 ≤ length shard
    → symbol (chunk (first_chunks 64 count shard) (j / 32)) (j % 32) ≡ column j shard
symbol_of_chunk count j shard inside within =
    let place : j / 32 * 32 + j % 32 ≡ j = omega arith in
    ap₂ (λ (a b : ℕ). a + 256 * b) (byte_of_chunk count (j / 32) (j % 32) shard inside (omega arith))
    (byte_of_chunk count (j / 32) (j % 32 + 32) shard inside (omega arith)
    ∙ ap (λ (i : ℕ). get_or shard i 0)
    (let e : j / 32 * 64 + (j % 32 + 32) ≡ j / 32 * 64 + j % 32 + 32 = omega arith in e))
    ∙ sym (column-chunk (j / 32) (j % 32) shard (omega arith) (omega (arith, inside, within)))
    ∙ ap (λ (c : ℕ). column c shard) place
