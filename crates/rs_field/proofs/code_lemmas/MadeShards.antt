-- For given words there are shards with these words as columns, so every message has recovery shards.
use Rattle.std.proofs.Common.{◌≡◌, ℕ, ◌+◌, ◌-◌, ◌*◌, ◌/◌, ◌%◌, ◌<◌, true, cond, List, [], length, min, sym, ap, ◌∙◌}
use Rattle.std.proofs.Common.{subst, arith}
use Rattle.std.specs.Prelude.{slice_index, nat_lt}
use Rattle.std.proofs.lemmas.Grind.{common_steps}
use Rattle.rs_field.specs.code.Column.{Shard, IsShard, AreShards, column, columns}
use Rattle.rs_field.specs.code.Counts.{Rate, supports}
use Rattle.rs_field.specs.code.Configuration.{Configuration}
use Rattle.rs_field.specs.code.Code.{AreRecoveryWords, AreRecovery}
use Rattle.rs_field.specs.words.UpTo.{up_to}
use Rattle.rs_field.proofs.words_lemmas.Roots.{value_lt, words_from}
use Rattle.rs_field.proofs.code_lemmas.Columns.{columns-at, columns_lt}
use Rattle.rs_field.proofs.code_lemmas.CodedWords.{recovered}
use Rattle.rs_field.proofs.words_lemmas.UpTo.{length-up_to, get-up_to}

-- Byte b of the shard with these words as columns: each chunk has first the low bytes and then the high bytes.
byte_of : ℕ → (ℕ → ℕ) → ℕ → ℕ
byte_of size w b =
    let half = min 64 (size - b / 64 * 64) / 2 in
    cond (nat_lt (b % 64) half) (w (b / 64 * 32 + b % 64) % 256) (w (b / 64 * 32 + (b % 64 - half)) / 256)

-- The low bytes and the high bytes of the words of chunk q are the low and the high bytes of the given words.
low_byte : (size q i half : ℕ) (w : ℕ → ℕ) → min 64 (size - q * 64) / 2 ≡ half → i < half
    → byte_of size w (q * 64 + i) ≡ w (q * 32 + i) % 256
unfolding byte_of
low_byte size q i half w e h = grind (arith, common_steps)

high_byte : (size q i half : ℕ) (w : ℕ → ℕ) → min 64 (size - q * 64) / 2 ≡ half → i < half
    → byte_of size w (q * 64 + i + half) ≡ w (q * 32 + i) / 256
unfolding byte_of
high_byte size q i half w e h = grind (arith, common_steps)

byte_of_lt : (size : ℕ) (w : ℕ → ℕ) → ((j : ℕ) → w j < 65536) → (b : ℕ) → byte_of size w b < 256
unfolding byte_of
byte_of_lt size w words b = grind (arith, common_steps)

-- The shard of a size with these words as columns.
shard_of : ℕ → (ℕ → ℕ) → Shard
shard_of size w = up_to size (byte_of size w)

is_shard_of : (size : ℕ) (w : ℕ → ℕ) → ((j : ℕ) → w j < 65536) → IsShard size (shard_of size w)
unfolding shard_of
is_shard_of size w words = grind (arith, common_steps, length-up_to, get-up_to, byte_of_lt)

column-shard_of : (size j : ℕ) (w : ℕ → ℕ) → j < size / 2 → column j (shard_of size w) ≡ w j
unfolding shard_of column
column-shard_of size j w h = grind (arith, common_steps, length-up_to, get-up_to, low_byte, high_byte)

-- For given words there are n shards of a size with word j of shard i as column j.
pub shards_of : (n size : ℕ) (w : ℕ → ℕ → ℕ) → ((i j : ℕ) → w i j < 65536)
    → (shards : List Shard) × AreShards n size shards
    × ((i j : ℕ) → i < n → j < size / 2 → slice_index (columns j shards) i ≡ w i j)
shards_of n size w words = (
  up_to n (λ i. shard_of size (w i)),
  record {
    length_is = length-up_to n (λ i. shard_of size (w i));
    each = λ i d h.
        subst (λ (s : Shard). IsShard size s)
        (sym (get-up_to n (λ k. shard_of size (w k)) i d
        (subst (λ (k : ℕ). i < k) (length-up_to n (λ k. shard_of size (w k))) h)))
        (is_shard_of size (w i) (words i));
  },
  λ i j hi hj.
      columns-at j (up_to n (λ k. shard_of size (w k))) i
      ∙ ap (column j) (get-up_to n (λ k. shard_of size (w k)) i [] hi) ∙ column-shard_of size j (w i) hj,
)

recovery_lt : (rate : Rate) (k r : ℕ) (words recovery : List ℕ) → length recovery ≡ r
    → AreRecoveryWords rate k r words recovery → (i : ℕ) → slice_index recovery i < 65536
recovery_lt rate k r words recovery size (p, codes, at) i = grind (arith, common_steps, value_lt, words_from)

-- Every message of a configuration with supported counts and an even size has recovery shards.
pub has_recovery : (c : Configuration) (message : List Shard) → supports c.rate c.original_count c.recovery_count ≡ true
    → c.shard_bytes % 2 ≡ 0
    → AreShards c.original_count c.shard_bytes message → (recovery : List Shard) × AreRecovery c message recovery
has_recovery c message is even h =
    let words = λ (j : ℕ).
    recovered c.rate c.original_count c.recovery_count (columns j message) is
    (columns_lt h j) in
    let (shards, are, at) = shards_of c.recovery_count c.shard_bytes (λ i j. slice_index (words j).0 i)
    (λ i j. recovery_lt c.rate c.original_count c.recovery_count (columns j message) (words j).0 (words j).1
    (words j).2 i) in (
      shards,
      record {
        shards = are;
        words = λ j hj.
            ((words j).2.0, (words j).2.1, λ i hi. at i j hi hj ∙ (words j).2.2 i hi);
      },
    )
