-- Laws of the code: each message has recovery shards, XOR and columns pass through the coding, and k shards of a
-- codeword fix it.
use Rattle.std.specs.Prelude.{◌≡◌, ◌↔◌, ℕ, ◌+◌, ◌-◌, ◌/◌, ◌%◌, ◌<◌, ◌≤◌, List, [], ◌++◌, map, zip, bit_xor, true, None}
use Rattle.std.specs.Prelude.{unwrap_or, bytes_eq, if◌then◌else◌}
use Rattle.rs_field.specs.code.Column.{Shard, AreShards, shard_at, columns}
use Rattle.rs_field.specs.code.Counts.{Rate, low_rate, high_rate, next_power, supports}
use Rattle.rs_field.specs.code.Configuration.{Configuration, configuration}
use Rattle.rs_field.specs.code.Code.{AreRecovery}
use Rattle.rs_field.specs.code.Given.{Shards, count_below, Consistent}
use Rattle.rs_field.specs.code.Decoder.{DecoderState, Restored}
use Rattle.rs_field.specs.code.Pieces.{pieces, IsStrip}

-- every message has recovery shards, at supported counts and an even size
abbrev pub HasRecovery : Type 0
HasRecovery =
    (c : Configuration) (message : List Shard) → supports c.rate c.original_count c.recovery_count ≡ true
    → c.shard_bytes % 2 ≡ 0
    → AreShards c.original_count c.shard_bytes message → (recovery : List Shard) × AreRecovery c message recovery

-- the bytewise XOR of two shards of one size
unfoldable pub xor_bytes : Shard → Shard → Shard
xor_bytes one other = map (λ pair. bit_xor pair.0 pair.1) (zip one other)

-- the bytewise XOR of two lists of shards of one size, shard by shard
unfoldable pub xor_shards : List Shard → List Shard → List Shard
xor_shards one other = map (λ pair. xor_bytes pair.0 pair.1) (zip one other)

-- the recovery shards of the XOR of two messages are the XOR of their recovery shards
abbrev pub IsLinear : Type 0
IsLinear =
    (c : Configuration) (one other one_recovery other_recovery : List Shard)
    → AreShards c.original_count c.shard_bytes one → AreShards c.original_count c.shard_bytes other
    → AreRecovery c one one_recovery → AreRecovery c other other_recovery
    → AreRecovery c (xor_shards one other) (xor_shards one_recovery other_recovery)

-- if column j of one message is equal to column i of another message, the same holds for the recovery shards, for any
-- other columns and any sizes
abbrev pub IsColumnwise : Type 0
IsColumnwise =
    (rate : Rate) (k r size other_size j i : ℕ) (one other one_recovery other_recovery : List Shard) → k ≤ 65536
    → j < size / 2 → i < other_size / 2
    → AreRecovery (configuration rate k r size) one one_recovery
    → AreRecovery (configuration rate k r other_size) other other_recovery
    → columns j one ≡ columns i other → columns j one_recovery ≡ columns i other_recovery

-- the recovery shards of a strip of a message are the same strip of its recovery shards: a strip begins at a multiple
-- of 64 bytes, and ends at a multiple of 64 bytes or at the end of the shard
abbrev pub IsCodedByStrips : Type 0
IsCodedByStrips =
    (c : Configuration) (start end : ℕ) (message all : List Shard) → IsStrip start end c.shard_bytes
    → AreShards c.original_count c.shard_bytes message
    → AreRecovery c message all
    → AreRecovery (configuration c.rate c.original_count c.recovery_count (end - start)) (pieces start end message)
    (pieces start end all)

-- shards are the recovery shards of a message if each byte lies in a strip in which they are the recovery shards of the
-- same strip of the message
abbrev pub CodesWhereStripsDo : Type 0
CodesWhereStripsDo =
    (c : Configuration) (message all : List Shard) → AreShards c.original_count c.shard_bytes message
    → AreShards c.recovery_count c.shard_bytes all
    → ((byte : ℕ) → byte < c.shard_bytes → (start : ℕ) × (end : ℕ) × IsStrip start end c.shard_bytes × (start ≤ byte)
    × (byte < end)
    × AreRecovery (configuration c.rate c.original_count c.recovery_count (end - start)) (pieces start end message)
    (pieces start end all))
    → AreRecovery c message all

-- if the two counts have the same power and both rates support them, a message has the same recovery shards at the low
-- rate and at the high rate
abbrev pub HasOneCodeAtOnePower : Type 0
HasOneCodeAtOnePower =
    (k r size : ℕ) (message recovery : List Shard) → supports low_rate k r ≡ true → supports high_rate k r ≡ true
    → next_power k ≡ next_power r
    → AreRecovery (configuration low_rate k r size) message recovery
    ↔ AreRecovery (configuration high_rate k r size) message recovery

-- n different places below a bound
pub record ArePlaces (n bound : ℕ) (place : ℕ → ℕ) : Type 0 where
  pub below : (i : ℕ) → i < n → place i < bound
  pub once : (i j : ℕ) → i < n → j < n → place i ≡ place j → i ≡ j

-- two messages are equal if their codewords, which are the originals and then the recovery shards, have the same shards
-- at k different places
abbrev pub IsFixedByPlaces : Type 0
IsFixedByPlaces =
    (c : Configuration) (one other one_recovery other_recovery : List Shard) (place : ℕ → ℕ)
    → supports c.rate c.original_count c.recovery_count ≡ true → c.shard_bytes % 2 ≡ 0
    → AreShards c.original_count c.shard_bytes one → AreShards c.original_count c.shard_bytes other
    → AreRecovery c one one_recovery → AreRecovery c other other_recovery
    → ArePlaces c.original_count (c.original_count + c.recovery_count) place
    → ((i : ℕ) → i < c.original_count
    → shard_at (one ++ one_recovery) (place i) ≡ shard_at (other ++ other_recovery) (place i)) → one ≡ other

-- two results of decoding the same state are equal
abbrev pub HasOneRestoration : Type 0
HasOneRestoration = (s : DecoderState) (one other : Shards) → Restored s one → Restored s other → one ≡ other

-- the given shards that differ from the shard with the same index in a list
unfoldable pub changed_shards : Shards → List Shard → Shards
changed_shards given shards i = if bytes_eq (unwrap_or (given i) []) (shard_at shards i) then None else given i

-- if n shards of any sizes are given with indexes of a codeword, and at least one but at most n - k of them differ from
-- the codeword, then no message agrees
abbrev pub NoticesChanges : Type 0
NoticesChanges =
    (c : Configuration) (message all : List Shard) (originals recovery : Shards)
    → supports c.rate c.original_count c.recovery_count ≡ true → c.shard_bytes % 2 ≡ 0
    → AreShards c.original_count c.shard_bytes message → AreRecovery c message all
    → 0 < count_below c.original_count (changed_shards originals message) + count_below c.recovery_count
    (changed_shards recovery all)
    → count_below c.original_count (changed_shards originals message) + count_below c.recovery_count
    (changed_shards recovery all) + c.original_count
    ≤ count_below c.original_count originals + count_below c.recovery_count recovery
    → Consistent c originals recovery → ⊥
