-- The configuration of an encoder or a decoder, and how it is checked.
use Rattle.std.specs.Prelude.{ℕ, ◌+◌, ◌*◌, ◌/◌, ◌%◌, ◌^◌, ◌≡◌, ◌⊎◌, not, ◌||◌, ◌==◌, nat_le, if◌then◌else◌, Result, Ok}
use Rattle.std.specs.Prelude.{Err, IsOk, ◌≤◌}
use Rattle.rs_field.specs.declared.code.error.Error.{Error}
use Rattle.rs_field.specs.declared.code.error.Error.TheVariants.{UnsupportedShardCount, InvalidShardSize, OutOfMemory}
use Rattle.rs_field.specs.code.Counts.{Rate, supports}
use Rattle.rs_field.specs.code.Outcome.{result_and_then}

-- a configuration: a rate, the two counts, and the size of a shard in bytes
pub record Configuration : Type 0 where
  pub rate : Rate
  pub original_count : ℕ
  pub recovery_count : ℕ
  pub shard_bytes : ℕ

-- the configuration with a rate, k originals, r recovery shards and a size
abbrev pub configuration : Rate → ℕ → ℕ → ℕ → Configuration
configuration rate k r size = record { rate = rate; original_count = k; recovery_count = r; shard_bytes = size }

-- success, or the first error of a configuration: the counts are checked before the size
abbrev pub validation_outcome : Configuration → Result (Unit {0}) Error
validation_outcome c =
    if not (supports c.rate c.original_count c.recovery_count)
    then Err (UnsupportedShardCount c.original_count c.recovery_count)
    else if c.shard_bytes == 0 || c.shard_bytes % 2 == 1 then Err (InvalidShardSize c.shard_bytes)
    else Ok tt

-- the number of bytes in this many rows of shards of a size, since a row has whole chunks
abbrev pub bytes_of_rows : ℕ → ℕ → ℕ
bytes_of_rows rows size = rows * ((size + 63) / 64) * 64

-- the outcome of setting up this many rows if there is memory; rows of more than `usize::MAX` bytes can never be
-- allocated
abbrev pub start_outcome : ℕ → Configuration → Result (Unit {0}) Error
start_outcome rows c =
    result_and_then (λ _. if nat_le (2 ^ 64) (bytes_of_rows rows c.shard_bytes) then Err OutOfMemory else Ok tt)
    (validation_outcome c)

-- a result is the wanted one, or it is `OutOfMemory` instead of a success
abbrev pub UpToMemory : {T : Type 0} → Result T Error → Result T Error → Type 0
UpToMemory wanted result = (result ≡ wanted) ⊎ (IsOk wanted × (result ≡ Err OutOfMemory))

-- the second configuration has the counts of the first one and no larger size, so an object that is set up for the
-- first one has room for it
abbrev pub FitsWithin : Configuration → Configuration → Type 0
FitsWithin own c = (c.original_count ≡ own.original_count) × (c.recovery_count ≡ own.recovery_count)
    × (c.shard_bytes ≤ own.shard_bytes)
