-- The texts of errors.
use Rattle.std.specs.Prelude.{ℕ, List, ◌++◌, codes}
use Rattle.std.specs.Fmt.{decimal}
use Rattle.rs_field.specs.declared.code.error.Error.{Error}
use Rattle.rs_field.specs.declared.code.error.Error.TheVariants.{DifferentShardSize, DuplicateOriginalShardIndex}
use Rattle.rs_field.specs.declared.code.error.Error.TheVariants.{DuplicateRecoveryShardIndex, InconsistentShards}
use Rattle.rs_field.specs.declared.code.error.Error.TheVariants.{InvalidOriginalShardIndex, InvalidRecoveryShardIndex}
use Rattle.rs_field.specs.declared.code.error.Error.TheVariants.{InvalidShardSize, NotEnoughShards}
use Rattle.rs_field.specs.declared.code.error.Error.TheVariants.{TooFewOriginalShards, TooManyOriginalShards}
use Rattle.rs_field.specs.declared.code.error.Error.TheVariants.{UnsupportedShardCount, OutOfMemory}

-- the text of an error, with its numbers in decimal digits
abbrev pub text_of : Error → List ℕ
text_of (DifferentShardSize shard_bytes got) =
    codes "different shard size: expected " ++ decimal shard_bytes ++ codes " bytes, got " ++ decimal got
    ++ codes " bytes"
text_of (DuplicateOriginalShardIndex index) = codes "duplicate original shard index: " ++ decimal index
text_of (DuplicateRecoveryShardIndex index) = codes "duplicate recovery shard index: " ++ decimal index
text_of (InconsistentShards original_received_count recovery_received_count) =
    codes "inconsistent shards: " ++ decimal original_received_count ++ codes " original + "
    ++ decimal recovery_received_count ++ codes " recovery agree with no message"
text_of (InvalidOriginalShardIndex original_count index) =
    codes "invalid original shard index: " ++ decimal index ++ codes " >= original_count " ++ decimal original_count
text_of (InvalidRecoveryShardIndex recovery_count index) =
    codes "invalid recovery shard index: " ++ decimal index ++ codes " >= recovery_count " ++ decimal recovery_count
text_of (InvalidShardSize shard_bytes) =
    codes "invalid shard size: " ++ decimal shard_bytes ++ codes " bytes (must non-zero and multiple of 2)"
text_of (NotEnoughShards original_count original_received_count recovery_received_count) =
    codes "not enough shards: " ++ decimal original_received_count ++ codes " original + "
    ++ decimal recovery_received_count ++ codes " recovery < " ++ decimal original_count ++ codes " original_count"
text_of (TooFewOriginalShards original_count original_received_count) =
    codes "too few original shards: got " ++ decimal original_received_count
    ++ codes " shards while original_count is " ++ decimal original_count
text_of (TooManyOriginalShards original_count) =
    codes "too many original shards: got more than original_count (" ++ decimal original_count ++ codes ") shards"
text_of (UnsupportedShardCount original_count recovery_count) =
    codes "unsupported shard count: " ++ decimal original_count ++ codes " original shards with "
    ++ decimal recovery_count ++ codes " recovery shards"
text_of OutOfMemory = codes "out of memory"
