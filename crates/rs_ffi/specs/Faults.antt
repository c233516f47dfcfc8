-- The numbers of faults.
use Rattle.std.specs.Prelude.{ℕ, ◌==◌, if◌then◌else◌, Result, Ok, Err}
use Rattle.std.specs.Result.{result_map_both}
use Rattle.rs_field.specs.declared.code.error.Error.{Error}
use Rattle.rs_field.specs.declared.code.error.Error.TheVariants.{OutOfMemory, UnsupportedShardCount, InvalidShardSize}
use Rattle.rs_field.specs.declared.code.error.Error.TheVariants.{DifferentShardSize, TooFewOriginalShards}
use Rattle.rs_field.specs.declared.code.error.Error.TheVariants.{TooManyOriginalShards, NotEnoughShards}
use Rattle.rs_field.specs.declared.code.error.Error.TheVariants.{InvalidOriginalShardIndex, InvalidRecoveryShardIndex}
use Rattle.rs_field.specs.declared.code.error.Error.TheVariants.{DuplicateOriginalShardIndex}
use Rattle.rs_field.specs.declared.code.error.Error.TheVariants.{DuplicateRecoveryShardIndex, InconsistentShards}
use Rattle.rs_ffi.specs.declared.fault.Fault.{Fault}
use Rattle.reed_solomon_simd.specs.declared.shard_index.ShardIndex.{ShardIndex}
use Rattle.reed_solomon_simd.specs.declared.shard_index.ShardIndex.TheVariants.{Original, Recovery}
use Rattle.reed_solomon_simd.specs.ShardNames.{index_of}
use Rattle.rs_ffi.specs.declared.fault.Fault.TheVariants.{Refused, WrongLength, WrongNumberOfRooms, TablesNotMade}
use Rattle.rs_ffi.specs.declared.fault.Fault.TheVariants.{WantedIndexTooLarge, WantedTwice, WantedReceived}
use Rattle.rs_ffi.specs.declared.fault.Fault.TheVariants.{DifferentShardSize as different_size}
use Rattle.rs_ffi.specs.declared.fault.RsFault.{RsFault}

-- a fault with this number and these three values
abbrev pub numbers : ℕ → ℕ → ℕ → ℕ → RsFault
numbers number first second third = record { number = number; first = first; second = second; third = third }

-- the number and the values of an error of the library
abbrev pub numbers_of : Error → RsFault
numbers_of OutOfMemory = numbers 1 0 0 0
numbers_of (UnsupportedShardCount original_count recovery_count) = numbers 2 original_count recovery_count 0
numbers_of (InvalidShardSize shard_bytes) = numbers 3 shard_bytes 0 0
numbers_of (DifferentShardSize shard_bytes got) = numbers 4 shard_bytes got 0
numbers_of (TooFewOriginalShards original_count original_received_count) =
    numbers 5 original_count original_received_count 0
numbers_of (TooManyOriginalShards original_count) = numbers 6 original_count 0 0
numbers_of (NotEnoughShards original_count original_received_count recovery_received_count) =
    numbers 7 original_count original_received_count recovery_received_count
numbers_of (InvalidOriginalShardIndex original_count index) = numbers 8 original_count index 0
numbers_of (InvalidRecoveryShardIndex recovery_count index) = numbers 9 recovery_count index 0
numbers_of (DuplicateOriginalShardIndex index) = numbers 10 index 0 0
numbers_of (DuplicateRecoveryShardIndex index) = numbers 11 index 0 0
numbers_of (InconsistentShards original_received_count recovery_received_count) =
    numbers 12 original_received_count recovery_received_count 0

-- the number of the kind of a shard
abbrev pub kind_of : ShardIndex → ℕ
kind_of (Original i) = 0
kind_of (Recovery i) = 1

-- the shard with the number of its kind and its index. Each number but 0 means a recovery shard
abbrev pub named : ℕ → ℕ → ShardIndex
named kind index = if kind == 0 then Original index else Recovery index

-- the number and the values of a result: zeros for a success
abbrev pub fault_of : Result (Unit {0}) Fault → RsFault
fault_of (Ok _) = numbers 0 0 0 0
fault_of (Err (Refused error)) = numbers_of error
fault_of (Err (different_size shard_bytes got place)) = numbers 4 shard_bytes got place
fault_of (Err (WrongLength wanted got place)) = numbers 13 wanted got place
fault_of (Err (WrongNumberOfRooms wanted got)) = numbers 14 wanted got 0
fault_of (Err TablesNotMade) = numbers 15 0 0 0
fault_of (Err (WantedIndexTooLarge wanted count)) = numbers 16 count (index_of wanted) (kind_of wanted)
fault_of (Err (WantedTwice wanted)) = numbers 17 (index_of wanted) (kind_of wanted) 0
fault_of (Err (WantedReceived wanted)) = numbers 18 (index_of wanted) (kind_of wanted) 0

-- a result of the library, whose error becomes a fault
abbrev pub as_fault : {T : Type 0} → Result T Error → Result T Fault
as_fault result = result_map_both (λ x. x) Refused result
