-- Shards that lie one after the other in a buffer.
use Rattle.std.specs.Prelude.{ℕ, zero, suc, ◌+◌, ◌*◌, ◌-◌, ◌^◌, ◌==◌, List, [], ◌∷◌, ◌++◌, take, drop, nat_lt}
use Rattle.std.specs.Prelude.{if◌then◌else◌, Result, Ok, Err, unwrap_or, Some, None, slice_index_or}
use Rattle.std.specs.List.{flat_map}
use Rattle.rs_field.specs.code.Column.{Shard}
use Rattle.rs_field.specs.code.Given.{Shards}
use Rattle.rs_field.specs.code.Decoder.{DecoderState}
use Rattle.rs_field.specs.code.OneCall.{Items, default_of}
use Rattle.rs_ffi.specs.declared.fault.Fault.{Fault}
use Rattle.rs_ffi.specs.declared.fault.Fault.TheVariants.{WrongLength}

-- the result of checking that a buffer has count * size bytes: a success, or a fault with the right length, the length
-- of the buffer, and the number that says which buffer it is. If the right length is 2^64 or more, the fault holds
-- 2^64 - 1 instead
abbrev pub length_outcome : ℕ → ℕ → ℕ → ℕ → Result (Unit {0}) Fault
length_outcome place count size got =
    if count * size == got then Ok tt
    else Err (WrongLength (if nat_lt (count * size) (2 ^ 64) then count * size else 2 ^ 64 - 1) got place)

-- the first n shards of this size in a buffer
abbrev pub shards_in_buffer : ℕ → ℕ → List ℕ → List Shard
shards_in_buffer zero size bytes = []
shards_in_buffer (suc n) size bytes = take size bytes ∷ shards_in_buffer n size (drop size bytes)

-- the shards whose marks are not 0, with their indexes. The first mark belongs to index i
abbrev pub marked_shards : ℕ → ℕ → List ℕ → List ℕ → Items
marked_shards i size [] bytes = []
marked_shards i size (mark ∷ marks) bytes =
    if mark == 0 then marked_shards (i + 1) size marks (drop size bytes)
    else (i, take size bytes) ∷ marked_shards (i + 1) size marks (drop size bytes)

-- the place of shard i in a buffer of shards of this size
abbrev pub shard_place : ℕ → List ℕ → ℕ → Shard
shard_place size bytes i = take size (drop (i * size) bytes)

-- the map from indexes to the shards whose marks are not 0
abbrev pub marked_map : ℕ → List ℕ → List ℕ → Shards
marked_map size marks bytes i = if slice_index_or marks i 0 == 0 then None else Some (shard_place size bytes i)

-- the indexes of the marks that are 0. The first mark has index i
abbrev pub lost_indexes : ℕ → List ℕ → List ℕ
lost_indexes i [] = []
lost_indexes i (mark ∷ marks) = if mark == 0 then i ∷ lost_indexes (i + 1) marks else lost_indexes (i + 1) marks

-- the state of a decoder to which all marked shards of two buffers were added
abbrev pub marked_state : ℕ → ℕ → ℕ → List ℕ → List ℕ → List ℕ → List ℕ → DecoderState
marked_state k r size own originals other recovery =
    record {
      configuration = default_of k r size;
      originals = marked_map size own originals;
      recovery = marked_map size other recovery;
    }

-- the bytes of shards, one shard after the other
abbrev pub concatenation : List Shard → List ℕ
concatenation shards = flat_map (λ shard. shard) shards

-- the bytes of a buffer of n shards, after some shards were restored: if the map has a shard for an index, this shard
-- replaces the shard of the buffer. The first shard of the buffer has index i
abbrev pub with_restored : Shards → ℕ → ℕ → ℕ → List ℕ → List ℕ
with_restored restored i size zero bytes = []
with_restored restored i size (suc n) bytes =
    unwrap_or (restored i) (take size bytes) ++ with_restored restored (i + 1) size n (drop size bytes)
