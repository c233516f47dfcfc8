-- The results of the functions that read words.
use Rattle.std.specs.Prelude.{◌≡◌, ℕ, List, ◌++◌, map, Option, Some, None, Result, Ok, Err}
use Rattle.std.specs.declared.vec.Vec.{Vec}
use Rattle.reed_solomon_simd.specs.declared.Error.TheVariants.{OutOfMemory}
use Rattle.reed_solomon_simd.specs.Column.{Shard}
use Rattle.reed_solomon_simd.specs.OneCall.{Items}
use Rattle.rs.specs.declared.command.GivenShards.{GivenShards}
use Rattle.rs.specs.declared.command.Item.{Item}
use Rattle.rs.specs.declared.command.Item.TheVariants.{Original, Recovery}
use Rattle.rs.specs.declared.command.Command.{Command}
use Rattle.rs.specs.declared.command.Task.{Task}
use Rattle.rs.specs.declared.command.Task.TheVariants.{Encode, Decode}
use Rattle.rs.specs.declared.fault.Fault.{Fault}
use Rattle.rs.specs.declared.fault.Fault.TheVariants.{Usage, Refused}
use Rattle.rs.specs.CommandLine.{GivenItems}
use Rattle.rs.specs.CommandLine as Line

-- a result is the value that words represent, or `usage` if they represent no value, or `OutOfMemory`
abbrev pub Reads : {T V : Type 0} → (V → T) → Option T → Result V Fault → Type 0
Reads meaning asked (Ok value) = asked ≡ Some (meaning value)
Reads meaning asked (Err Usage) = asked ≡ None
Reads meaning asked (Err (Refused e)) = e ≡ OutOfMemory

-- the shards that vectors represent
abbrev pub as_shards : {Y Z : Type 0} → Vec (Vec ℕ Y) Z → List Shard
as_shards vectors = map (λ v. v.items) vectors.items

-- the index and the shard that an index and a vector represent
abbrev pub as_item : {Y : Type 0} → ℕ × Vec ℕ Y → ℕ × Shard
as_item indexed = (indexed.0, indexed.1.items)

-- the shards with their indexes that vectors with their indexes represent
abbrev pub as_items : {Y Z : Type 0} → Vec (ℕ × Vec ℕ Y) Z → Items
as_items vector = map as_item vector.items

-- the given shards of a command, in the form of the definitions
abbrev pub given_items : GivenShards → GivenItems
given_items given = record { originals = as_items given.original; recovery = as_items given.recovery }

-- given shards, followed by other given shards
abbrev pub with_items : GivenItems → GivenItems → GivenItems
with_items given others =
    record { originals = given.originals ++ others.originals; recovery = given.recovery ++ others.recovery }

-- an item of a command, in the form of the definitions
abbrev pub as_item_of_line : Item → Line.Item
as_item_of_line (Original indexed) = Line.OriginalItem (as_item indexed)
as_item_of_line (Recovery indexed) = Line.RecoveryItem (as_item indexed)

-- a task of a command, in the form of the definitions
abbrev pub as_task : Task → Line.Task
as_task (Encode original) = Line.Coded (as_shards original)
as_task (Decode given) = Line.Restored (given_items given)

-- the request that a command represents
abbrev pub as_request : Command → Line.Request
as_request command =
    record {
      engine = command.engine;
      original_count = command.counts.original;
      recovery_count =
          command.counts.recovery;
      task = as_task command.task;
    }
