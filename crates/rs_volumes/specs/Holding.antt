-- What was written of each block while blocks are written piece by piece.
use Rattle.std.specs.Prelude.{◌≡◌, ◌≢◌, ℕ, ◌<◌, [], ◌++◌, length, Some, slice_index, slice_index_or}
use Rattle.sha2.specs.Hashers.{Holds256}
use Rattle.sha2.specs.declared.Sha256.{Sha256}
use Rattle.rs_field.specs.code.Column.{Shard}
use Rattle.rs_field.specs.code.Given.{Shards}
use Rattle.rs_volumes.specs.declared.outputs.Outputs.{Outputs}

-- the outputs of this many blocks
pub record AreFor (count : ℕ) (outputs : Outputs) : Type 0 where
  pub lengths : length outputs.lengths.items ≡ count
  pub hashers : length outputs.hashers.items ≡ count

-- `held i` was written of block i: its length is counted, its hasher holds it, and if the sink held nothing of the
-- block before, it holds exactly this now
pub record AreHeld (outputs : Outputs) (held : ℕ → Shard) (before now : Shards) : Type 0 where
  pub counted : (i : ℕ) → i < length outputs.lengths.items → slice_index outputs.lengths.items i ≡ length (held i)
  pub hashed : (i : ℕ) (d : Sha256) → i < length outputs.hashers.items
      → Holds256 (slice_index_or outputs.hashers.items i d) (held i)
  pub written : (i : ℕ) → before i ≡ Some [] → now i ≡ Some (held i)

-- one block got a piece, and the others are as they were
pub record Adds (index : ℕ) (piece : Shard) (held after : ℕ → Shard) : Type 0 where
  pub here : after index ≡ held index ++ piece
  pub others : (i : ℕ) → i ≢ index → after i ≡ held i
