-- The digests of blocks whose bytes come piece by piece.
use Rattle.std.specs.Prelude.{◌≡◌, ℕ, ◌<◌, Bool, List, [], ◌∷◌, ◌++◌, length, replicate, slice_index_or}
use Rattle.std.specs.Prelude.{if◌then◌else◌}
use Rattle.sha2.specs.Hashers.{Holds256}
use Rattle.sha2.specs.declared.Sha256.{Sha256}
use Rattle.rs_field.specs.code.Column.{Shard, shard_at}

-- this many blocks without bytes
abbrev pub empty_blocks : ℕ → List Shard
empty_blocks count = replicate count []

-- each block with the next piece of it
unfoldable pub joined : List Shard → List Shard → List Shard
joined [] pieces = []
joined (block ∷ blocks) [] = block ∷ blocks
joined (block ∷ blocks) (piece ∷ pieces) = (block ++ piece) ∷ joined blocks pieces

-- the blocks, where each block that is marked has lost its bytes
unfoldable pub emptied : List Bool → List Shard → List Shard
emptied marks [] = []
emptied [] (block ∷ blocks) = block ∷ blocks
emptied (mark ∷ marks) (block ∷ blocks) = (if mark then [] else block) ∷ emptied marks blocks

-- each hasher holds the bytes of its block
pub record AreHashed (hashers : List Sha256) (blocks : List Shard) : Type 0 where
  pub number : length hashers ≡ length blocks
  pub each : (i : ℕ) (d : Sha256) → i < length hashers → Holds256 (slice_index_or hashers i d) (shard_at blocks i)
