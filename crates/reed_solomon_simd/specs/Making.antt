-- Making wanted shards from received shards, strip by strip.
use Rattle.std.specs.Prelude.{◌≡◌, ◌⊎◌, ℕ, zero, suc, [], ◌∷◌, ◌++◌, is_some, if◌then◌else◌}
use Rattle.std.specs.Prelude.{All, Bool, true, false, List, length, Result, Ok, MatchResult}
use Rattle.rs_field.specs.declared.code.error.Error.{Error}
use Rattle.rs_field.specs.declared.code.error.Error.TheVariants.{OutOfMemory}
use Rattle.rs_field.specs.code.Column.{Shard}
use Rattle.rs_field.specs.code.Configuration.{Configuration, configuration}
use Rattle.rs_field.specs.code.Counts.{default_rate}
use Rattle.rs_field.specs.code.Decoder.{DecoderState, IsDecoder, enough_given, NoneAgrees}
use Rattle.rs_field.specs.code.Given.{Shards}
use Rattle.rs_field.specs.code.Pieces.{ArePut, room_length}
use Rattle.rs_field.specs.code.PieceStates.{state_of_pieces, HoldRestored}
use Rattle.reed_solomon_simd.specs.declared.shard_index.ShardIndex.{ShardIndex}
use Rattle.reed_solomon_simd.specs.declared.shard_index.ShardIndex.TheVariants.{Original}
use Rattle.reed_solomon_simd.specs.Reconstructed.{AreReconstructed, CanBeRebuilt}

-- the names of the originals with indexes below n that were not received, in order of index
abbrev pub missing_below : ℕ → Shards → List ShardIndex
missing_below zero given = []
missing_below (suc n) given = missing_below n given ++ (if is_some (given n) then [] else Original n ∷ [])

-- the names of all originals that were not received
abbrev pub missing_names : DecoderState → List ShardIndex
missing_names s = missing_below s.configuration.original_count s.originals

-- the wanted shards can be made from received shards: enough shards were received, and none of the wanted ones
pub record CanMake (s : DecoderState) (wanted : List ShardIndex) : Type 0 where
  pub set_up : IsDecoder default_rate s
  pub enough : enough_given s ≡ Ok tt
  pub can : All (CanBeRebuilt s) wanted

-- rooms for n shards of a size, into which the first bytes of each shard were written
pub record AreRooms (grows : Bool) (written size n : ℕ) (rooms : List Shard) : Type 0 where
  pub number : length rooms ≡ n
  pub fit : All (λ room. length room ≡ room_length grows written size) rooms

-- the configuration for strips of n bytes of received shards
abbrev pub strip_configuration : DecoderState → ℕ → Configuration
strip_configuration s n =
    configuration s.configuration.rate s.configuration.original_count s.configuration.recovery_count n

-- the result of making a strip of the wanted shards: the strip is written into the rooms, or no message agrees with the
-- strip of the received shards, or a room cannot grow
abbrev pub MakesStrip : Bool → DecoderState → List ShardIndex → ℕ → ℕ → List Shard → List Shard
    → Result (Unit {0}) Error → Type 0
MakesStrip grows s wanted start end old new result =
    MatchResult result
    (λ _. (made : List Shard) × AreReconstructed (state_of_pieces start end s) wanted made
    × ArePut start end made old new)
    (λ e. NoneAgrees (state_of_pieces start end s) e ⊎ ((grows ≡ true) × (e ≡ OutOfMemory)))

-- the result of making the wanted shards: the rooms hold them, or no message agrees with the received shards, or memory
-- cannot be allocated, and then rooms that do not grow are unchanged
abbrev pub Makes : Bool → DecoderState → List ShardIndex → List Shard → List Shard → Result (Unit {0}) Error → Type 0
Makes grows s wanted old new result =
    MatchResult result (λ _. AreReconstructed s wanted new)
    (λ e. NoneAgrees s e ⊎ ((e ≡ OutOfMemory) × (grows ≡ false → new ≡ old)))

-- the result of making the missing originals: the rooms hold them in order of index, or no message agrees with the
-- received shards, or memory cannot be allocated, and then rooms that do not grow are unchanged
abbrev pub MakesMissing : Bool → DecoderState → List Shard → List Shard → Result (Unit {0}) Error → Type 0
MakesMissing grows s old new result =
    MatchResult result (λ _. HoldRestored s new)
    (λ e. NoneAgrees s e ⊎ ((e ≡ OutOfMemory) × (grows ≡ false → new ≡ old)))
