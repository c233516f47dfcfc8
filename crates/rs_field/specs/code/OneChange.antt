-- What happens to the recovery shards of a message if one of its originals changes.
use Rattle.std.specs.Prelude.{◌≡◌, ◌≢◌, ℕ, ◌/◌, ◌<◌, List, length, slice_index, bit_xor}
use Rattle.rs_field.specs.words.Field.{product, power}
use Rattle.rs_field.specs.code.Column.{Shard, AreShards, shard_at, column}
use Rattle.rs_field.specs.code.Counts.{Rate}
use Rattle.rs_field.specs.code.Configuration.{configuration}
use Rattle.rs_field.specs.code.Code.{AreRecovery}

-- two messages differ at most in the original with this index
abbrev pub ChangesOnly : ℕ → List Shard → List Shard → Type 0
ChangesOnly index message changed = (i : ℕ) → i ≢ index → shard_at changed i ≡ shard_at message i

-- one logarithm for each recovery shard: if the original with this index changes, each word of recovery shard i changes
-- by the change of the word of the original times the generator to the power of logarithm i
pub record AreChangeFactors (rate : Rate) (k r index : ℕ) (factors : List ℕ) : Type 0 where
  pub count : length factors ≡ r
  pub small : (i : ℕ) → i < r → slice_index factors i < 65535
  pub change : (size i j : ℕ) (message changed recovery changed_recovery : List Shard)
      → AreShards k size message → AreShards k size changed → ChangesOnly index message changed
      → AreRecovery (configuration rate k r size) message recovery
      → AreRecovery (configuration rate k r size) changed changed_recovery
      → i < r → j < size / 2
      → column j (shard_at changed_recovery i)
      ≡ bit_xor (column j (shard_at recovery i))
      (product (bit_xor (column j (shard_at message index)) (column j (shard_at changed index)))
      (power (slice_index factors i)))
