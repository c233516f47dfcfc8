-- Originals that were checked.
use Rattle.std.specs.Prelude.{◌≡◌, ℕ, List, All, length, Ok}
use Rattle.rs_field.specs.code.Column.{Shard, IsShard}
use Rattle.rs_field.specs.code.Configuration.{start_outcome}
use Rattle.rs_field.specs.code.Counts.{default_rate}
use Rattle.rs_field.specs.code.OneCall.{default_of}
use Rattle.rs_field.specs.code.Frame.{encoder_rows}
use Rattle.rs_rate.specs.objects.Giving.{IsEncoding}

-- shards are k originals of this size, all of which can be added to an encoder
pub record AreChecked (k r size : ℕ) (shards : List Shard) : Type 0 where
  pub led : IsEncoding k r shards (Ok (record { configuration = default_of k r size; given = shards }))
  pub number : length shards ≡ k
  pub sized : All (IsShard size) shards
  pub set_up : start_outcome (encoder_rows default_rate k r) (default_of k r size) ≡ Ok tt
