-- The state of a decoder to which pieces of shards were added, and rooms for restored originals.
use Rattle.std.specs.Prelude.{◌≡◌, ℕ, ◌-◌, List, map}
use Rattle.std.specs.List.{between}
use Rattle.std.specs.Option.{option_map}
use Rattle.rs_field.specs.code.Column.{Shard}
use Rattle.rs_field.specs.code.Configuration.{configuration}
use Rattle.rs_field.specs.code.Decoder.{DecoderState, Restored}
use Rattle.rs_field.specs.code.Given.{Shards, Lists}
use Rattle.rs_field.specs.code.OneCall.{Items}

-- the bytes of each given shard from `start` to `end`
abbrev pub pieces_of : ℕ → ℕ → Shards → Shards
pieces_of start end given = λ i. option_map (λ s. between start end s) (given i)

-- the state of a decoder to which the same piece of each shard was added
abbrev pub state_of_pieces : ℕ → ℕ → DecoderState → DecoderState
state_of_pieces start end s =
    record {
      configuration = configuration s.configuration.rate s.configuration.original_count s.configuration.recovery_count
          (end - start);
      originals = pieces_of start end s.originals;
      recovery = pieces_of start end s.recovery;
    }

-- the shards of listed items
abbrev pub shards_listed : Items → List Shard
shards_listed items = map (λ item. item.1) items

-- rooms hold the restored originals, in order of their index
pub record HoldRestored (s : DecoderState) (rooms : List Shard) : Type 0 where
  pub out : Shards
  pub restored : Restored s out
  pub items : Items
  pub listed : Lists out items
  pub held : rooms ≡ shards_listed items
