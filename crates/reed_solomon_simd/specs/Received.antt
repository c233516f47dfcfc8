-- Received shards, in a list with a place for each index.
use Rattle.std.specs.Prelude.{List, Option, None, slice_index_or}
use Rattle.std.specs.Borrow.{Bor}
use Rattle.std.specs.Option.{option_map}
use Rattle.rs_field.specs.code.Column.{Shard}
use Rattle.rs_field.specs.code.Given.{Shards}

-- the map from indexes to the shards in their places
abbrev pub given_in : List (Option (Bor Shard)) → Shards
given_in places = λ i. option_map (λ shard. shard.now) (slice_index_or places i None)
