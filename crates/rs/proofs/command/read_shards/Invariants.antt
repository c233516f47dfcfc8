use Rattle.std.proofs.Common.{◌≡◌, ◌++◌, map, drop}
use Rattle.std.specs.Option.{option_map}
use Rattle.std.specs.String.{string_bytes}
use Rattle.rs.specs.CommandLine.{shards_of}
use Rattle.rs.specs.Reading.{as_shards}
use Rattle.rs.proofs.command.read_shards.Given as goal

abbrev pub invariant-loop-text : goal.invariant-loop-text
invariant-loop-text l =
    option_map (λ left. as_shards l.shards ++ left) (shards_of (map string_bytes (drop l.text-index l.words)))
    ≡ shards_of (map string_bytes l.words)
