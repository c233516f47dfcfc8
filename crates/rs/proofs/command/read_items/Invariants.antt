use Rattle.std.proofs.Common.{◌≡◌, map, drop}
use Rattle.std.specs.Option.{option_map}
use Rattle.std.specs.String.{string_bytes}
use Rattle.rs.specs.CommandLine.{items_of}
use Rattle.rs.specs.Reading.{with_items, given_items}
use Rattle.rs.proofs.command.read_items.Given as goal

abbrev pub invariant-loop-text : goal.invariant-loop-text
invariant-loop-text l =
    option_map (with_items (given_items l.given)) (items_of (map string_bytes (drop l.text-index l.words)))
    ≡ items_of (map string_bytes l.words)
