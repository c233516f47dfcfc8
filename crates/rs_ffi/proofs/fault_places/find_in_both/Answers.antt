use Rattle.std.proofs.Common.{rules}
use Rattle.std.proofs.lemmas.List.{length-map}
use Rattle.rs_ffi.proofs.PlaceLemmas.{other-first, other-second}
use Rattle.rs_ffi.proofs.fault_places.find_in_both.Goals as goal

pub returns-then-place-first : goal.returns-then-place-first
returns-then-place-first g c = search (rules, length-map, other-first)

pub returns : goal.returns
returns g c = search (rules, length-map, other-second)
