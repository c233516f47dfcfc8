use Rattle.std.proofs.Common.{rules}
use Rattle.std.proofs.lemmas.List.{get_or-map, length-map}
use Rattle.rs_ffi.proofs.PlaceLemmas.{other-here, other-later}
use Rattle.rs_ffi.proofs.fault_places.find_other.Goals as goal

pub returns-then-byte_count-size-clause-place : goal.returns-then-byte_count-size-clause-place
returns-then-byte_count-size-clause-place g c = search (rules, length-map, get_or-map, other-here)

pub loop-place-preserved : goal.loop-place-preserved
loop-place-preserved g c = search (rules, length-map, get_or-map, other-later)
