use Rattle.std.proofs.Common.{rules}
use Rattle.std.proofs.lemmas.List.{map-set, get_or-map, length-map, take_all, drop_all}
use Rattle.reed_solomon_simd.proofs.rooms.VecVecU8Rooms.put.Goals as goal

pub returns-in_err-extend_from_slice-clause-others : goal.returns-in_err-extend_from_slice-clause-others
returns-in_err-extend_from_slice-clause-others c = search (rules, map-set)

pub returns-clause-here : goal.returns-clause-here
returns-clause-here c = search (rules, length-map, get_or-map, take_all, drop_all, map-set)

pub returns-clause-others : goal.returns-clause-others
returns-clause-others c = search (rules, map-set)
