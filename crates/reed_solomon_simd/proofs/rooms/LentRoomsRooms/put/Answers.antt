use Rattle.std.proofs.Common.{rules}
use Rattle.std.proofs.lemmas.List.{map-set, get_or-map, length-map}
use Rattle.reed_solomon_simd.proofs.rooms.LentRoomsRooms.put.Goals as goal

pub put-requires : goal.put-requires
put-requires c = search (rules, length-map, get_or-map)

pub returns-clause-here : goal.returns-clause-here
returns-clause-here c = search (rules, length-map, get_or-map, map-set)

pub returns-clause-others : goal.returns-clause-others
returns-clause-others c = search (rules, map-set)
