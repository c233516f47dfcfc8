use Rattle.std.proofs.Common.{rules}
use Rattle.std.proofs.lemmas.List.{length-map}
use Rattle.rs_ffi.proofs.LostLemmas.{lost-count}
use Rattle.rs_ffi.proofs.MarkedState.{originals-counted}
use Rattle.rs_ffi.proofs.decoding.restore_buffers.Goals as goal

pub restore_in_place-requires-clause-number : goal.restore_in_place-requires-clause-number
restore_in_place-requires-clause-number g c = search (rules, originals-counted, lost-count, length-map)
