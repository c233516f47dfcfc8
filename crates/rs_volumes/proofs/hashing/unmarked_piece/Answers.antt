use Rattle.std.proofs.Common.{rules}
use Rattle.std.proofs.lemmas.List.{length-map, get_or-map, get_or_past}
use Rattle.rs_volumes.proofs.Hashes.{emptied-at}
use Rattle.rs_volumes.proofs.hashing.unmarked_piece.Goals as goal

pub returns-then-index-marks : goal.returns-then-index-marks
returns-then-index-marks c = search (rules, emptied-at, length-map, get_or-map, get_or_past)

pub returns-then-marks-index : goal.returns-then-marks-index
returns-then-marks-index c = search (rules, emptied-at, length-map)

pub returns-else-marks-index : goal.returns-else-marks-index
returns-else-marks-index c = search (rules, emptied-at, length-map, get_or-map)
