use Rattle.std.proofs.Common.{rules}
use Rattle.std.proofs.lemmas.List.{map-set, get_or-map}
use Rattle.rs_examples.proofs.file_round_trip.append_piece.Goals as goal

pub returns : goal.returns
returns c = search (rules, map-set, get_or-map)
