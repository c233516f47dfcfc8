use Rattle.rs_examples.specs.Losing.{items_lent}
use Rattle.rs_examples.proofs.RoomsBack.{wanted_in_rooms, reconstruct_leaves}
use Rattle.rs_examples.proofs.round_trip.reconstruct_into_rooms.Goals as goal

pub returns-clause-restored : goal.returns-clause-restored
returns-clause-restored c originals recovery coded kept received =
    wanted_in_rooms coded kept received _ _ c.args.wanted.now c.reconstruct_into.result
    c.reconstruct_into.ensures.answer

pub returns-clause-untouched : goal.returns-clause-untouched
returns-clause-untouched c =
    reconstruct_leaves c.args.original_count c.args.recovery_count (items_lent c.args.kept.now)
    (items_lent c.args.received.now) _ _ c.args.wanted.now c.reconstruct_into.result c.reconstruct_into.ensures.answer
