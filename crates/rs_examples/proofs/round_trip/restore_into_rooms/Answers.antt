use Rattle.rs_examples.specs.Losing.{items_lent}
use Rattle.rs_examples.proofs.RoomsBack.{lost_in_rooms, decode_leaves}
use Rattle.rs_examples.proofs.round_trip.restore_into_rooms.Goals as goal

pub returns-clause-restored : goal.returns-clause-restored
returns-clause-restored c originals recovery coded kept received =
    lost_in_rooms coded kept received _ _ c.decode_into.result c.decode_into.ensures.answer

pub returns-clause-untouched : goal.returns-clause-untouched
returns-clause-untouched c =
    decode_leaves c.args.original_count c.args.recovery_count (items_lent c.args.kept.now)
    (items_lent c.args.received.now) _ _ c.decode_into.result c.decode_into.ensures.answer
