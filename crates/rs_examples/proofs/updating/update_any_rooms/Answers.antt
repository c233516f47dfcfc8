use Rattle.reed_solomon_simd.specs.Rooms.{bytes_in}
use Rattle.rs_examples.proofs.UpdatedRooms.{words-kept}
use Rattle.rs_examples.proofs.updating.update_any_rooms.Goals as goal

pub returns : goal.returns
returns c =
    words-kept c.args.original_count c.args.recovery_count c.args.index c.args.old.now c.args.new.now
    (bytes_in c.args.recovery.now) (bytes_in c.update_into.new.recovery) c.update_into.result
    c.update_into.ensures.answer
