use Rattle.reed_solomon_simd.proofs.OneRoundTrip.{restores_in_one_call}
use Rattle.rs_examples.proofs.round_trip.restore_what_is_left.Goals as goal

pub returns : goal.returns
returns c originals recovery coded kept received =
    restores_in_one_call c.args.original_count c.args.recovery_count originals recovery _ _ _ coded kept received
    c.decode_slice.ensures.answer
