use Rattle.std.proofs.Common.{◌≡◌}
use Rattle.reed_solomon_simd.specs.EncoderObject.{state_of}
use Rattle.reed_solomon_simd.specs.OneCall.{with_shards}
use Rattle.rs_examples.proofs.InTurn.{shards_from}
use Rattle.rs_examples.proofs.round_trip.give_all.Given as goal

-- Adding all originals to the first encoder has the same outcome as adding the remaining originals to the current
-- encoder.
abbrev pub invariant-loop-original : goal.invariant-loop-original
invariant-loop-original l =
    with_shards (state_of l.initial.encoder) (shards_from 0 l.originals)
    ≡ with_shards (state_of l.encoder) (shards_from l.original-index l.originals)
