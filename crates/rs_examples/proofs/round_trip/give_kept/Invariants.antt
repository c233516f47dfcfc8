use Rattle.std.proofs.Common.{◌≡◌}
use Rattle.std.specs.List.{enumerate_from, filter}
use Rattle.reed_solomon_simd.specs.DecoderObject.{state_of}
use Rattle.reed_solomon_simd.specs.OneCall.{with_originals}
use Rattle.rs_examples.specs.Losing.{is_left, left_of}
use Rattle.rs_examples.proofs.InTurn.{shards_from}
use Rattle.rs_examples.proofs.round_trip.give_kept.Given as goal

-- Adding all originals that are left to the first decoder has the same outcome as adding the remaining ones to the
-- current decoder.
abbrev pub invariant-loop-index : goal.invariant-loop-index
invariant-loop-index l =
    with_originals (state_of l.initial.decoder) (left_of (shards_from 0 l.originals) l.lost)
    ≡ with_originals (state_of l.decoder)
    (filter (is_left l.lost) (enumerate_from l.index-counter (shards_from l.index-counter l.originals)))
