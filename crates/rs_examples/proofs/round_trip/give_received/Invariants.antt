use Rattle.std.proofs.Common.{◌≡◌}
use Rattle.std.specs.List.{enumerate_from, filter}
use Rattle.std.specs.Iterator.Adapters.{enumerate_source, enumerate_count}
use Rattle.reed_solomon_simd.specs.DecoderObject.{state_of}
use Rattle.reed_solomon_simd.specs.OneCall.{with_recoveries}
use Rattle.reed_solomon_simd.specs.ResultView.{recovery_shards}
use Rattle.rs_examples.specs.Losing.{is_left, left_of}
use Rattle.rs_examples.proofs.round_trip.give_received.Given as goal

-- Adding all recovery shards that are left to the first decoder has the same outcome as adding the remaining ones to
-- the current decoder.
abbrev pub invariant-loop-index : goal.invariant-loop-index
invariant-loop-index l =
    with_recoveries (state_of l.initial.decoder) (left_of (recovery_shards l.recovery) l.lost)
    ≡ with_recoveries (state_of l.decoder)
    (filter (is_left l.lost) (enumerate_from (enumerate_count l.index-iterator) (enumerate_source l.index-iterator)))
