-- Two buffers with marks, as received shards and as rooms for the lost originals.
use Rattle.std.specs.Prelude.{ℕ, List, map, length}
use Rattle.rs_field.specs.code.Column.{Shard}
use Rattle.rs_field.specs.code.Decoder.{DecoderState}
use Rattle.rs_ffi.specs.declared.marked_buffers.MarkedBuffers.{MarkedBuffers}
use Rattle.rs_ffi.specs.Buffers.{marked_state, shard_place}

-- the state of a decoder to which the marked shards were added
abbrev pub state_in : MarkedBuffers → DecoderState
state_in x = marked_state x.counts.original_count x.counts.recovery_count x.size x.original_marks.now x.originals.now
    x.recovery_marks.now x.recovery.now

-- the bytes in the places of the lost originals, in order of index
abbrev pub rooms_in : MarkedBuffers → List Shard
rooms_in x = map (λ i. shard_place x.size x.originals.now i) x.lost.now

-- the parts of the buffers that stay the same when the place of a lost original is written
abbrev pub besides_rooms : MarkedBuffers → DecoderState × List ℕ × List ℕ × ℕ
besides_rooms x = (state_in x, x.original_marks.now, x.lost.now, length x.originals.now)
