use Rattle.std.proofs.Common.{rules, ◌≡◌, ℕ, List, map, Err, MatchResult, sym, ap, subst, ◌∙◌, inl}
use Rattle.std.specs.Prelude.{◌⊎◌, OnErr}
use Rattle.rs_field.specs.declared.code.error.Error.TheVariants.{OutOfMemory}
use Rattle.rs_field.specs.code.Column.{Shard}
use Rattle.rs_field.specs.code.Decoder.{DecoderState, NoneAgrees, enough_given}
use Rattle.rs_field.specs.code.PieceStates.{HoldRestored}
use Rattle.rs_ffi.specs.Buffers.{lost_indexes, marked_map, marked_state, shard_place}
use Rattle.rs_ffi.proofs.MarkedState.{AreMarked, marked-decoder, lost-long}
use Rattle.rs_ffi.proofs.RestoredBuffer.{buffer-same, rooms-placed, marked-same, length-same, was-done-err}
use Rattle.rs_ffi.proofs.decoding.restore_marked.Given.{Over}
use Rattle.rs_ffi.proofs.decoding.restore_marked.Goals.{In_ok-lost}
use Rattle.rs_ffi.proofs.decoding.restore_marked.Goals as goal

-- The buffers consist of whole shards, and there is a mark for each shard.
buffers : (g : Over) (c : In_ok-lost g)
    → AreMarked c.args.counts.original_count c.args.counts.recovery_count c.args.size c.args.marks.0.now
    c.args.originals.now c.args.marks.1.now c.args.recovery.now
buffers g c =
    record {
      own_number = c.requires.original_marks;
      other_number = c.requires.recovery_marks;
      own_whole = c.requires.originals_whole;
      other_whole = c.requires.recovery_whole;
    }

pub restore_buffers-requires-clause-set_up : goal.restore_buffers-requires-clause-set_up
restore_buffers-requires-clause-set_up g c =
    marked-decoder (buffers g (goal.at.restore_buffers-requires-clause-set_up g c).In_ok-lost)
    c.are_bytes.ensures.all c.are_bytes-2.ensures.all c.requires.set_up

pub restore_buffers-requires-clause-fit : goal.restore_buffers-requires-clause-fit
restore_buffers-requires-clause-fit g c =
    rw (c.as_slice.ensures.value, c.in_ok-lost.ensures)
    (lost-long c.args.size c.args.counts.original_count c.args.marks.0.now c.args.originals.now
    c.requires.original_marks c.requires.originals_whole)

pub returns-clause-answer : goal.returns-clause-answer
returns-clause-answer g c =
    let s : DecoderState =
    marked_state c.args.counts.original_count c.args.counts.recovery_count c.args.size c.args.marks.0.now
    c.args.originals.now c.args.marks.1.now c.args.recovery.now in
    let listed = c.as_slice.ensures.value ∙ c.in_ok-lost.ensures in
    let does = subst (λ (rooms : List Shard).
    MatchResult (enough_given s)
    (λ _. MatchResult c.restore_buffers.result (λ _. HoldRestored s rooms)
    (λ e. NoneAgrees s e ⊎ (e ≡ OutOfMemory)))
    (λ e. c.restore_buffers.result ≡ Err e))
    (rooms-placed c.restore_buffers.new.buffers c.restore_buffers.ensures.others listed)
    c.restore_buffers.ensures.answer in
    inl (subst (λ (new : List ℕ). MatchResult (enough_given s) (λ _. MatchResult c.restore_buffers.result
    (λ _. HoldRestored s (map (λ i. shard_place c.args.size new i) (lost_indexes 0 c.args.marks.0.now)))
    (λ e. NoneAgrees s e ⊎ (e ≡ OutOfMemory)))
    (λ e. c.restore_buffers.result ≡ Err e)) (search rules) does)

pub returns-clause-marked : goal.returns-clause-marked
returns-clause-marked g c =
    let same : marked_map c.args.size c.args.marks.0.now c.restore_buffers.new.buffers.originals.now
    ≡ marked_map c.args.size c.args.marks.0.now c.args.originals.now =
    marked-same c.restore_buffers.new.buffers c.restore_buffers.ensures.others in
    search rules

pub returns-clause-untouched : goal.returns-clause-untouched
returns-clause-untouched g c =
    let listed = c.as_slice.ensures.value ∙ c.in_ok-lost.ensures in
    let others = c.restore_buffers.ensures.others in
    let marked = marked-same c.restore_buffers.new.buffers others in
    let long = length-same c.restore_buffers.new.buffers others in
    let placed = rooms-placed c.restore_buffers.new.buffers others listed in
    let old : map (λ i. shard_place c.args.size c.args.originals.now i) c.as_slice.result.now
    ≡ map (λ i. shard_place c.args.size c.args.originals.now i) (lost_indexes 0 c.args.marks.0.now) =
    ap (map (λ i. shard_place c.args.size c.args.originals.now i)) listed in
    let fact : OnErr c.restore_buffers.result (c.restore_buffers.new.buffers.originals.now ≡ c.args.originals.now) =
    was-done-err c.restore_buffers.result
    (λ same. buffer-same c.restore_buffers.new.buffers.originals.now
    (buffers g (goal.at.returns-clause-untouched g c).In_ok-lost) long marked (sym placed ∙ same ∙ old))
    c.restore_buffers.ensures.untouched
    in
    subst (λ (new : List ℕ). OnErr c.restore_buffers.result (new ≡ c.args.originals.now)) (search rules) fact
