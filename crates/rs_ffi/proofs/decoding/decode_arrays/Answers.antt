use Rattle.std.proofs.Common.{◌≡◌, ◌++◌, List, Ok, Err, sym, ap, ap₂, ◌∙◌}
use Rattle.rs_field.specs.code.Column.{Shard}
use Rattle.rs_field.specs.code.OneCall.{Items}
use Rattle.rs_ffi.specs.Arrays.{items_of, shards_in, bytes_in}
use Rattle.rs_ffi.specs.Places.{placed}
use Rattle.rs_ffi.proofs.PlaceLemmas.{bytes_of, both-shards}
use Rattle.rs_ffi.proofs.RoomFaults.{decodes-placed, decodes-kept, keeps-rooms, placed_answer}
use Rattle.rs_ffi.proofs.decoding.decode_arrays.Goals as goal

pub returns-in-Err-clause-answer : goal.returns-in-Err-clause-answer
returns-in-Err-clause-answer g c =
    let k = c.args.original_count in let r = c.args.recovery_count in
    let own : Items = items_of c.args.originals.now in let other : Items = items_of c.args.recovery.now in
    let old : List Shard = bytes_in c.args.restored.now in
    let new : List Shard = bytes_in c.restore_arrays-answer.new.restored in
    let answers = c.restore_arrays-answer.ensures.answer in
    let same : bytes_in c.restore_arrays-answer.new.restored ≡ bytes_in c.args.restored.now =
    decodes-kept k r own other old new c.in-Err.error c.restore_arrays-answer.result c.in-Err.is answers in
    let is : c.placed_fault.result
    ≡ placed (bytes_of c.args.originals.now ++ bytes_of c.args.recovery.now)
    (bytes_in c.restore_arrays-answer.new.restored) c.in-Err.error =
    c.placed_fault.ensures in
    let given : bytes_of c.args.originals.now ++ bytes_of c.args.recovery.now
    ≡ shards_in (items_of c.args.originals.now) ++ shards_in (items_of c.args.recovery.now) =
    both-shards c.args.originals.now c.args.recovery.now in
    decodes-placed k r own other old new c.restore_arrays-answer.result (Err c.placed_fault.result)
    (ap Err (is ∙ ap₂ (λ (l rooms : List Shard). placed l rooms c.in-Err.error) given same)
    ∙ sym (ap (placed_answer (shards_in own ++ shards_in other) old) c.in-Err.is)) answers

pub returns-in-Err-clause-kept : goal.returns-in-Err-clause-kept
returns-in-Err-clause-kept g c = keeps-rooms c.args.restored.now _ c.restore_arrays-answer.ensures.kept

pub returns-clause-answer : goal.returns-clause-answer
returns-clause-answer g c =
    let own : Items = items_of c.args.originals.now in let other : Items = items_of c.args.recovery.now in
    let old : List Shard = bytes_in c.args.restored.now in
    decodes-placed c.args.original_count c.args.recovery_count own other old
    (bytes_in c.restore_arrays-answer.new.restored) c.restore_arrays-answer.result (Ok tt)
    (sym (ap (placed_answer (shards_in own ++ shards_in other) old) c.in_default.is))
    c.restore_arrays-answer.ensures.answer

pub returns-clause-kept : goal.returns-clause-kept
returns-clause-kept g c = keeps-rooms c.args.restored.now _ c.restore_arrays-answer.ensures.kept
