use Rattle.std.proofs.Common.{◌≡◌, [], ◌++◌, List, Ok, Err, sym, ap, ap₂, ◌∙◌}
use Rattle.std.proofs.lemmas.List.{append-nil}
use Rattle.rs_field.specs.code.Column.{Shard}
use Rattle.rs_ffi.specs.Arrays.{shards_of, bytes_in}
use Rattle.rs_ffi.specs.Places.{placed}
use Rattle.rs_ffi.proofs.RoomFaults.{encodes-placed, encodes-kept, keeps-rooms, placed_answer}
use Rattle.rs_ffi.proofs.encoding.encode_arrays.Goals as goal

pub returns-in-Err-clause-answer : goal.returns-in-Err-clause-answer
returns-in-Err-clause-answer g c =
    let k = c.args.original_count in let r = c.args.recovery_count in
    let shards : List Shard = shards_of c.args.originals.now in
    let old : List Shard = bytes_in c.args.recovery.now in
    let new : List Shard = bytes_in c.encode_into-answer.new.recovery in
    let answers = c.encode_into-answer.ensures.answer in
    let same : bytes_in c.encode_into-answer.new.recovery ≡ bytes_in c.args.recovery.now =
    encodes-kept k r shards old new c.in-Err.error c.encode_into-answer.result c.in-Err.is answers in
    let is : c.placed_fault.result ≡ placed (shards_of c.args.originals.now ++ [])
    (bytes_in c.encode_into-answer.new.recovery) c.in-Err.error = c.placed_fault.ensures in
    encodes-placed k r shards old new c.encode_into-answer.result (Err c.placed_fault.result)
    (ap Err (is ∙ ap₂ (λ (l rooms : List Shard). placed l rooms c.in-Err.error) (append-nil shards) same)
    ∙ sym (ap (placed_answer shards old) c.in-Err.is)) answers

pub returns-in-Err-clause-kept : goal.returns-in-Err-clause-kept
returns-in-Err-clause-kept g c = keeps-rooms c.args.recovery.now _ c.encode_into-answer.ensures.kept

pub returns-clause-answer : goal.returns-clause-answer
returns-clause-answer g c =
    let shards : List Shard = shards_of c.args.originals.now in
    let old : List Shard = bytes_in c.args.recovery.now in
    encodes-placed c.args.original_count c.args.recovery_count shards old (bytes_in c.encode_into-answer.new.recovery)
    c.encode_into-answer.result (Ok tt) (sym (ap (placed_answer shards old) c.in_default.is))
    c.encode_into-answer.ensures.answer

pub returns-clause-kept : goal.returns-clause-kept
returns-clause-kept g c = keeps-rooms c.args.recovery.now _ c.encode_into-answer.ensures.kept
