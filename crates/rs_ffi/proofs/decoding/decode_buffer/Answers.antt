use Rattle.std.proofs.Common.{rules, subst, ◌≡◌, ℕ, ◌<◌, ◌==◌, not, List, length, map, take, drop, Ok, Err, sym, ap}
use Rattle.std.proofs.Common.{◌∙◌, refl, arith, true}
use Rattle.std.specs.List.{count_by}
use Rattle.rs_field.specs.code.Counts.{default_rate, supports}
use Rattle.rs_field.specs.code.Given.{nothing}
use Rattle.rs_field.proofs.code_lemmas.SupportedCounts.{default_fits}
use Rattle.rs_field.specs.code.OneCall.{OneDecodeAnswers}
use Rattle.rs_rate.proofs.objects_lemmas.OneCall.{decoding-refused, decoding-nothing}
use Rattle.rs_ffi.specs.Answers.{all_or_refused}
use Rattle.rs_ffi.specs.Buffers.{lost_indexes, marked_shards, shard_place}
use Rattle.rs_ffi.proofs.DecodeLemmas.{decodes-unmarked, with-nothing, decodes}
use Rattle.rs_ffi.proofs.MarkedLemmas.{present, count-present}
use Rattle.rs_ffi.proofs.MarkedState.{AreMarked}
use Rattle.rs_ffi.proofs.RestoredBuffer.{unset-answers, failed-answers, done-answers, buffer-restored}
use Rattle.rs_ffi.proofs.decoding.decode_buffer.Given.{Over}
use Rattle.rs_ffi.proofs.decoding.decode_buffer.Goals.{After-split_at, After-check_decoder_rows}
use Rattle.rs_ffi.proofs.decoding.decode_buffer.Goals as goal

pub overflow_add-original_count : goal.overflow_add-original_count
overflow_add-original_count g c =
    let fits = default_fits c.in_ok-counts.counts.original_count c.in_ok-counts.counts.recovery_count
    c.in_ok-counts.counts.supported in
    omega (arith, fits, c.in_ok-counts.ensures.0, c.in_ok-counts.ensures.1)

-- The marks are those of the originals and those of the recovery shards, and the buffers hold whole shards.
record IsDivided (k r size : ℕ) (marks own other old recovery : List ℕ) : Type 0 where
  supported : supports default_rate k r ≡ true
  own_marks : own ≡ take k marks
  other_marks : other ≡ drop k marks
  buffers : AreMarked k r size own old other recovery

divided : (g : Over) (c : After-split_at g)
    → IsDivided c.args.original_count c.args.recovery_count c.args.shard_bytes c.args.marks.now
    c.split_at.result.0.now c.split_at.result.1.now c.args.originals.now c.args.recovery.now
divided g c = search rules

pub returns-in_err-check_all_marked-clause-answer : goal.returns-in_err-check_all_marked-clause-answer
returns-in_err-check_all_marked-clause-answer g c =
    let k = c.args.original_count in let r = c.args.recovery_count in let size = c.args.shard_bytes in
    let marks = c.args.marks.now in let old = c.args.originals.now in let recovery = c.args.recovery.now in
    let d = divided g (goal.at.returns-in_err-check_all_marked-clause-answer g c).After-split_at in
    let e = c.in_err-check_all_marked.field-0.0 in
    let led = decodes-unmarked k r size (take k marks) (drop k marks) old recovery (Err e) d.supported
    (ap length (sym d.own_marks) ∙ d.buffers.own_number)
    (ap (count_by (λ mark. not (mark == 0))) (sym d.other_marks)
    ∙ sym c.count_marked.ensures ∙ c.if-count_marked-eq0.true)
    (c.in_err-check_all_marked.ensures
    ∙ ap (λ l. all_or_refused (length l) (count_by (λ mark. not (mark == 0)) l)) d.own_marks) in
    decodes k r size marks recovery old _ _ (Err e) d.supported
    c.in_ok-check_length.ensures c.in_ok-check_length-2.ensures c.in_ok-check_length-3.ensures
    (decoding-refused k r (marked_shards 0 size (take k marks) old)
    (marked_shards 0 size (drop k marks) recovery) e led) (search rules, refl)

pub returns-then-count_marked-eq0-clause-answer : goal.returns-then-count_marked-eq0-clause-answer
returns-then-count_marked-eq0-clause-answer g c =
    let k = c.args.original_count in let r = c.args.recovery_count in let size = c.args.shard_bytes in
    let marks = c.args.marks.now in let old = c.args.originals.now in let recovery = c.args.recovery.now in
    let d = divided g (goal.at.returns-then-count_marked-eq0-clause-answer g c).After-split_at in
    let led = decodes-unmarked k r size (take k marks) (drop k marks) old recovery (Ok tt) d.supported
    (ap length (sym d.own_marks) ∙ d.buffers.own_number)
    (ap (count_by (λ mark. not (mark == 0))) (sym d.other_marks)
    ∙ sym c.count_marked.ensures ∙ c.if-count_marked-eq0.true)
    (c.in_ok-check_all_marked.ensures
    ∙ ap (λ l. all_or_refused (length l) (count_by (λ mark. not (mark == 0)) l)) d.own_marks) in
    decodes k r size marks recovery old _ _ (Ok nothing) d.supported
    c.in_ok-check_length.ensures c.in_ok-check_length-2.ensures c.in_ok-check_length-3.ensures
    (decoding-nothing k r (marked_shards 0 size (take k marks) old) (marked_shards 0 size (drop k marks) recovery) led)
    (search rules, sym (with-nothing 0 size k old d.buffers.own_whole))

-- A recovery shard is marked.
marked : (g : Over) (c : After-check_decoder_rows g) → 0 < present c.split_at.result.1.now
marked g c =
    let counted = c.count_marked.ensures ∙ sym (count-present c.split_at.result.1.now) in
    omega (arith, counted, c.if-count_marked-eq0.false)

pub returns-in_err-check_decoder_rows-clause-answer : goal.returns-in_err-check_decoder_rows-clause-answer
returns-in_err-check_decoder_rows-clause-answer g c =
    let k = c.args.original_count in let r = c.args.recovery_count in let size = c.args.shard_bytes in
    let marks = c.args.marks.now in let old = c.args.originals.now in let recovery = c.args.recovery.now in
    let d = divided g (goal.at.returns-in_err-check_decoder_rows-clause-answer g c).After-split_at in
    let some = marked g (goal.at.returns-in_err-check_decoder_rows-clause-answer g c).After-check_decoder_rows in
    let e = c.in_err-check_decoder_rows.field-0.0 in
    let unset = rw (c.in_ok-counts.ensures.0, c.in_ok-counts.ensures.1) at c.in_err-check_decoder_rows.ensures in
    let answers = rw (d.own_marks, d.other_marks) at (unset-answers d.buffers some e (sym unset)) in
    decodes k r size marks recovery old _ _
    (Err e) d.supported c.in_ok-check_length.ensures c.in_ok-check_length-2.ensures c.in_ok-check_length-3.ensures
    answers (search rules, refl)

pub restore_marked-requires-clause-original_marks : goal.restore_marked-requires-clause-original_marks
restore_marked-requires-clause-original_marks g c =
    rw c.in_ok-counts.ensures.0
    (divided g (goal.at.restore_marked-requires-clause-original_marks g c).After-split_at).buffers.own_number

pub restore_marked-requires-clause-recovery_marks : goal.restore_marked-requires-clause-recovery_marks
restore_marked-requires-clause-recovery_marks g c =
    rw c.in_ok-counts.ensures.1
    (divided g (goal.at.restore_marked-requires-clause-recovery_marks g c).After-split_at).buffers.other_number

pub restore_marked-requires-clause-originals_whole : goal.restore_marked-requires-clause-originals_whole
restore_marked-requires-clause-originals_whole g c =
    rw c.in_ok-counts.ensures.0
    (divided g (goal.at.restore_marked-requires-clause-originals_whole g c).After-split_at).buffers.own_whole

pub restore_marked-requires-clause-recovery_whole : goal.restore_marked-requires-clause-recovery_whole
restore_marked-requires-clause-recovery_whole g c =
    rw c.in_ok-counts.ensures.1
    (divided g (goal.at.restore_marked-requires-clause-recovery_whole g c).After-split_at).buffers.other_whole

pub returns-in_err-restore_marked-clause-answer : goal.returns-in_err-restore_marked-clause-answer
returns-in_err-restore_marked-clause-answer g c =
    let k = c.args.original_count in let r = c.args.recovery_count in let size = c.args.shard_bytes in
    let marks = c.args.marks.now in let old = c.args.originals.now in let recovery = c.args.recovery.now in
    let own = c.split_at.result.0.now in
    let d = divided g (goal.at.returns-in_err-restore_marked-clause-answer g c).After-split_at in
    let some = marked g (goal.at.returns-in_err-restore_marked-clause-answer g c).After-check_decoder_rows in
    let e = c.in_err-restore_marked.field-0.0 in
    let made = rw (c.in_ok-counts.ensures.0, c.in_ok-counts.ensures.1) at c.in_ok-check_decoder_rows.ensures in
    let does = rw (c.in_ok-counts.ensures.0, c.in_ok-counts.ensures.1) at c.in_err-restore_marked.ensures.answer in
    let answers = rw (d.own_marks, d.other_marks) at
    (failed-answers d.buffers some (sym made)
    (map (λ i. shard_place c.args.shard_bytes c.restore_marked.new.originals i) (lost_indexes 0 own)) e does) in
    decodes k r size marks recovery old _ _
    (Err e) d.supported c.in_ok-check_length.ensures c.in_ok-check_length-2.ensures c.in_ok-check_length-3.ensures
    answers (search rules, c.in_err-restore_marked.ensures.untouched)

pub returns-clause-answer : goal.returns-clause-answer
returns-clause-answer g c =
    let k = c.args.original_count in let r = c.args.recovery_count in let size = c.args.shard_bytes in
    let marks = c.args.marks.now in let old = c.args.originals.now in let recovery = c.args.recovery.now in
    let own = c.split_at.result.0.now in
    let d = divided g (goal.at.returns-clause-answer g c).After-split_at in
    let some = marked g (goal.at.returns-clause-answer g c).After-check_decoder_rows in
    let made = rw (c.in_ok-counts.ensures.0, c.in_ok-counts.ensures.1) at c.in_ok-check_decoder_rows.ensures in
    let does = rw (c.in_ok-counts.ensures.0, c.in_ok-counts.ensures.1) at c.in_ok-restore_marked.ensures.answer in
    let (holds, one) = done-answers d.buffers some (sym made)
    (map (λ i. shard_place c.args.shard_bytes c.restore_marked.new.originals i) (lost_indexes 0 own)) does in
    let new_is = buffer-restored c.restore_marked.new.originals d.buffers c.in_ok-restore_marked.ensures.long
    c.in_ok-restore_marked.ensures.marked holds in
    let Answers : List ℕ → List ℕ → Type 0 = λ own other.
    OneDecodeAnswers k r (marked_shards 0 size own old) (marked_shards 0 size other recovery) (Ok holds.out) in
    let answers = subst (λ (l : List ℕ). Answers l (drop k marks)) d.own_marks
    (subst (λ (l : List ℕ). Answers own l) d.other_marks one) in
    decodes k r size marks recovery old _ _
    (Ok holds.out) d.supported c.in_ok-check_length.ensures c.in_ok-check_length-2.ensures
    c.in_ok-check_length-3.ensures
    answers (refl, new_is)
