use Rattle.std.proofs.Common.{rules, ◌≡◌, [], length, Ok, Err, inl, sym, subst, ◌∙◌, refl, arith}
use Rattle.std.specs.Option.{option_map}
use Rattle.std.specs.Result.{result_map_both}
use Rattle.std.proofs.lemmas.Iterator.{YieldsList-from_slice, YieldsList-from_map_by}
use Rattle.std.proofs.lemmas.List.{nil_from_length}
use Rattle.std.proofs.lemmas.List.Elements.{All-nil}
use Rattle.rs_field.proofs.code_lemmas.SupportedCounts.{default_fits}
use Rattle.rs_rate.specs.objects.Giving.{IsDecoding}
use Rattle.reed_solomon_simd.specs.Into.{DecodesInto}
use Rattle.reed_solomon_simd.specs.ReceivedState.{received_state}
use Rattle.reed_solomon_simd.proofs.RestoringLemmas.{decodes-refused, decodes-nothing, decodes-restored}
use Rattle.reed_solomon_simd.proofs.Giving.{always-both}
use Rattle.reed_solomon_simd.proofs.OneCall.{decoding-uncounted, decoding-none, decoding-refused}
use Rattle.rs_ffi.specs.Arrays.{items_of, bytes_in}
use Rattle.rs_ffi.proofs.RoomFaults.{nothing-memory}
use Rattle.rs_ffi.proofs.decoding.restore_arrays.Given.{Over}
use Rattle.rs_ffi.proofs.decoding.restore_arrays.Goals.{After-received_shards}
use Rattle.rs_ffi.proofs.decoding.restore_arrays.Goals as goal

pub returns-in_err-counts-clause-answer : goal.returns-in_err-counts-clause-answer
returns-in_err-counts-clause-answer g c =
    let k = c.args.original_count in let r = c.args.recovery_count in
    let own = items_of c.args.originals.now in let other = items_of c.args.recovery.now in
    let e = c.in_err-counts.field-0.0 in
    decodes-refused k r own other e (bytes_in c.args.restored.now) _
    (decoding-refused k r own other e (decoding-uncounted k r own other e c.in_err-counts.ensures)) (search rules)

pub check_alone-requires : goal.check_alone-requires
check_alone-requires g c =
    let fits = default_fits c.in_ok-counts.counts.original_count c.in_ok-counts.counts.recovery_count
    c.in_ok-counts.counts.supported in
    omega (arith, fits, c.in_ok-counts.ensures.0, c.in_ok-counts.ensures.1)

pub returns-in_err-check_alone-clause-answer : goal.returns-in_err-check_alone-clause-answer
returns-in_err-check_alone-clause-answer g c =
    let k = c.args.original_count in let r = c.args.recovery_count in
    let own = items_of c.args.originals.now in
    let none : length c.args.recovery.now ≡ 0 = search rules in
    let e = c.in_err-check_alone.field-0.0 in
    let led = decoding-none k r own (Err e)
    (rw (c.in_ok-counts.ensures.0, c.in_ok-counts.ensures.1) at c.in_ok-counts.counts.supported)
    (inl c.in_err-check_alone.ensures.answer) in
    subst (λ l. DecodesInto k r own (items_of l) (bytes_in c.args.restored.now) (bytes_in c.args.restored.now)
    c.from_residual-in_err-check_alone.result) (sym (nil_from_length c.args.recovery.now none))
    (decodes-refused k r own [] e (bytes_in c.args.restored.now) _ (decoding-refused k r own [] e led) (search rules))

pub returns-in_err-check_alone-clause-memory : goal.returns-in_err-check_alone-clause-memory
returns-in_err-check_alone-clause-memory g c none lacks = search rules

pub returns-then-is_empty-clause-answer : goal.returns-then-is_empty-clause-answer
returns-then-is_empty-clause-answer g c =
    let k = c.args.original_count in let r = c.args.recovery_count in
    let own = items_of c.args.originals.now in
    let none : length c.args.recovery.now ≡ 0 = search rules in
    let led = decoding-none k r own (Ok tt)
    (rw (c.in_ok-counts.ensures.0, c.in_ok-counts.ensures.1) at c.in_ok-counts.counts.supported)
    (inl c.in_ok-check_alone.ensures.answer) in
    subst (λ l. DecodesInto k r own (items_of l) (bytes_in c.args.restored.now) (bytes_in c.args.restored.now)
    c.check_rooms.result) (sym (nil_from_length c.args.recovery.now none))
    (decodes-nothing k r own [] (bytes_in c.args.restored.now) _ led
    (c.check_rooms.ensures.answer [] refl (All-nil (λ shard. length shard ≡ 0))))

pub returns-then-is_empty-clause-memory : goal.returns-then-is_empty-clause-memory
returns-then-is_empty-clause-memory g c none lacks =
    nothing-memory (bytes_in c.args.restored.now)
    (sym (c.check_rooms.ensures.answer [] refl (All-nil (λ shard. length shard ≡ 0))) ∙ lacks)

-- Collecting the received shards has the outcome of adding them to a decoder.
collected : (g : Over) (c : After-received_shards g)
    → IsDecoding c.args.original_count c.args.recovery_count (items_of c.args.originals.now)
    (items_of c.args.recovery.now)
    (result_map_both (λ o. option_map received_state o) (λ e. e) c.received_shards.result)
collected g c =
    let own = YieldsList-from_map_by _ (λ item. (item.0, item.1.now)) (λ shard. (shard.index, shard.bytes.now))
    (YieldsList-from_slice c.args.originals.now cc) c.map-lent_originals.ensures.closure (λ x r q k. search rules) in
    let other = YieldsList-from_map_by _ (λ item. (item.0, item.1.now)) (λ shard. (shard.index, shard.bytes.now))
    (YieldsList-from_slice c.args.recovery.now cc) c.map-lent_recovery.ensures.closure (λ x r q k. search rules) in
    always-both (λ item. (item.0, item.1.now)) (λ item. (item.0, item.1.now)) _
    (rw (c.in_ok-counts.ensures.0, c.in_ok-counts.ensures.1) at c.received_shards.ensures)
    (items_of c.args.originals.now) (items_of c.args.recovery.now) own.runs other.runs

pub returns-in_err-received-clause-answer : goal.returns-in_err-received-clause-answer
returns-in_err-received-clause-answer g c =
    let led = rw c.in_err-received.was at
    (collected g (goal.at.returns-in_err-received-clause-answer g c).After-received_shards) in
    let e = c.in_err-received.field-0.0 in
    decodes-refused c.args.original_count c.args.recovery_count (items_of c.args.originals.now)
    (items_of c.args.recovery.now) e (bytes_in c.args.restored.now) _
    (decoding-refused c.args.original_count c.args.recovery_count _ _ e led) (search rules)

pub returns-in_default-clause-answer : goal.returns-in_default-clause-answer
returns-in_default-clause-answer g c =
    decodes-nothing c.args.original_count c.args.recovery_count (items_of c.args.originals.now)
    (items_of c.args.recovery.now) (bytes_in c.args.restored.now) _
    (rw (c.in_ok-received.was, c.in_default.is) at
    (collected g (goal.at.returns-in_default-clause-answer g c).After-received_shards))
    (c.check_rooms-in_default.ensures.answer [] refl (All-nil (λ shard. length shard ≡ 0)))

pub returns-clause-answer : goal.returns-clause-answer
returns-clause-answer g c =
    decodes-restored c.args.original_count c.args.recovery_count (items_of c.args.originals.now)
    (items_of c.args.recovery.now) (received_state c.in-Some.received)
    (bytes_in c.args.restored.now) (bytes_in c.restore_into.new.rooms) _
    (rw (c.in_ok-received.was, c.in-Some.is) at
    (collected g (goal.at.returns-clause-answer g c).After-received_shards)) c.restore_into.ensures.answer
