use Rattle.std.proofs.Common.{rules, ◌≡◌, ℕ, List, [], length, map, Bor, refl}
use Rattle.std.specs.Option.{option_map}
use Rattle.std.specs.Result.{result_map_both}
use Rattle.std.proofs.lemmas.Iterator.{YieldsList-from_slice, YieldsList-from_map_by}
use Rattle.std.proofs.lemmas.List.Elements.{All-nil}
use Rattle.rs_field.specs.code.Column.{Shard}
use Rattle.rs_field.specs.code.OneCall.{Items}
use Rattle.rs_rate.specs.objects.Giving.{IsDecoding}
use Rattle.rs_rate.proofs.objects_lemmas.Giving.{always-both}
use Rattle.rs_rate.proofs.objects_lemmas.OneCall.{decoding-uncounted, decoding-refused}
use Rattle.reed_solomon_simd.specs.ReceivedState.{received_state}
use Rattle.reed_solomon_simd.specs.Rooms.{bytes_in}
use Rattle.reed_solomon_simd.proofs.RestoringLemmas.{decodes-refused, decodes-nothing, decodes-restored}
use Rattle.reed_solomon_simd.proofs.into.decode_into.Given.{Over}
use Rattle.reed_solomon_simd.proofs.into.decode_into.Goals.{After-received_shards}
use Rattle.reed_solomon_simd.proofs.into.decode_into.Goals as goal

-- The shards of borrowed items, with their indexes.
abbrev lent : List (ℕ × Bor Shard) → Items
lent items = map (λ item. (item.0, item.1.now)) items

pub returns-in_err-counts-clause-answer : goal.returns-in_err-counts-clause-answer
returns-in_err-counts-clause-answer g c =
    let k = c.args.original_count in let r = c.args.recovery_count in
    let own = lent c.args.original.now in let other = lent c.args.recovery.now in
    let e = c.in_err-counts.field-0.0 in
    decodes-refused k r own other e (bytes_in c.args.restored.now) _
    (decoding-refused k r own other e (decoding-uncounted k r own other e c.in_err-counts.ensures)) (search rules)

-- Collecting the received shards has the outcome of adding them to a decoder.
collected : (g : Over) (c : After-received_shards g)
    → IsDecoding c.args.original_count c.args.recovery_count (lent c.args.original.now)
    (lent c.args.recovery.now)
    (result_map_both (λ o. option_map received_state o) (λ e. e) c.received_shards.result)
collected g c =
    let own = YieldsList-from_map_by _ (λ item. (item.0, item.1.now)) (λ item. (item.0, item.1.now))
    (YieldsList-from_slice c.args.original.now cc) c.map-lent_originals.ensures.closure (λ x r q k. search rules) in
    let other = YieldsList-from_map_by _ (λ item. (item.0, item.1.now)) (λ item. (item.0, item.1.now))
    (YieldsList-from_slice c.args.recovery.now cc) c.map-lent_recovery.ensures.closure (λ x r q k. search rules) in
    always-both (λ item. (item.0, item.1.now)) (λ item. (item.0, item.1.now)) _
    (rw (c.in_ok-counts.ensures.0, c.in_ok-counts.ensures.1) at c.received_shards.ensures)
    (lent c.args.original.now) (lent c.args.recovery.now) own.runs other.runs

pub returns-in_err-received-clause-answer : goal.returns-in_err-received-clause-answer
returns-in_err-received-clause-answer g c =
    let led = rw c.in_err-received.was at
    (collected g (goal.at.returns-in_err-received-clause-answer g c).After-received_shards) in
    let e = c.in_err-received.field-0.0 in
    decodes-refused c.args.original_count c.args.recovery_count (lent c.args.original.now)
    (lent c.args.recovery.now) e (bytes_in c.args.restored.now) _
    (decoding-refused c.args.original_count c.args.recovery_count _ _ e led) (search rules)

pub returns-in_default-clause-answer : goal.returns-in_default-clause-answer
returns-in_default-clause-answer g c =
    decodes-nothing c.args.original_count c.args.recovery_count (lent c.args.original.now)
    (lent c.args.recovery.now) (bytes_in c.args.restored.now) _
    (rw (c.in_ok-received.was, c.in_default.is) at
    (collected g (goal.at.returns-in_default-clause-answer g c).After-received_shards))
    (c.check_rooms.ensures.answer [] refl (All-nil (λ shard. length shard ≡ 0)))

pub returns-clause-answer : goal.returns-clause-answer
returns-clause-answer g c =
    decodes-restored c.args.original_count c.args.recovery_count (lent c.args.original.now)
    (lent c.args.recovery.now) (received_state c.in-Some.received)
    (bytes_in c.args.restored.now) (bytes_in c.restore_into.new.rooms) _
    (rw (c.in_ok-received.was, c.in-Some.is) at
    (collected g (goal.at.returns-clause-answer g c).After-received_shards)) c.restore_into.ensures.answer
