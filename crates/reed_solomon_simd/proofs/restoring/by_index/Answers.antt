use Rattle.std.proofs.Common.{rules, ◌≡◌, ◌∷◌, [], ℕ, length, get_or, map, true, None, ap, arith, refl}
use Rattle.std.specs.Prelude.{is_some}
use Rattle.std.proofs.lemmas.List.{nil_from_length}
use Rattle.std.specs.Vec.Iter.{into_iter_items}
use Rattle.rs_field.specs.code.Decoder.{DecoderState}
use Rattle.rs_field.specs.code.OneCall.{shards_in}
use Rattle.reed_solomon_simd.specs.Received.{given_in}
use Rattle.reed_solomon_simd.specs.ReceivedState.{received_state}
use Rattle.reed_solomon_simd.proofs.ByIndex.{entered-none, entered-short, entered-next, entered-skipped, entered-all}
use Rattle.reed_solomon_simd.proofs.ByIndex.{some-place}
use Rattle.reed_solomon_simd.proofs.Collecting.{with_entries-inserted}
use Rattle.reed_solomon_simd.proofs.restoring.by_index.Goals.{then-is_none+in-Some+in_ok-insert+in-Some-1}
use Rattle.reed_solomon_simd.proofs.restoring.by_index.Goals.{then-is_none+in-Some+in_ok-insert+in-None-1}
use Rattle.reed_solomon_simd.proofs.restoring.by_index.Goals.{then-is_none+in_default, else-is_none}
use Rattle.reed_solomon_simd.proofs.restoring.by_index.Goals as goal

pub loop-index-init : goal.loop-index-init
loop-index-init c = search (rules, entered-none)

pub loop-index-preserved : goal.loop-index-preserved
loop-index-preserved c =
    let s : DecoderState = received_state c.args.received.now in
    let i : ℕ = c.loop-index.index in
    let now = c.loop-index.invariant in
    elim c.if-is_none.branch [
      | then-is_none+in-Some+in_ok-insert+in-Some-1 w ↦
          let free : given_in c.args.received.now.originals.shards.items c.loop-index.index ≡ None = search rules in
          let items : into_iter_items c.loop-index.left ≡ w.in-Some.shard ∷ into_iter_items w.next.new.self =
          search rules in
          rw (w.left-is, w.vectors-is)
          (entered-next s i _ (shards_in c.loop-index.vectors) now c.loop-index-test.true free w.in-Some.shard.items
          (map (λ v. v.items) (into_iter_items w.next.new.self)) (shards_in w.insert.new.self)
          (ap (map (λ v. v.items)) items)
          (λ all others is. with_entries-inserted c.loop-index.vectors w.insert.new.self i w.in-Some.shard
          w.in-Some.shard.items all others is refl w.in_ok-insert.ensures.updates))
      | then-is_none+in-Some+in_ok-insert+in-None-1 w ↦
          let free : given_in c.args.received.now.originals.shards.items c.loop-index.index ≡ None = search rules in
          let items : into_iter_items c.loop-index.left ≡ w.in-Some.shard ∷ into_iter_items w.next.new.self =
          search rules in
          rw (w.left-is, w.vectors-is)
          (entered-next s i _ (shards_in c.loop-index.vectors) now c.loop-index-test.true free w.in-Some.shard.items
          (map (λ v. v.items) (into_iter_items w.next.new.self)) (shards_in w.insert.new.self)
          (ap (map (λ v. v.items)) items)
          (λ all others is. with_entries-inserted c.loop-index.vectors w.insert.new.self i w.in-Some.shard
          w.in-Some.shard.items all others is refl w.in_ok-insert.ensures.updates))
      | then-is_none+in_default w ↦
          let free : given_in c.args.received.now.originals.shards.items c.loop-index.index ≡ None = search rules in
          let zero : length (into_iter_items c.loop-index.left) ≡ 0 = search rules in
          let none : into_iter_items c.loop-index.left ≡ [] =
          nil_from_length (into_iter_items c.loop-index.left) zero in
          absurd (entered-short s i _ (shards_in c.loop-index.vectors) now c.loop-index-test.true free
          (ap (map (λ v. v.items)) none))
      | else-is_none w ↦
          let found : is_some c.index.result.now ≡ true = search rules in
          let place : get_or c.args.received.now.originals.shards.items c.loop-index.index c.index.result.now
          ≡ c.index.result.now = search rules in
          let some = some-place c.args.received.now.originals.shards.items i c.index.result.now place
          (omega (arith, c.loop-index-test.true, c.args.received.now.original_places)) found in
          rw (w.left-is, w.vectors-is)
          (entered-skipped s i _ (shards_in c.loop-index.vectors) now c.loop-index-test.true some)
    ]

pub returns : goal.returns
returns c = entered-all (received_state c.args.received.now) c.loop-index.index _
    (shards_in c.loop-index.vectors) c.loop-index.invariant (omega (arith, c.loop-index-test.false))
