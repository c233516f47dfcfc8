use Rattle.std.proofs.Common.{rules, ◌≡◌, List, map, subst, ◌∙◌, sym, arith}
use Rattle.std.proofs.lemmas.List.{length-map}
use Rattle.rs_field.specs.code.Column.{Shard}
use Rattle.rs_field.specs.code.Decoder.{DecoderState}
use Rattle.rs_field.specs.code.PieceStates.{HoldRestored}
use Rattle.rs_field.proofs.code_lemmas.MissingShards.{held-number, held-sized}
use Rattle.reed_solomon_simd.proofs.Making.{made-ok, made-refused, made-kept}
use Rattle.reed_solomon_simd.proofs.MissingLemmas.{names-all}
use Rattle.reed_solomon_simd.proofs.RoomFits.{vectors-sized}
use Rattle.reed_solomon_simd.proofs.RestoringLemmas.{put-whole, was-done-if}
use Rattle.reed_solomon_simd.proofs.restoring.restore_in_place.Goals as goal

pub make_missing-requires-clause-rooms : goal.make_missing-requires-clause-rooms
make_missing-requires-clause-rooms g c =
    let names = (names-all (g.S.Pieces.received c.args.store.now)).number in
    record {
      number = omega (arith, names, c.requires.number);
      fit = rw c.requires.fixed c.requires.fit;
    }

pub put_all-requires-clause-number : goal.put_all-requires-clause-number
put_all-requires-clause-number g c = search (rules, held-number, length-map)

pub put_all-requires-clause-sized : goal.put_all-requires-clause-sized
put_all-requires-clause-sized g c =
    let s : DecoderState = g.S.Pieces.received c.args.store.now in
    let sized = held-sized c.in_ok-vectors.ensures in
    vectors-sized c.shard_bytes-shard_bytes.result c.as_slice.ensures.value
    (λ i d h. sized i d h ∙ sym c.shard_bytes-shard_bytes.ensures)

pub returns-clause-restored : goal.returns-clause-restored
returns-clause-restored g c =
    let s : DecoderState = g.S.Pieces.received c.args.store.now in
    let made : List Shard = map (λ v. v.items) c.in_ok-vectors.vectors.items in
    let many = held-number c.in_ok-vectors.ensures in
    let old : List Shard = g.S.Rooms.held c.args.store.now in
    let new : List Shard = g.S.Rooms.held c.put_all.new.rooms in
    was-done-if c.put_all.result (λ put.
    let same : g.S.Rooms.held c.put_all.new.rooms ≡ map (λ v. v.items) c.in_ok-vectors.vectors.items =
    put-whole c.shard_bytes-shard_bytes.result made old new (rw c.as_slice.ensures.value at put)
    (omega (arith, many, c.requires.number))
    (λ i d h. c.requires.fit i d h ∙ sym c.shard_bytes-shard_bytes.ensures) in
    subst (λ (l : List Shard). HoldRestored (g.S.Pieces.received c.args.store.now) l)
    (sym same) c.in_ok-vectors.ensures) c.put_all.ensures.put

pub returns-then-surplus_count-eq0-clause-restored : goal.returns-then-surplus_count-eq0-clause-restored
returns-then-surplus_count-eq0-clause-restored g c =
    made-ok _ _ g.S.Rooms.grows _ _ c.make_missing.result c.make_missing.ensures.made

pub returns-then-surplus_count-eq0-clause-refused : goal.returns-then-surplus_count-eq0-clause-refused
returns-then-surplus_count-eq0-clause-refused g c =
    made-refused _ _ g.S.Rooms.grows _ _ c.make_missing.result c.make_missing.ensures.made

pub returns-then-surplus_count-eq0-clause-untouched : goal.returns-then-surplus_count-eq0-clause-untouched
returns-then-surplus_count-eq0-clause-untouched g c =
    made-kept _ _ g.S.Rooms.grows _ _ c.make_missing.result c.make_missing.ensures.made c.requires.fixed
    (omega (arith, c.surplus_count.ensures, c.if-surplus_count-eq0.true))
