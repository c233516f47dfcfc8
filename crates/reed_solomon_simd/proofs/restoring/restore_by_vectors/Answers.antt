use Rattle.std.proofs.Common.{rules, ◌≡◌, List, length, map, Ok, Err, ap, ◌∙◌, refl, arith}
use Rattle.std.proofs.lemmas.List.{length-map}
use Rattle.rs_field.specs.code.Column.{Shard}
use Rattle.rs_field.specs.code.Decoder.{DecoderState}
use Rattle.rs_field.proofs.code_lemmas.MissingShards.{held-number, held-sized}
use Rattle.reed_solomon_simd.specs.ReceivedState.{received_state}
use Rattle.reed_solomon_simd.specs.Rooms.{bytes_in}
use Rattle.reed_solomon_simd.proofs.RoomFits.{vectors-sized}
use Rattle.reed_solomon_simd.proofs.RestoringLemmas.{restores-refused, restores-filled}
use Rattle.reed_solomon_simd.proofs.restoring.restore_by_vectors.Goals as goal

pub returns-in_err-vectors-clause-answer : goal.returns-in_err-vectors-clause-answer
returns-in_err-vectors-clause-answer g c =
    let s : DecoderState = received_state c.args.received.now in
    restores-refused s c.requires.enough c.in_err-vectors.field-0.0 (bytes_in c.args.rooms.now)
    (bytes_in c.args.rooms.now) _ c.in_err-vectors.ensures (search rules) refl

pub returns-in_err-check_rooms-clause-answer : goal.returns-in_err-check_rooms-clause-answer
returns-in_err-check_rooms-clause-answer g c =
    let s : DecoderState = received_state c.args.received.now in
    let made : List Shard = map (λ v. v.items) c.in_ok-vectors.vectors.items in
    let holds = c.in_ok-vectors.ensures in
    let many = held-number holds in
    let number : length (map (λ v. v.items) c.in_ok-vectors.vectors.items) ≡ c.missing_count-missing.result =
    omega (arith, many, c.missing_count-missing.ensures) in
    restores-filled s c.requires.enough made (bytes_in c.args.rooms.now) _ _ holds (Err c.in_err-check_rooms.field-0.0)
    (c.in_err-check_rooms.ensures.answer made number (held-sized holds)) (search rules, refl)

pub fill_rooms-requires-clause-number : goal.fill_rooms-requires-clause-number
fill_rooms-requires-clause-number g c = search (rules, held-number, length-map)

pub fill_rooms-requires-clause-sized : goal.fill_rooms-requires-clause-sized
fill_rooms-requires-clause-sized g c =
    vectors-sized c.args.received.now.shard_bytes c.as_slice.ensures.value (held-sized c.in_ok-vectors.ensures)

pub returns-clause-answer : goal.returns-clause-answer
returns-clause-answer g c =
    let s : DecoderState = received_state c.args.received.now in
    let made : List Shard = map (λ v. v.items) c.in_ok-vectors.vectors.items in
    let holds = c.in_ok-vectors.ensures in
    let many = held-number holds in
    let number : length (map (λ v. v.items) c.in_ok-vectors.vectors.items) ≡ c.missing_count-missing.result =
    omega (arith, many, c.missing_count-missing.ensures) in
    restores-filled s c.requires.enough made (bytes_in c.args.rooms.now) (bytes_in c.fill_rooms.new.rooms) (Ok tt) holds
    (Ok tt)
    (c.in_ok-check_rooms.ensures.answer made number (held-sized holds))
    (refl, c.fill_rooms.ensures.filled ∙ ap (map (λ v. v.items)) c.as_slice.ensures.value)
