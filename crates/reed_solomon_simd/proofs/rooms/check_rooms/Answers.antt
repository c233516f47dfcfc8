use Rattle.std.proofs.Common.{rules, ◌≡◌, ℕ, ◌<◌, List, [], length, get_or, MutBor, Err, sym, ap, ◌∙◌, arith}
use Rattle.std.proofs.lemmas.List.{get_or-map, length-map}
use Rattle.reed_solomon_simd.specs.declared.room_error.RoomError.TheVariants.{WrongLength}
use Rattle.reed_solomon_simd.specs.Rooms.{bytes_in}
use Rattle.reed_solomon_simd.proofs.RoomFits.{fits-many, fits-all, fits-first}
use Rattle.reed_solomon_simd.proofs.rooms.check_rooms.Goals as goal

-- The bytes of room i are element i of `bytes_in`.
bytes-at : (i : ℕ) (rooms : List (MutBor (List ℕ))) (d : MutBor (List ℕ)) → i < length rooms
    → get_or (bytes_in rooms) i [] ≡ (get_or rooms i d).now
bytes-at i rooms d h = get_or-map (λ room. room.now) rooms i d [] h

pub returns-then-rooms-index-clause-answer : goal.returns-then-rooms-index-clause-answer
returns-then-rooms-index-clause-answer c = λ shards number sized.
    let i : ℕ = c.loop-index.index in
    let d : MutBor (List ℕ) = record { ref_ptr = (0, 0); ghost_name = 0; now = [] } in
    let all = length-map c.args.rooms.now (λ room. room.now) in
    let inside : c.loop-index.index < length c.args.rooms.now = c.loop-index-test.true in
    let here = bytes-at i c.args.rooms.now d inside in
    let many : length c.args.rooms.now ≡ c.args.count = search rules in
    let other : length (get_or (bytes_in c.args.rooms.now) c.loop-index.index []) ≡ c.args.shard_bytes → ⊥ =
    (λ same. let fact : length (get_or c.args.rooms.now c.loop-index.index d).now ≡ c.args.shard_bytes =
    ap length (sym here) ∙ same in let no : ⊥ = search rules in no) in
    ap (λ (n : ℕ). Err (WrongLength c.args.shard_bytes n)) (ap length (sym here))
    ∙ sym (fits-many shards (bytes_in c.args.rooms.now) (number ∙ sym many ∙ sym all)
    ∙ fits-first c.args.shard_bytes i shards (bytes_in c.args.rooms.now) (number ∙ sym many ∙ sym all) sized
    (omega (arith, inside, all)) c.loop-index.invariant other)

pub loop-index-preserved : goal.loop-index-preserved
loop-index-preserved c = search (rules, bytes-at)

pub returns-clause-answer : goal.returns-clause-answer
returns-clause-answer c = λ shards number sized.
    let all = length-map c.args.rooms.now (λ room. room.now) in
    let many : length c.args.rooms.now ≡ c.args.count = search rules in
    let done = c.loop-index-test.false in
    sym (fits-many shards (bytes_in c.args.rooms.now) (number ∙ sym many ∙ sym all)
    ∙ fits-all c.args.shard_bytes shards (bytes_in c.args.rooms.now) sized
    (λ i h. c.loop-index.invariant i (omega (arith, h, all, done))))
