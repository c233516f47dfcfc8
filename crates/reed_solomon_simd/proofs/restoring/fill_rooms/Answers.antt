use Rattle.std.proofs.Common.{rules, arith, ◌≡◌, map}
use Rattle.std.proofs.lemmas.List.{length-map}
use Rattle.reed_solomon_simd.specs.Rooms.{bytes_in}
use Rattle.reed_solomon_simd.proofs.RestoringLemmas.{put-whole, was-done}
use Rattle.reed_solomon_simd.proofs.restoring.fill_rooms.Goals as goal

pub returns-clause-filled : goal.returns-clause-filled
returns-clause-filled c =
    let put = was-done _ c.put_all.result c.put_all.ensures.put c.put_all.ensures.refused in
    let long = length-map c.args.vectors.now (λ vector. vector.items) in
    let many = length-map c.args.rooms.now (λ room. room.now) in
    let fact : bytes_in c.put_all.new.rooms.rooms.now ≡ map (λ vector. vector.items) c.args.vectors.now =
    put-whole c.args.shard_bytes (map (λ vector. vector.items) c.args.vectors.now) (bytes_in c.args.rooms.now)
    (bytes_in c.put_all.new.rooms.rooms.now) put
    (omega (arith, long, many, c.requires.number)) c.requires.fit in
    search rules
