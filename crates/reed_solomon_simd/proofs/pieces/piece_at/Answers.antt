use Rattle.std.proofs.Common.{rules, ◌≡◌, Some}
use Rattle.reed_solomon_simd.specs.Received.{given_in}
use Rattle.reed_solomon_simd.proofs.pieces.piece_at.Goals as goal

pub piece_of-requires-clause-inside : goal.piece_of-requires-clause-inside
piece_of-requires-clause-inside c =
    let found : given_in c.args.places.now c.args.index ≡ Some c.in_ok-shard.shard.now = search rules in
    c.requires.inside c.args.index c.in_ok-shard.shard.now found
