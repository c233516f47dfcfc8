use Rattle.std.proofs.Common.{◌≡◌, ◌∙◌, sym, length, arith}
use Rattle.std.specs.Prelude.{map}
use Rattle.std.proofs.lemmas.List.{length-map}
use Rattle.rs_volumes.specs.Hashing.{emptied}
use Rattle.rs_volumes.proofs.Hashes.{absorbed, length-emptied}
use Rattle.rs_volumes.proofs.hashing.absorb.Goals as goal

pub returns-clause-hashed : goal.returns-clause-hashed
returns-clause-hashed c blocks is =
    let held = c.loop-index.invariant in
    let count : length (emptied c.args.marks.now (map (λ p. p.items) c.args.pieces.now)) ≡ length c.args.pieces.now =
    length-emptied c.args.marks.now (map (λ p. p.items) c.args.pieces.now) ∙ length-map c.args.pieces.now _ in
    absorbed (emptied c.args.marks.now (map (λ p. p.items) c.args.pieces.now))
    (c.requires ∙ sym count) (held.number ∙ sym count)
    (λ i d m h. held.done i d m
    (let at : c.loop-index.index ≡ length c.args.pieces.now = omega arith in omega (arith, count))) is
