use Rattle.std.proofs.Common.{◌≡◌, ℕ, ◌-◌, length, arith}
use Rattle.std.specs.Global.{Vec}
use Rattle.std.proofs.lemmas.List.{length-map}
use Rattle.std.proofs.lemmas.List.Elements.{All-map}
use Rattle.rs_field.specs.code.Column.{Shard}
use Rattle.rs_volumes.proofs.creating.read_pieces.Goals as goal

pub returns-clause-are : goal.returns-clause-are
returns-clause-are g c =
    let held = c.loop-index.invariant in
    let vectors = c.loop-index.pieces.items in
    let number = length-map vectors (λ (p : Vec ℕ). p.items) in
    record {
      number = omega (arith, number, held.number, c.loop-index-test.false, c.loop-index.auto.index-end);
      sized = All-map (λ (p : Shard). length p ≡ c.args.end - c.args.start) (λ (p : Vec ℕ). p.items) vectors
          (λ i d h. held.sized i d (omega (arith, h, held.number)));
      bytes = λ i block lt is. held.bytes i block (omega (arith, lt, c.loop-index-test.false)) is;
    }
