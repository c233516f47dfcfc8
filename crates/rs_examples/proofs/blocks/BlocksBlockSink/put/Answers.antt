use Rattle.std.proofs.Common.{◌≡◌, ◌++◌, ◌<◌, ℕ, [], List, Some, length, ap, ◌∙◌, arith}
use Rattle.std.proofs.lemmas.Grind.{common_steps}
use Rattle.std.proofs.lemmas.List.{map-set, get_or-map, length-map}
use Rattle.std.proofs.lemmas.Option.{slice_get_within, get_or_from_slice_get}
use Rattle.std.specs.Global.{Vec}
use Rattle.reed_solomon_simd.specs.Column.{Shard}
use Rattle.rs_examples.specs.Blocks.{contents, blocks_in}
use Rattle.rs_examples.proofs.BlocksBack.{in_other, in_own}
use Rattle.rs_examples.proofs.blocks.BlocksBlockSink.put.Goals as goal

pub returns-in_err-extend_from_slice-clause-others : goal.returns-in_err-extend_from_slice-clause-others
returns-in_err-extend_from_slice-clause-others c i other =
    ap (λ (xs : List Shard). blocks_in xs i)
    (map-set (λ (b : Vec ℕ). b.items) c.args.self.now.blocks.items c.args.index c.extend_from_slice.new.self)
    ∙ in_other (contents c.args.self.now) c.args.index c.extend_from_slice.new.self.items i other

pub returns-clause-here : goal.returns-clause-here
returns-clause-here c before is long =
    let vs : List (Vec ℕ) = c.args.self.now.blocks.items in
    let inside : c.args.index < length (contents c.args.self.now) =
    slice_get_within (contents c.args.self.now) c.args.index before is in
    let n = length-map vs (λ (b : Vec ℕ). b.items) in
    let own = get_or_from_slice_get (contents c.args.self.now) c.args.index before [] is in
    let at = get_or-map (λ (b : Vec ℕ). b.items) vs c.args.index c.index_mut.result.now [] (omega (arith, inside, n)) in
    let same : c.extend_from_slice.new.self.items ≡ before ++ c.args.piece.now = grind (arith, common_steps, own, at) in
    ap (λ (xs : List Shard). blocks_in xs c.args.index)
    (map-set (λ (b : Vec ℕ). b.items) vs c.args.index c.extend_from_slice.new.self)
    ∙ in_own (contents c.args.self.now) c.args.index c.extend_from_slice.new.self.items inside
    ∙ ap Some same

pub returns-clause-others : goal.returns-clause-others
returns-clause-others c i other =
    ap (λ (xs : List Shard). blocks_in xs i)
    (map-set (λ (b : Vec ℕ). b.items) c.args.self.now.blocks.items c.args.index c.extend_from_slice.new.self)
    ∙ in_other (contents c.args.self.now) c.args.index c.extend_from_slice.new.self.items i other
