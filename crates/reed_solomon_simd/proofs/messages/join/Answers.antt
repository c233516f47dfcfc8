use Rattle.std.proofs.lemmas.Grind.{common_steps}
use Rattle.std.proofs.Common.{rules, ◌≡◌, sym, map, length, inl, arith}
use Rattle.std.proofs.lemmas.List.{length-map, take_all}
use Rattle.reed_solomon_simd.proofs.MessageLemmas.{found-sized, joined-few, joined-enough, joined-lacks, taken-next}
use Rattle.reed_solomon_simd.proofs.messages.join.Goals as goal

pub div_ceil-original_count-requires : goal.div_ceil-original_count-requires
div_ceil-original_count-requires g c =
    (found-sized (map g.T.AsSlice.items c.args.shards.now) c.in_ok-size.size (sym c.in_ok-size.ensures)).0

pub returns-then-shards-original_count : goal.returns-then-shards-original_count
returns-then-shards-original_count g c =
    let shards = map g.T.AsSlice.items c.args.shards.now in
    let long : length (map g.T.AsSlice.items c.args.shards.now) ≡ length c.args.shards.now =
    length-map c.args.shards.now g.T.AsSlice.items in
    let outcome = joined-few (map g.T.AsSlice.items c.args.shards.now) c.args.total c.in_ok-size.size
    (sym c.in_ok-size.ensures) c.div_ceil-original_count.result c.div_ceil-original_count.ensures
    (omega (arith, long, c.if-shards-original_count.true)) in
    inl (sym (rw long at outcome))

pub returns-in_err-message : goal.returns-in_err-message
returns-in_err-message g c = search (rules, length-map, joined-lacks)

pub returns-in_err-extend_from_slice : goal.returns-in_err-extend_from_slice
returns-in_err-extend_from_slice g c = search (rules, length-map, joined-lacks)

pub loop-shard-preserved : goal.loop-shard-preserved
loop-shard-preserved g c = grind (arith, common_steps, taken-next)

pub returns : goal.returns
returns g c = search (rules, length-map, joined-enough, take_all)
