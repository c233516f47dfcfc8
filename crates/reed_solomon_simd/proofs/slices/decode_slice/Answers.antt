use Rattle.std.proofs.Common.{rules}
use Rattle.std.proofs.lemmas.Iterator.{YieldsList-from_slice, YieldsList-from_map_by}
use Rattle.rs_field.proofs.code_lemmas.OnlyMessage.{restores_only}
use Rattle.reed_solomon_simd.proofs.slices.decode_slice.Goals as goal

pub returns : goal.returns
returns g c =
    let originals =
    YieldsList-from_map_by _ (λ item. (item.0, item.1.now)) (λ item. (item.0, g.O.AsSlice.items item.1))
    (YieldsList-from_slice c.args.original.now cc) c.map.ensures.closure (λ x r q k. search rules)
    in
    let recoveries =
    YieldsList-from_map_by _ (λ item. (item.0, item.1.now)) (λ item. (item.0, g.R.AsSlice.items item.1))
    (YieldsList-from_slice c.args.recovery.now cc) c.map-2.ensures.closure (λ x r q k. search rules)
    in
    let answers = c.decode.ensures.answer _ _ originals.runs recoveries.runs in
    record {
      restored = restores_only c.args.original_count c.args.recovery_count _ _ _ answers;
      answer = answers;
    }
