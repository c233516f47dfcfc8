use Rattle.std.proofs.Common.{rules, inl, map, ap, ◌∙◌}
use Rattle.std.proofs.lemmas.Iterator.{YieldsList-from_slice, YieldsList-from_map_by}
use Rattle.std.proofs.lemmas.List.{take_all}
use Rattle.std.proofs.lemmas.Result.{err_from_is_err_and}
use Rattle.rs.specs.Printed.{lines_of}
use Rattle.rs.proofs.coding.recovery_lines.Goals as goal

pub returns-in_err-recovery : goal.returns-in_err-recovery
returns-in_err-recovery c =
    let shards = YieldsList-from_map_by _ (λ shard. shard.now) (λ v. v.items)
    (YieldsList-from_slice c.args.original.now cc) c.map-shards.ensures.closure (λ x r q k. search rules) in
    let exit = err_from_is_err_and c.from_residual.result c.from_residual.ensures.1 in
    rw (exit.1, exit.2) (inl (c.in_err-recovery.ensures.answer (map (λ v. v.items) c.args.original.now) shards.runs))

pub returns : goal.returns
returns c =
    let shards = YieldsList-from_map_by _ (λ shard. shard.now) (λ v. v.items)
    (YieldsList-from_slice c.args.original.now cc) c.map-shards.ensures.closure (λ x r q k. search rules) in (
      map (λ v. v.items) c.in_ok-recovery.recovery.items,
      c.in_ok-recovery.ensures.answer (map (λ v. v.items) c.args.original.now) shards.runs,
      c.loop-shard.invariant
          ∙ ap (λ vectors. lines_of (map (λ v. v.items) vectors))
          (take_all c.loop-shard.shard-index _ c.loop-shard-test.false ∙ c.deref-shard-items.ensures.value),
    )
