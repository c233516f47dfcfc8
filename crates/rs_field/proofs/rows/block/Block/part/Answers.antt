use Rattle.std.proofs.Common.{arith}
use Rattle.rs_field.proofs.code_lemmas.NextPower.{power_is_own}
use Rattle.rs_field.proofs.rows_lemmas.Parts.{part_aligned, part_found, part_within}
use Rattle.rs_field.proofs.rows.block.Block.part.Goals as goal

pub invariant_of-result : goal.invariant_of-result
invariant_of-result c =
    let self = c.args.self in
    let part = part_found self c.requires.rows c.requires.large in
    let inside = part_within c.args.j part c.requires.begins in
    let points = self.points in
    record {
      power = power_is_own c.args.rows part.power.0 part.power.1 (omega arith);
      points = omega arith;
      aligned = part_aligned self.skew_delta c.args.j part self.aligned;
    }
