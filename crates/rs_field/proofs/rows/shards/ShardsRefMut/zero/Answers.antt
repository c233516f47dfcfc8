use Rattle.std.proofs.Common.{◌+◌, ◌*◌, arith}
use Rattle.std.proofs.Math.Nat.{mul-le-mul_right}
use Rattle.rs_field.specs.rows.View.{cell}
use Rattle.rs_field.proofs.rows_lemmas.RowOffsets.{row_ends}
use Rattle.rs_field.proofs.rows.shards.ShardsRefMut.zero.Goals as goal

pub returns-clause-zeros : goal.returns-clause-zeros
unfolding cell
returns-clause-zeros c i k q low high =
    let n = c.args.self.now.shard_len_64 in
    let from = mul-le-mul_right n low in
    let to = row_ends i c.args.range.end n high in
    c.loop-k.invariant.zeros (i * n + k) (omega arith) (omega arith)
