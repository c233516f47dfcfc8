use Rattle.std.proofs.Common.{rules, ℕ, ◌≤◌, length, arith}
use Rattle.std.proofs.Math.Nat.{mul-le-mul}
use Rattle.std.specs.Prelude.{max, min}
use Rattle.rs_field.specs.rows.Layout.{row_len}
use Rattle.reed_solomon_simd.specs.StripSums.{sum_stride, chunks_of_sums}
use Rattle.reed_solomon_simd.proofs.strip_summer.sum_strips.Goals as goal

-- Four sums over a whole strip fit into the largest array.
all-fit : (n size : ℕ) → chunks_of_sums n (min 4096 size) ≤ 272
all-fit n size =
    let count : max 1 (min 4 n) ≤ 4 = search rules in
    let strip : min 4096 size ≤ 4096 = search rules in
    let width : row_len (min 4096 size) ≤ 64 = omega (arith, strip) in
    let stride : sum_stride (min 4096 size) ≤ 68 = omega (arith, width) in
    mul-le-mul count stride

pub sum_in-requires-in_default-clause-ready : goal.sum_in-requires-in_default-clause-ready
sum_in-requires-in_default-clause-ready g c = record {
  based = c.requires.based;
  surplus_is = c.requires.surplus;
  enough = all-fit (length c.args.wanted.now) (g.S.Pieces.received c.args.store.now).configuration.shard_bytes;
}
