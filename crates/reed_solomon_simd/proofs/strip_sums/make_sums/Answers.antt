use Rattle.std.proofs.Common.{ℕ, ◌*◌, length, ap, ◌∙◌, arith}
use Rattle.std.specs.Int.Bits.{xor_zero_l}
use Rattle.std.specs.Prelude.{slice_index}
use Rattle.rs_field.specs.rows.Written.{held}
use Rattle.rs_rate.specs.passes.BaseSum.{base_sum}
use Rattle.reed_solomon_simd.proofs.strip_sums.make_sums.Goals as goal

pub finish_sums-requires-clause-room : goal.finish_sums-requires-clause-room
finish_sums-requires-clause-room g c =
    let apart = ap (λ m. length c.args.sums.now.rows.now * m) c.sum_stride-stride.ensures in
    omega (arith, apart, c.requires, c.write_base_sums.ensures.length)

pub returns : goal.returns
unfolding held
returns g c d few =
    let sums = c.args.sums.now in
    let f : ℕ → ℕ → ℕ = g.B.BasePieces.word sums.pieces.now in
    record {
      is_shard = rw c.sum_stride-stride.ensures at (c.finish_sums.ensures.bytes d few);
      words = λ j inside.
          rw c.sum_stride-stride.ensures at
          (c.finish_sums.ensures.words d j few inside
          ∙ c.write_base_sums.ensures.words d j few inside
          ∙ xor_zero_l (base_sum sums.base.now (f j) (slice_index sums.rows.now d)));
    }
