use Rattle.std.proofs.Common.{◌≡◌, ℕ, ◌+◌, ◌*◌, ◌/◌, ◌%◌, ◌<◌, length, bit_xor}
use Rattle.std.specs.Prelude.{slice_index}
use Rattle.rs_field.specs.rows.Rows.{chunk, symbol}
use Rattle.rs_field.specs.rows.Written.{held}
use Rattle.rs_field.specs.words.Transform.{sum_below}
use Rattle.rs_rate.proofs.passes_lemmas.SumLemmas.{base_term}
use Rattle.rs_rate.proofs.passes.base_sums.write_tail.Given as goal

-- The terms of the rows before this one were added.
abbrev pub invariant-loop-index : goal.invariant-loop-index
invariant-loop-index g l =
    let sums = l.sum.sums.now in
    record {
      room : length l.row ≡ 1;
      added : (j : ℕ) → j < sums.piece_len % 64 / 2
          → symbol (chunk l.row 0) j
          ≡ bit_xor (held l.fn.writing (symbol (chunk l.fn.row 0) j))
          (sum_below l.index (λ i. base_term sums.base.now
          (g.P.BasePieces.word sums.pieces.now (32 * (sums.piece_len / 64) + j))
          (slice_index sums.rows.now l.sum.index) (slice_index sums.base.now.rows.now i)));
    }
