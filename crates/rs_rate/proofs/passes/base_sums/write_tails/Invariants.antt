use Rattle.std.proofs.Common.{◌≡◌, ℕ, ◌+◌, ◌*◌, ◌/◌, ◌%◌, ◌<◌, ◌≤◌, length, bit_xor}
use Rattle.std.specs.Prelude.{slice_index}
use Rattle.rs_field.specs.rows.Rows.{chunk, word_in}
use Rattle.rs_field.specs.rows.Written.{held}
use Rattle.rs_rate.specs.passes.BaseSum.{base_sum}
use Rattle.rs_rate.proofs.passes.base_sums.write_tails.Given as goal

-- The tails of the sums before this one were written, and nothing else.
abbrev pub invariant-loop-index : goal.invariant-loop-index
invariant-loop-index g l =
    let n : ℕ = l.fn.sums.piece_len / 64 in
    record {
      room : length l.x ≡ length l.initial.x;
      done : (d j : ℕ) → d < l.index → j < l.fn.sums.piece_len % 64 / 2
          → word_in l.x l.fn.stride n j d
          ≡ bit_xor (held l.fn.writing (word_in l.initial.x l.fn.stride n j d))
          (base_sum l.fn.sums.base.now (g.P.BasePieces.word l.fn.sums.pieces.now (32 * n + j))
          (slice_index l.fn.sums.rows.now d));
      kept : (d k : ℕ) → d < l.index → k < n
          → chunk l.x (d * l.fn.stride + k) ≡ chunk l.initial.x (d * l.fn.stride + k);
      rest : (j : ℕ) → l.index * l.fn.stride ≤ j → chunk l.x j ≡ chunk l.initial.x j;
    }
