use Rattle.std.proofs.Common.{◌≡◌, ℕ, ◌<◌, vec_len}
use Rattle.std.specs.Prelude.{is_some}
use Rattle.rs_field.specs.rows.MarkedRows.{is_marked}
use Rattle.rs_field.specs.code.DirectLaws.{shard_in_row}
use Rattle.reed_solomon_simd.proofs.strip_summer.received_marks.Given as goal

-- The rows before `row` are marked exactly if a shard was received in them.
abbrev pub invariant-loop-row : goal.invariant-loop-row
invariant-loop-row g l =
    record {
      count : vec_len l.marks ≡ l.row_count;
      exact : (x : ℕ) → x < l.row
          → is_marked l.marks.items x ≡ is_some (shard_in_row (g.P.Pieces.received l.received) x);
    }
