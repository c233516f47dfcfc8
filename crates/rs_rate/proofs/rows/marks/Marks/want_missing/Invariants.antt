use Rattle.std.proofs.Common.{◌≡◌, ℕ, ◌<◌, ◌≤◌, ◌⊎◌, false, vec_len}
use Rattle.std.specs.Prelude.{not}
use Rattle.std.specs.Vec.{vec_capacity}
use Rattle.rs_field.specs.rows.MarkedRows.{is_marked}
use Rattle.rs_rate.specs.rows.Marks.{given_marks}
use Rattle.rs_field.specs.code.Frame.{original_row}
use Rattle.rs_rate.proofs.rows.marks.Marks.want_missing.Given as goal

abbrev pub invariant-loop-row : goal.invariant-loop-row
invariant-loop-row l = record {
  length : vec_len l.self.rows ≡ vec_len l.initial.self.rows;
  room : vec_capacity l.self.rows ≡ vec_capacity l.initial.self.rows;
  shards : l.self.shards ≡ l.initial.self.shards;
  missing : (p : ℕ) → p < l.row → l.configuration.frame.originals_from ≤ p
      → p < original_row l.configuration.frame l.configuration.original_count
      → is_marked l.self.rows.items p ≡ not (is_marked (given_marks l.initial.self) p);
  others : (p : ℕ) → p < l.row → (p < l.configuration.frame.originals_from)
      ⊎ (original_row l.configuration.frame l.configuration.original_count ≤ p) → is_marked l.self.rows.items p ≡ false;
  left : (p : ℕ) → l.row ≤ p → is_marked l.self.rows.items p ≡ is_marked l.initial.self.rows.items p;
}
