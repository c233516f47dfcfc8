use Rattle.std.proofs.Common.{◌≡◌, ℕ, ◌<◌, ◌≤◌, false, vec_len}
use Rattle.rs_field.specs.rows.MarkedRows.{is_marked}
use Rattle.reed_solomon_simd.proofs.strip_syndromes.widened.Given as goal

-- The marks of the rows below the index are copied, and no other row is marked.
abbrev pub invariant-loop-row : goal.invariant-loop-row
invariant-loop-row l = record {
  count : vec_len l.all ≡ l.count;
  same : (x : ℕ) → x < l.row → is_marked l.all.items x ≡ is_marked l.marks x;
  rest : (x : ℕ) → l.row ≤ x → is_marked l.all.items x ≡ false;
}
