use Rattle.std.proofs.Common.{◌≡◌, ℕ, ◌<◌, vec_len}
use Rattle.std.specs.Prelude.{slice_index}
use Rattle.rs_field.specs.code.Frame.{recovery_row}
use Rattle.rs_field.specs.words.DirectSum.{direct_factor}
use Rattle.rs_rate.proofs.passes.changes.recovery_factors.Given as goal

abbrev pub invariant-loop-i : goal.invariant-loop-i
invariant-loop-i l = record {
  count : vec_len l.factors ≡ l.i;
  made : (j : ℕ) → j < l.i
      → slice_index l.factors.items j
      ≡ direct_factor (λ z. slice_index l.base.locator.items z) l.x (recovery_row l.counts.frame j);
}
