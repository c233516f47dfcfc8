use Rattle.std.proofs.Common.{◌≡◌, ℕ, ◌<◌, replicate}
use Rattle.rs_field.specs.rows.Rows.{chunk}
use Rattle.rs_field.proofs.rows.adding.clear.Given as goal

abbrev pub invariant-loop-chunk : goal.invariant-loop-chunk
invariant-loop-chunk l = (k : ℕ) → k < l.chunk-index → chunk l.x k ≡ replicate 64 0
