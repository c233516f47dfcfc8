use Rattle.std.proofs.Common.{◌≡◌, ℕ, ◌<◌, bit_xor}
use Rattle.std.specs.Prelude.{slice_index}
use Rattle.reed_solomon_simd.proofs.updating.put_change.Given as goal

-- The bytes before the index are written.
abbrev pub invariant-loop-i : goal.invariant-loop-i
invariant-loop-i l =
    (k : ℕ) → k < l.i → slice_index l.change k ≡ bit_xor (slice_index l.old k) (slice_index l.new k)
