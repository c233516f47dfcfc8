use Rattle.std.proofs.Common.{◌≡◌, ℕ, ◌<◌, ◌↔◌, slice_index}
use Rattle.rs_field.proofs.rows.layout.are_zero_bytes.Given as goal

abbrev pub invariant-loop-byte : goal.invariant-loop-byte
invariant-loop-byte l = (l.bits ≡ 0) ↔ ((i : ℕ) → i < l.byte-index → slice_index l.bytes i ≡ 0)
