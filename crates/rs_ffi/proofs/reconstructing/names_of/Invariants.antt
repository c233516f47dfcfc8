use Rattle.std.proofs.Common.{◌≡◌, take}
use Rattle.rs_ffi.specs.Arrays.{wanted_of}
use Rattle.rs_ffi.proofs.reconstructing.names_of.Given as goal

-- The names of the entries before the index are listed.
abbrev pub invariant-loop-i : goal.invariant-loop-i
invariant-loop-i l = l.names.items ≡ wanted_of (take l.i l.wanted)
