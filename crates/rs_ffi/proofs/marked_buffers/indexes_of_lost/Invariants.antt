use Rattle.std.proofs.Common.{◌≡◌, ◌++◌, drop}
use Rattle.rs_ffi.specs.Buffers.{lost_indexes}
use Rattle.rs_ffi.proofs.marked_buffers.indexes_of_lost.Given as goal

-- The lost indexes that were found so far, and then the lost indexes of the remaining marks, are all lost indexes.
abbrev pub invariant-loop-index : goal.invariant-loop-index
invariant-loop-index l = l.lost.items ++ lost_indexes l.index (drop l.index l.marks) ≡ lost_indexes 0 l.marks
