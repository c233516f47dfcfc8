use Rattle.std.proofs.Common.{◌≡◌, ◌≤◌, length, take}
use Rattle.std.specs.Io.KnownBytes.{Appends}
use Rattle.rs.proofs.writing.write_text.Given as goal

-- The first bytes are written, at least as many as there were writes.
abbrev pub invariant-loop : goal.invariant-loop
invariant-loop g l = record {
  all : l.end ≡ length l.bytes;
  within : l.written ≤ length l.bytes;
  enough : l.counter ≤ l.written;
  written : Appends (g.W.Write.contents l.initial.stream.writer) (g.W.Write.contents l.stream.writer)
      (take l.written l.bytes);
}
