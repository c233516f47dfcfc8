use Rattle.std.specs.Io.KnownBytes.{Keeps}
use Rattle.rs.proofs.stream.write_uninterrupted.Given as goal

-- Interrupted writes change nothing.
abbrev pub invariant-loop : goal.invariant-loop
invariant-loop g l = Keeps (g.W.Write.contents l.initial.writer) (g.W.Write.contents l.writer)
