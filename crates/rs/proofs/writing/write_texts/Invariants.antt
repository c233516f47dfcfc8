use Rattle.std.proofs.Common.{flat_map, take}
use Rattle.std.specs.Io.KnownBytes.{Appends}
use Rattle.std.specs.String.{string_bytes}
use Rattle.rs.proofs.writing.write_texts.Given as goal

-- All texts before the current one are written.
abbrev pub invariant-loop-text : goal.invariant-loop-text
invariant-loop-text g l =
    Appends (g.W.Write.contents l.initial.stream.writer) (g.W.Write.contents l.stream.writer)
    (flat_map string_bytes (take l.text-index l.texts))
