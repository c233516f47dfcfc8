use Rattle.std.proofs.Common.{◌≡◌, take}
use Rattle.std.specs.List.{flat_map}
use Rattle.rs_volumes.specs.Description.{field_spelling, fields_of}
use Rattle.rs_volumes.proofs.writing.bytes_of.Given as goal

abbrev pub invariant-loop-field : goal.invariant-loop-field
invariant-loop-field l = l.out.items ≡ flat_map field_spelling (fields_of (take l.field-index l.fields))
