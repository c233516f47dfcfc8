use Rattle.std.proofs.Common.{◌≡◌, ◌+◌, ◌^◌, drop, length}
use Rattle.std.specs.List.{flat_map}
use Rattle.rs_volumes.specs.Description.{fields_of, field_spelling}
use Rattle.rs_volumes.proofs.checking.has_short_fields.Given as goal

abbrev pub invariant-loop-field : goal.invariant-loop-field
invariant-loop-field l = length (flat_map field_spelling (fields_of l.fields)) + (l.left + 1)
    ≡ length (flat_map field_spelling (fields_of (drop l.field-index l.fields))) + 2 ^ 32
