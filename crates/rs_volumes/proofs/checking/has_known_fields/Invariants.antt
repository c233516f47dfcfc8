use Rattle.std.proofs.Common.{◌≡◌, drop}
use Rattle.rs_volumes.specs.Description.{fields_of}
use Rattle.rs_volumes.specs.Sound.{known_fields}
use Rattle.rs_volumes.proofs.checking.has_known_fields.Given as goal

abbrev pub invariant-loop-field : goal.invariant-loop-field
invariant-loop-field l = known_fields (fields_of l.fields) ≡ known_fields (fields_of (drop l.field-index l.fields))
