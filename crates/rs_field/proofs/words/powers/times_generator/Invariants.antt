use Rattle.std.proofs.Common.{◌≡◌, bit_xor, drop}
use Rattle.rs_field.specs.words.Field.{combine}
use Rattle.rs_field.proofs.words.powers.times_generator.Given as goal

abbrev pub invariant-loop-entry : goal.invariant-loop-entry
invariant-loop-entry l =
    bit_xor l.out (combine (drop l.entry-index l.entry-items) l.rest) ≡ combine l.entry-items l.fn.z
