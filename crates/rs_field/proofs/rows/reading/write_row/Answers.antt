use Rattle.std.proofs.Common.{◌≡◌, bit_xor, sym, ap, subst, ◌∙◌}
use Rattle.std.specs.Int.Bits.{xor_zero_l}
use Rattle.rs_field.specs.declared.rows.reading.Writing.{Writing}
use Rattle.rs_field.specs.rows.Rows.{chunk, symbol}
use Rattle.rs_field.specs.rows.Written.{held}
use Rattle.rs_field.proofs.rows.reading.write_row.Goals as goal

pub returns-in-Replacing : goal.returns-in-Replacing
unfolding held
returns-in-Replacing c k s inside symbols =
    subst (λ (w : Writing). symbol (chunk c.copy_from_slice.new.self k) s
    ≡ bit_xor (held w (symbol (chunk c.args.x.now k) s)) (symbol (chunk c.args.y.now k) s)) (sym c.in-Replacing.is)
    (ap (λ xs. symbol (chunk xs k) s) c.copy_from_slice.ensures.after ∙ sym (xor_zero_l _))

pub returns-in-Adding : goal.returns-in-Adding
unfolding held
returns-in-Adding c k s inside symbols =
    subst (λ (w : Writing). symbol (chunk c.xor.new.xs k) s
    ≡ bit_xor (held w (symbol (chunk c.args.x.now k) s)) (symbol (chunk c.args.y.now k) s)) (sym c.in-Adding.is)
    (c.xor.ensures.symbols k s inside symbols)
