use Rattle.std.proofs.Common.{rules, ◌≡◌, ℕ, bit_xor, ap, sym, refl, ◌∙◌}
use Rattle.rs_field.specs.words.Field.{product, power}
use Rattle.rs_field.specs.words.Tables.{times_factor}
use Rattle.rs_engines.specs.Lanes.{lane}
use Rattle.rs_engines.specs.SmallNumbers.{of_four_numbers}
use Rattle.rs_engines.proofs.factors.BytewiseFactor.add_product.Goals as goal

pub returns : goal.returns
returns g c i h =
    let log_m : ℕ = c.args.self.log_m in
    let factor : (w : ℕ) → times_factor c.args.self.log_m w ≡ product w (power c.args.self.log_m) = search rules in
    c.add.ensures i h
    ∙ ap (bit_xor (lane (g.V.ByteVector.bytes c.args.x.low) (g.V.ByteVector.bytes c.args.x.high) i))
    (c.times_small.ensures (power log_m) i (of_four_numbers c.args.self.numbers) c.args.self.of_factor
    (record {
      no_low_nibbles = refl;
      no_high_nibbles = refl;
      low_bytes = refl;
      low_nibbles = refl;
      high_nibbles = refl;
    }) h ∙ sym (factor (lane (g.V.ByteVector.bytes c.args.y.low) (g.V.ByteVector.bytes c.args.y.high) i)))
