use Rattle.std.proofs.Common.{◌≡◌, refl}
use Rattle.std.specs.Int.Bits.{xor_comm, xor_assoc, xor_self, xor_zero_r, xor_lt}
use Rattle.rs_field.specs.words.Field.{bits, combine, cantor_basis, generator}
use Rattle.rs_field.proofs.words_lemmas.Product.{product_lt, product_comm as turned, product_assoc as grouped}
use Rattle.rs_field.proofs.words_lemmas.Product.{product_one as by_one, product_xor_right, bits-product, bits_injective}
use Rattle.rs_field.proofs.words_lemmas.Inverse.{inverse as inverse_of, inverse_lt, product_inverse}
use Rattle.rs_field.proofs.words_lemmas.Power.{log_lt, power-log, power_injective, power_pos, power_lt, power_turn}
use Rattle.rs_field.proofs.code.laws.field_laws.Goals as goal

generator-bits : bits generator ≡ 2
unfolding bits combine cantor_basis generator
generator-bits = refl

pub returns : goal.returns
returns c = record {
  field = record {
    sum_word = λ x y hx hy. xor_lt 16 x y hx hy;
    sum_comm = xor_comm;
    sum_assoc = xor_assoc;
    sum_zero = xor_zero_r;
    sum_self = xor_self;
    product_word = product_lt;
    product_comm = turned;
    product_assoc = grouped;
    product_one = by_one;
    distributive = product_xor_right;
    inverse = λ x pos hx. (inverse_of x, inverse_lt x, product_inverse x pos hx);
  };
  product = record {
    bits_of = bits-product;
    only = λ x y z hx hy hz e. bits_injective z _ hz (product_lt x y) e;
  };
  generated = record {
    generator_bits = generator-bits;
    each = λ z pos hz. (log_lt z pos hz, power-log z pos hz);
    once = power_injective;
    nonzero = λ n. (power_pos n, power_lt n);
    turn = power_turn;
  };
}
