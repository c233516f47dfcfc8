use Rattle.std.proofs.Common.{◌≡◌, ◌*◌, ◌/◌, ◌%◌, ◌^◌, get_or, bit_and, bit_xor, sym, ap, ap₂, ◌∙◌, arith}
use Rattle.std.specs.Int.Bits.{xor_comm, xor_shifted}
use Rattle.std.proofs.lemmas.Nat.{and_mask}
use Rattle.rs_field.specs.words.Field.{product, generator}
use Rattle.rs_field.proofs.words_lemmas.Product.{product_xor_left}
use Rattle.rs_field.proofs.words.powers.product_by_bytes.Goals as goal

pub returns : goal.returns
returns c =
    let z = c.args.z in
    let low : get_or c.args.low.now (bit_and z 255) 0 ≡ product (z % 256) generator =
    ap (λ i. get_or c.args.low.now i 0) (and_mask z 8) ∙ c.requires.low (z % 256) (omega arith) in
    let high : get_or c.args.high.now (z / 256) 0 ≡ product (256 * (z / 256)) generator =
    c.requires.high (z / 256) (omega arith) in
    let whole : bit_xor (z % 256) (256 * (z / 256)) ≡ z =
    ap (bit_xor (z % 256)) (omega arith) ∙ xor_comm (z % 256) (z / 256 * 2 ^ 8)
    ∙ xor_shifted (z / 256) 8 (z % 256) (omega arith) ∙ omega arith in
    ap₂ bit_xor low high ∙ sym (product_xor_left (z % 256) (256 * (z / 256)) generator)
    ∙ ap (λ w. product w generator) whole
