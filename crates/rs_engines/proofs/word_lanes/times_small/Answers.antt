use Rattle.std.proofs.Common.{◌≡◌, ℕ, ◌/◌, ◌%◌, ◌^◌, ◌<◌, get_or, refl, ap, sym, ◌∙◌, arith, subst}
use Rattle.std.specs.Int.Bits.{xor_comm, xor_zero_r}
use Rattle.std.proofs.Math.Nat.{zero-div}
use Rattle.rs_field.specs.words.Field.{product}
use Rattle.rs_field.specs.words.Products.{byte_at, AreLowNibbles}
use Rattle.rs_engines.specs.Additive.{HasAdditiveBytes}
use Rattle.rs_engines.proofs.ByBits.{nibble_bytes}
use Rattle.rs_engines.proofs.FourNibbles.{sum_of_nibbles, high_additive}
use Rattle.rs_engines.proofs.WordBytes.{product_word}
use Rattle.rs_engines.proofs.word_lanes.times_small.Goals as goal

zero_byte : (t j : ℕ) → t ≡ 0 → byte_at t j ≡ 0
zero_byte t j e = ap (λ t. byte_at t j) e ∙ ap (λ q. q % 256) (zero-div (256 ^ j))

pub returns : goal.returns
returns g c f i factor are numbers h =
    let l = get_or (g.V.ByteVector.bytes c.args.words.low) i 0 in
    let u = get_or (g.V.ByteVector.bytes c.args.words.high) i 0 in
    let sums : (n : ℕ) → n < 4 → HasAdditiveBytes (get_or factor.hi n 0) =
    λ n hn. nibble_bytes (λ x. product x f / 256) (high_additive f) (get_or factor.hi n 0) n hn
    (λ p. are.hi.high n p hn) in
    let third : HasAdditiveBytes c.args.third = subst HasAdditiveBytes numbers.low_nibbles (sums 2 (omega arith)) in
    let fourth : HasAdditiveBytes c.args.fourth = subst HasAdditiveBytes numbers.high_nibbles (sums 3 (omega arith)) in
    let s = get_or (g.V.ByteVector.bytes c.sum.result) i 0 in
    let high = sum_of_nibbles (λ x. product x f / 256) (high_additive f) l u (c.product_bytes.ensures.small i h)
    (c.at_high_nibbles.ensures.small i h) 0 0 _ _ 0 s s
    (sym (xor_comm 0 s ∙ xor_zero_r s)) (sym (xor_zero_r 0)) (c.sum.ensures.lanes i h)
    (sym (zero_byte _ (l % 16) numbers.no_low_nibbles) ∙ are.hi.high 0 (l % 16) (omega arith) (omega arith))
    (sym (zero_byte _ (l / 16) numbers.no_high_nibbles) ∙ are.hi.high 1 (l / 16) (omega arith) (omega arith))
    (c.at_low_nibbles.ensures third i h ∙ ap (λ t. byte_at t (u % 16)) (sym numbers.low_nibbles)
    ∙ are.hi.high 2 (u % 16) (omega arith) (omega arith))
    (c.at_high_nibbles.ensures.lanes fourth i h ∙ ap (λ t. byte_at t (u / 16)) (sym numbers.high_nibbles)
    ∙ are.hi.high 3 (u / 16) (omega arith) (omega arith)) in
    product_word _ _ _ _ f
    (c.product_bytes.ensures.low f i (subst (AreLowNibbles f) numbers.low_bytes are.lo) h) high refl
