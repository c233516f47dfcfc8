use Rattle.std.proofs.Common.{◌≡◌, ℕ, ◌*◌, ◌/◌, ◌%◌, ◌^◌, ◌<◌, get_or, ap₂, bit_xor, ◌∙◌, arith}
use Rattle.rs_field.specs.words.Products.{byte_at}
use Rattle.rs_field.proofs.rows_lemmas.Symbols.{byte_of}
use Rattle.rs_engines.proofs.ByBits.{by_bits, byte_by_bits}
use Rattle.rs_engines.proofs.bit_vector.sum_of_bits.Goals.{After-sum}
use Rattle.rs_engines.proofs.bit_vector.sum_of_bits.Goals as goal

-- The sum in a lane, if the four bits of the lane are the bits of n.
of_lane : (c : After-sum) (k0 k1 k2 k3 n i : ℕ) → i < 16
    → c.args.first ≡ 2 ^ k0 → c.args.first * 2 % 256 ≡ 2 ^ k1 → c.args.first * 4 % 256 ≡ 2 ^ k2
    → c.args.first * 8 % 256 ≡ 2 ^ k3
    → get_or c.args.v i 0 / 2 ^ k0 % 2 ≡ n / 2 ^ 0 % 2 → get_or c.args.v i 0 / 2 ^ k1 % 2 ≡ n / 2 ^ 1 % 2
    → get_or c.args.v i 0 / 2 ^ k2 % 2 ≡ n / 2 ^ 2 % 2 → get_or c.args.v i 0 / 2 ^ k3 % 2 ≡ n / 2 ^ 3 % 2
    → get_or c.sum.result i 0
    ≡ by_bits (byte_at c.args.t 1) (byte_at c.args.t 2) (byte_at c.args.t 4) (byte_at c.args.t 8) n
of_lane c k0 k1 k2 k3 n i h e0 e1 e2 e3 d0 d1 d2 d3 =
    c.sum.ensures.lanes i h
    ∙ ap₂ bit_xor
    (c.sum-low.ensures.lanes i h
    ∙ ap₂ bit_xor (c.byte_at_bit.ensures k0 i e0 h ∙ ap₂ (λ x y. x * y) d0 c.byte_from.ensures)
    (c.byte_at_bit-2.ensures k1 i e1 h ∙ ap₂ (λ x y. x * y) d1 c.byte_from-2.ensures))
    (c.sum-high.ensures.lanes i h
    ∙ ap₂ bit_xor (c.byte_at_bit-3.ensures k2 i e2 h ∙ ap₂ (λ x y. x * y) d2 c.byte_from-3.ensures)
    (c.byte_at_bit-4.ensures k3 i e3 h ∙ ap₂ (λ x y. x * y) d3 c.byte_from-4.ensures))

pub returns-clause-low : goal.returns-clause-low
returns-clause-low c additive e i h =
    let n = get_or c.args.v i 0 % 16 in
    of_lane c 0 1 2 3 n i h e (omega arith) (omega arith) (omega arith) (omega arith) (omega arith) (omega arith)
    (omega arith) ∙ byte_by_bits c.args.t additive n (omega arith)

pub returns-clause-high : goal.returns-clause-high
returns-clause-high c additive e i h =
    let small = byte_of c.args.v i c.fits-v.1 in
    let n = get_or c.args.v i 0 / 16 in
    of_lane c 4 5 6 7 n i h e (omega arith) (omega arith) (omega arith) (omega arith) (omega arith) (omega arith)
    (omega arith) ∙ byte_by_bits c.args.t additive n (omega arith)
