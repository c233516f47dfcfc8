use Rattle.std.proofs.Common.{◌≡◌, ℕ, zero, suc, ◌<◌, ◌+◌, ◌*◌, ◌/◌, ◌%◌, ◌^◌, get_or, sym, ap, ◌∙◌, arith, pow-suc}
use Rattle.std.proofs.Common.{mul_comm}
use Rattle.std.proofs.lemmas.Nat.{and_mask}
use Rattle.std.proofs.Math.Nat.{div-div-eq-div-mul}
use lib.Bits.{bit_and}
use lib.Lanes.{digits_l}
use Rattle.rs_engines.proofs.byte_vector.table.Goals as goal

digit_at : (n x i : ℕ) → i < n → get_or (digits_l 256 n x) i 0 ≡ x / 256 ^ i % 256
digit_at zero x i h = absurd (omega arith)
digit_at (suc n) x zero h = let e : x % 256 ≡ x / 1 % 256 = omega arith in e
digit_at (suc n) x (suc i) h =
    digit_at n (x / 256) i (omega arith)
    ∙ ap (λ y. y % 256) (div-div-eq-div-mul x 256 (256 ^ i)
    ∙ ap (λ p. x / p) (mul_comm 256 (256 ^ i) ∙ sym (pow-suc 256 i)))

pub returns : goal.returns
returns c i h =
    let t = c.args.t in
    let low = and_mask t 64 in
    let x : ℕ = bit_and t 18446744073709551615 + 18446744073709551616 * (t / 18446744073709551616 + 0) in
    let whole : x ≡ t = omega (arith, c.ranges.t.fits) in
    digit_at 16 x i h ∙ ap (λ x. x / 256 ^ i % 256) whole
