use Rattle.std.proofs.Common.{rules, ◌≡◌, ℕ, ◌^◌, ◌<◌, arith, inl, inr, pow_mono}
use Rattle.std.specs.Int.{w64}
use Rattle.std.specs.Int.Count.{count_trailing_zeros}
use Rattle.std.proofs.lemmas.Bool.{cases_eq}
use Rattle.std.proofs.lemmas.Nat.{pow_pos}
use Rattle.std.proofs.lemmas.Nat.Bits.{bit_at-trailing_zeros, bit_at-pow_other}
use Rattle.rs_field.proofs.code_lemmas.NextPower.{exponent-small, next_power-exponent}
use Rattle.rs_rate.proofs.values.frames.exponent_of.Goals as goal

-- The number of trailing zeros of a power of two is its exponent.
zeros_of_power : (d : ℕ) → 2 ^ d < 2 ^ 64 → count_trailing_zeros 64 (2 ^ d) ≡ d
zeros_of_power d fits =
    let (_, one, _) = bit_at-trailing_zeros w64 (2 ^ d) (pow_pos d) fits in
    elim (cases_eq (count_trailing_zeros 64 (2 ^ d)) d) [
      | inl same ↦ same
      | inr apart ↦
          let none = bit_at-pow_other d (count_trailing_zeros 64 (2 ^ d)) apart in absurd (omega (arith, one, none))
    ]

pub returns : goal.returns
returns c = search (rules, exponent-small, pow_mono, next_power-exponent, zeros_of_power)
