-- The ranges of counts that the default rate supports.
use Rattle.std.proofs.Common.{rules, ◌≡◌, ℕ, ◌+◌, ◌^◌, ◌<◌, ◌≤◌, ◌⊎◌, true, min, max, inl, inr, arith, pow_mono}
use Rattle.std.proofs.lemmas.Bool.{cases_lt}
use Rattle.std.proofs.lemmas.Grind.{common_steps}
use Rattle.rs_field.specs.code.Counts.{default_rate, next_power, supports}
use Rattle.rs_field.specs.code.CountLaws.{AreBeside}
use Rattle.rs_field.proofs.code_lemmas.NextPower.{next_power-small, next_power-least}
use Rattle.rs_field.proofs.code_lemmas.SupportedCounts.{default_fits}
use Rattle.rs_field.proofs.words_lemmas.Halves.{exponent_below}

-- A power of two below 65536 is at most 32768.
half_most : (n : ℕ) → 2 ^ n < 65536 → (n < 64) × (2 ^ n ≤ 32768)
half_most n h = let few = exponent_below n 16 h in let most : 2 ^ n ≤ 2 ^ 15 = pow_mono {j = 15} (omega arith) in
    (omega arith, omega arith)

-- Positive counts are supported if the smaller power and the larger count add up to at most 65536.
fit : (k r : ℕ) → 0 < k → 0 < r → min (next_power k) (next_power r) + max k r ≤ 65536 → supports default_rate k r ≡ true
unfolding supports
fit k r some_k some_r room = grind (arith, common_steps)

-- If one count is at most a power of two, and the other at most 65536 minus this power, the counts are supported.
beside_fit : (n few many : ℕ) → 0 < many → few ≤ 2 ^ n → many + 2 ^ n ≤ 65536
    → min (next_power few) (next_power many) + max few many ≤ 65536
beside_fit n few many some small large = search (rules, half_most, next_power-least, cases_lt)

pub few_originals : (n k r : ℕ) → 0 < k → k ≤ 2 ^ n → 0 < r → r + 2 ^ n ≤ 65536 → supports default_rate k r ≡ true
few_originals n k r some_k small some_r large = fit k r some_k some_r (beside_fit n k r some_r small large)

pub few_recovery : (n k r : ℕ) → 0 < k → k + 2 ^ n ≤ 65536 → 0 < r → r ≤ 2 ^ n → supports default_rate k r ≡ true
few_recovery n k r some_k large some_r small =
    fit k r some_k some_r
    (let fits : min (next_power r) (next_power k) + max r k ≤ 65536 = beside_fit n r k some_k small large in
    omega arith)

pub half_supported : (k r : ℕ) → 0 < k → k ≤ 32768 → 0 < r → r ≤ 32768 → supports default_rate k r ≡ true
half_supported k r some_k few_k some_r few_r = few_originals 15 k r some_k few_k some_r (omega arith)

-- A count is at most its power, and the other count is at most 65536 minus this power.
beside : (few many : ℕ) → next_power few + max few many ≤ 65536 → AreBeside few many
beside few many room =
    let power = next_power-small few (omega arith) in
    (power.0, omega (arith, power.2, power.3), omega (arith, power.2))

pub no_other_counts : (k r : ℕ) → supports default_rate k r ≡ true → (0 < k) × (0 < r) × (AreBeside k r ⊎ AreBeside r k)
no_other_counts k r is =
    let fits = default_fits k r is in (
      fits.0,
      fits.1,
      elim
          (cases_lt (next_power r) (next_power k))
          [ inl less ↦ inr (beside r k (omega (arith, fits.2))) | inr more ↦ inl (beside k r (omega (arith, fits.2))) ],
    )
