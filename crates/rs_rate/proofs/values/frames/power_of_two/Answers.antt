use Rattle.std.proofs.Common.{◌≡◌, ℕ, ◌^◌, ◌<◌, ◌≤◌, ◌/◌, max, arith, inl, inr, pow_mono}
use Rattle.std.proofs.lemmas.Bool.{cases_lt}
use Rattle.rs_field.specs.code.Counts.{next_power}
use Rattle.rs_field.proofs.code_lemmas.NextPower.{next_power-small, next_power-is}
use Rattle.rs_rate.proofs.values.frames.power_of_two.Goals as goal

is_next : (n p x : ℕ) → n ≤ 65536 → p ≡ 2 ^ x → n ≤ p → p / 2 < max 1 n → p ≡ next_power n
is_next n p x small power above half =
    next_power-is n p x power
    (elim (cases_lt x 64)
    [ inl few ↦ few | inr many ↦ let big : 2 ^ 64 ≤ 2 ^ x = pow_mono many in absurd (omega arith) ]) above half

pub returns-clause-value : goal.returns-clause-value
returns-clause-value c =
    let e = c.next_power_of_two.ensures in
    is_next c.args.n c.next_power_of_two.result e.power.0 c.requires e.power.1 e.lower_bound e.upper_bound

pub returns-clause-upper_bound : goal.returns-clause-upper_bound
returns-clause-upper_bound c =
    let known = next_power-small c.args.n c.requires in
    let most : 2 ^ known.0 ≤ 2 ^ 16 = pow_mono known.1 in
    omega (arith, known.2, returns-clause-value c)
