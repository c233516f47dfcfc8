use Rattle.std.proofs.Common.{rules, ◌≡◌, ℕ, ◌-◌, ◌%◌, ◌^◌, bit_and, arith}
use Rattle.std.proofs.lemmas.Grind.{common_steps}
use Rattle.std.proofs.lemmas.Nat.{and_mask}
use Rattle.rs_rate.proofs.values.frames.next_multiple_of_power.Goals as goal

-- The lower bits of a number are its remainder by a power of two.
remainder : (last power d : ℕ) → power ≡ 2 ^ d → bit_and last (power - 1) ≡ last % power
remainder last power d is = search (rules, and_mask)

-- A number without its remainder is a multiple.
without : (last power : ℕ) → (last - last % power) % power ≡ 0
without last power = grind (arith, common_steps)

pub returns-clause-multiple : goal.returns-clause-multiple
returns-clause-multiple c = search (rules, remainder, without)
