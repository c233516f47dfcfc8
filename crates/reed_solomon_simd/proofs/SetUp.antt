-- Facts about the configuration of a coder that was set up.
use Rattle.std.proofs.Common.{rules, ◌≡◌, ℕ, ◌<◌, ◌^◌, ◌%◌, Ok, Err, Result, refl, arith}
use Rattle.std.proofs.lemmas.Grind.{common_steps}
use Rattle.rs_field.specs.declared.code.error.Error.{Error}
use Rattle.rs_field.specs.code.Configuration.{Configuration, validation_outcome, start_outcome, bytes_of_rows}
use Rattle.rs_field.specs.code.Outcome.{result_and_then}

-- If setting up succeeds, the configuration is valid and the size of its rows in bytes fits a `usize`.
pub started-parts : (rows : ℕ) (c : Configuration) → start_outcome rows c ≡ Ok tt → (validation_outcome c ≡ Ok tt)
    × (bytes_of_rows rows c.shard_bytes < 2 ^ 64)
started-parts rows c is = search rules

-- The shard size of a valid configuration is even.
pub valid-even : (c : Configuration) → validation_outcome c ≡ Ok tt → c.shard_bytes % 2 ≡ 0
valid-even c valid = grind (arith, common_steps)

-- If what follows setting up succeeds, setting up succeeds.
pub started-of : {S : Type 0} (o : Result (Unit {0}) Error) (f : Unit {0} → Result S Error) (s : S)
    → result_and_then f o ≡ Ok s → o ≡ Ok tt
started-of (Ok u) f s made = refl
started-of (Err e) f s made = absurd (let no : ⊥ = cc in no)
