use Rattle.std.proofs.Common.{refl}
use Rattle.std.proofs.lemmas.Bool.{lt-ltb, le-ltb, eq-eqb, ne_eqb}
use Rattle.rs_field.specs.code.Counts.{is_low}
use Rattle.rs_rate.proofs.values.frames.default_is_low.Goals as goal

pub returns-then-original_power-recovery_power : goal.returns-then-original_power-recovery_power
unfolding is_low
returns-then-original_power-recovery_power c =
    rw (
      ← c.power_of_two-original_power.ensures.value,
      ← c.power_of_two-recovery_power.ensures.value,
      lt-ltb _ _ c.if-original_power-recovery_power.true,
    ) refl

pub returns-then-original_power-recovery_power-2 : goal.returns-then-original_power-recovery_power-2
unfolding is_low
returns-then-original_power-recovery_power-2 c =
    rw (
      ← c.power_of_two-original_power.ensures.value,
      ← c.power_of_two-recovery_power.ensures.value,
      le-ltb _ _ c.if-original_power-recovery_power.false,
      eq-eqb _ _ c.if-original_power-recovery_power-2.true,
    ) refl

pub returns-else-original_power-recovery_power-2 : goal.returns-else-original_power-recovery_power-2
unfolding is_low
returns-else-original_power-recovery_power-2 c =
    rw (
      ← c.power_of_two-original_power.ensures.value,
      ← c.power_of_two-recovery_power.ensures.value,
      le-ltb _ _ c.if-original_power-recovery_power.false,
      ne_eqb _ _ c.if-original_power-recovery_power-2.false,
    ) refl
