use Rattle.std.proofs.Common.{◌≡◌, ◌∙◌, inl, inr, refl}
use Rattle.reed_solomon_simd.specs.declared.Error.TheVariants.{OutOfMemory}
use Rattle.rs.specs.declared.fault.Fault.TheVariants.{Refused}
use Rattle.rs.specs.Reported.{fault_message}
use Rattle.rs.proofs.fault.Fault.report.Goals as goal

pub returns-in-Ok : goal.returns-in-Ok
returns-in-Ok g c =
    let text : c.as_str.result.now ≡ fault_message (Refused c.in-Refused.refusal) =
    c.as_str.ensures.value ∙ c.in-Ok.ensures.ok in (
      Refused c.in-Refused.refusal,
      rw c.in-Refused.is
          (inl refl),
      rw text at c.write_text-in-Ok.ensures.written,
      rw text at c.write_text-in-Ok.ensures.whole,
    )

pub returns-in-Err : goal.returns-in-Err
returns-in-Err g c = (
  Refused OutOfMemory,
  rw c.in-Refused.is
      (inr refl),
  c.write_text-in-Err.ensures.written,
  c.write_text-in-Err.ensures.whole,
)
