use Rattle.std.proofs.Common.{◌≡◌, ◌≤◌, subst, arith}
use Rattle.std.specs.Prelude.{IfSome, Option, Some, None}
use Rattle.std.proofs.lemmas.Nat.{pow_pos}
use Rattle.rs_rate.specs.declared.values.configuration.Configuration.{Configuration}
use Rattle.rs_rate.specs.declared.rows.decoder_work.DecoderWork.{DecoderWork}
use Rattle.rs_rate.specs.values.Configured.{rows_to_decode}
use Rattle.rs_rate.specs.rows.DecoderRoom.{HasRoom, room_if, work_room}
use Rattle.rs_rate.proofs.rows.decoder_work.DecoderMemory.laid_out.Goals as goal

-- A work without memory has no room for the rows of a decoder.
no_room : (P : Type 0) (c : Configuration) (work : Option DecoderWork) → IfSome work (λ w. w.memory ≡ None)
    → IfSome work (λ w. HasRoom (work_room w) (rows_to_decode c) c.shard_bytes → P)
no_room P c None none = tt
no_room P c (Some work) none = λ room.
    let positive = pow_pos c.frame.exponent in
    let rows : rows_to_decode c ≤ 0 = subst (λ m. rows_to_decode c ≤ (room_if m).rows) none room.rows in
    absurd (omega (arith, positive, rows))

pub returns-in-None-clause-roomy : goal.returns-in-None-clause-roomy
returns-in-None-clause-roomy c = no_room _ c.args.configuration c.args.work c.in-None.ensures
