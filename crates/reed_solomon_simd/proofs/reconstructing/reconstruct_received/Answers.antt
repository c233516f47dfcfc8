use Rattle.std.proofs.Common.{rules, ◌≡◌, List, [], length, map, replicate, Ok, Err, Result, MatchResult, refl, ap, ◌∙◌}
use Rattle.std.proofs.Common.{inl, inr}
use Rattle.std.specs.Prelude.{◌⊎◌}
use Rattle.std.specs.Result.{result_map_both}
use Rattle.rs_field.specs.declared.code.error.Error.{Error}
use Rattle.rs_field.specs.declared.code.error.Error.TheVariants.{OutOfMemory}
use Rattle.rs_field.specs.code.Column.{Shard}
use Rattle.rs_field.specs.code.Decoder.{NoneAgrees}
use Rattle.reed_solomon_simd.specs.declared.reconstruct_error.ReconstructError.TheVariants.{Refused}
use Rattle.reed_solomon_simd.specs.Reconstructed.{of_rooms, rooms_outcome, AreReconstructed, Reconstructs}
use Rattle.reed_solomon_simd.specs.Reconstructed.{wanted_outcome}
use Rattle.reed_solomon_simd.specs.Rooms.{bytes_in}
use Rattle.reed_solomon_simd.specs.ReceivedState.{received_state}
use Rattle.reed_solomon_simd.proofs.ReconstructLemmas.{rebuilds-lacking, rebuilds-few, rebuilds-unwanted, rebuilds-made}
use Rattle.reed_solomon_simd.proofs.ReconstructLemmas.{rebuilds-misfit, was-checked, zeros-number, zeros-sized}
use Rattle.reed_solomon_simd.proofs.RebuiltStrips.{reconstructed-sized}
use Rattle.reed_solomon_simd.proofs.RoomFits.{vectors-sized}
use Rattle.reed_solomon_simd.proofs.reconstructing.reconstruct_received.Given.{Over}
use Rattle.reed_solomon_simd.proofs.reconstructing.reconstruct_received.Goals.{In_ok-check_rooms}
use Rattle.reed_solomon_simd.proofs.reconstructing.reconstruct_received.Goals as goal

pub returns-in_err-check_enough-clause-answer : goal.returns-in_err-check_enough-clause-answer
returns-in_err-check_enough-clause-answer g c =
    let s = received_state c.args.received.now in
    let fit = rooms_outcome (length c.args.wanted.now) (bytes_in c.args.rooms.now) s.configuration.shard_bytes in
    let e = c.in_err-check_enough.field-0.0 in (
      Err (Refused e),
      rebuilds-few s c.args.wanted.now fit e c.in_err-check_enough.ensures,
      (search rules, refl),
    )

pub returns-in_err-check_wanted-clause-answer : goal.returns-in_err-check_wanted-clause-answer
returns-in_err-check_wanted-clause-answer g c =
    let s = received_state c.args.received.now in
    let fit = rooms_outcome (length c.args.wanted.now) (bytes_in c.args.rooms.now) s.configuration.shard_bytes in
    let e = c.in_err-check_wanted.field-0.0 in (
      Err e,
      elim c.in_err-check_wanted.ensures.answer [
        | inl same ↦ rebuilds-unwanted s c.args.wanted.now fit c.in_ok-check_enough.ensures e
            same
        | inr lacks ↦ rebuilds-lacking s c.args.wanted.now fit e lacks
      ],
      (search rules, refl),
    )

pub returns-in_err-check_rooms-clause-answer : goal.returns-in_err-check_rooms-clause-answer
returns-in_err-check_rooms-clause-answer g c =
    let s = received_state c.args.received.now in
    let fit = rooms_outcome (length c.args.wanted.now) (bytes_in c.args.rooms.now) s.configuration.shard_bytes in
    let can = was-checked (wanted_outcome s [] c.args.wanted.now) _ c.in_ok-check_wanted.ensures.answer in
    let e = c.in_err-check_rooms.field-0.0 in (
      Err (of_rooms e),
      rebuilds-misfit s c.args.wanted.now fit c.in_ok-check_enough.ensures can (of_rooms e)
          (ap (result_map_both (λ (u : Unit {0}). u) of_rooms)
          (c.in_err-check_rooms.ensures.answer (replicate (length c.args.wanted.now)
          (replicate c.args.received.now.shard_bytes 0))
          (zeros-number (length c.args.wanted.now) c.args.received.now.shard_bytes)
          (zeros-sized (length c.args.wanted.now) c.args.received.now.shard_bytes))),
      (search rules, refl),
    )

-- Rebuilt shards, or the error of rebuilding them, are a result of reconstructing from what was received.
made : (g : Over) (c : In_ok-check_rooms g) (result : Result (List Shard) Error)
    → MatchResult result (AreReconstructed (received_state c.args.received.now) c.args.wanted.now)
    (λ e. NoneAgrees (received_state c.args.received.now) e ⊎ (e ≡ OutOfMemory))
    → Reconstructs (received_state c.args.received.now) c.args.wanted.now
    (rooms_outcome (length c.args.wanted.now) (bytes_in c.args.rooms.now) c.args.received.now.shard_bytes)
    (result_map_both (λ x. x) Refused result)
made g c result rebuilt =
    let n = length c.args.wanted.now in
    let size = c.args.received.now.shard_bytes in
    let s = received_state c.args.received.now in
    rebuilds-made s c.args.wanted.now (rooms_outcome n (bytes_in c.args.rooms.now) size) c.in_ok-check_enough.ensures
    (was-checked (wanted_outcome s [] c.args.wanted.now) _ c.in_ok-check_wanted.ensures.answer)
    (ap (result_map_both (λ (u : Unit {0}). u) of_rooms)
    (c.in_ok-check_rooms.ensures.answer (replicate n (replicate size 0)) (zeros-number n size) (zeros-sized n size)))
    result rebuilt

pub returns-in_err-rebuild_lent-clause-answer : goal.returns-in_err-rebuild_lent-clause-answer
returns-in_err-rebuild_lent-clause-answer g c =
    let e = c.in_err-rebuild_lent.field-0.0 in
    let lacks : c.in_err-rebuild_lent.field-0.0 ≡ OutOfMemory =
    (let refused = c.in_err-rebuild_lent.ensures.refused in cc) in (
      Err (Refused e),
      made g (goal.at.returns-in_err-rebuild_lent-clause-answer g c).In_ok-check_rooms (Err e) (inr lacks),
      (search rules, c.in_err-rebuild_lent.ensures.untouched),
    )

pub returns-then-surplus_count-eq0-clause-answer : goal.returns-then-surplus_count-eq0-clause-answer
returns-then-surplus_count-eq0-clause-answer g c = (
  Ok (bytes_in c.rebuild_lent.new.rooms),
  made g (goal.at.returns-then-surplus_count-eq0-clause-answer g c).In_ok-check_rooms
      (Ok (bytes_in c.rebuild_lent.new.rooms)) c.in_ok-rebuild_lent.ensures.rebuilt,
  (refl, refl),
)

pub returns-in_err-vectors-clause-answer : goal.returns-in_err-vectors-clause-answer
returns-in_err-vectors-clause-answer g c =
    let e = c.in_err-vectors.field-0.0 in (
      Err (Refused e),
      made g (goal.at.returns-in_err-vectors-clause-answer g c).In_ok-check_rooms (Err e) c.in_err-vectors.ensures,
      (search rules, refl),
    )

pub fill_rooms-requires-clause-sized : goal.fill_rooms-requires-clause-sized
fill_rooms-requires-clause-sized g c =
    vectors-sized c.args.received.now.shard_bytes c.as_slice.ensures.value
    (reconstructed-sized (received_state c.args.received.now) c.args.wanted.now
    (map (λ v. v.items) c.in_ok-vectors.vectors.items) c.in_ok-vectors.ensures c.in_ok-check_wanted.ensures.can)

pub returns-clause-answer : goal.returns-clause-answer
returns-clause-answer g c = (
  Ok (map (λ v. v.items) c.in_ok-vectors.vectors.items),
  made g (goal.at.returns-clause-answer g c).In_ok-check_rooms (Ok (map (λ v. v.items) c.in_ok-vectors.vectors.items))
      c.in_ok-vectors.ensures,
  (refl, c.fill_rooms.ensures.filled ∙ ap (map (λ v. v.items)) c.as_slice.ensures.value),
)
