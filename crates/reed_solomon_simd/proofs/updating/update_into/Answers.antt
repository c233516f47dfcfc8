use Rattle.std.proofs.Common.{rules, ℕ, ◌<◌, [], length, Ok, refl, ◌∙◌, inl, arith}
use Rattle.std.specs.Prelude.{slice_index}
use Rattle.std.proofs.lemmas.List.{length-map}
use Rattle.rs_field.specs.code.Column.{shard_at}
use Rattle.reed_solomon_simd.specs.Rooms.{bytes_in}
use Rattle.reed_solomon_simd.specs.Updated.{IsChanged}
use Rattle.reed_solomon_simd.proofs.ReconstructLemmas.{zeros, zeros-number, zeros-sized}
use Rattle.reed_solomon_simd.proofs.UpdateLemmas.{updates-by, updates-changed, outcome-rooms}
use Rattle.reed_solomon_simd.proofs.updating.update_into.Goals as goal

pub returns-in_err-counts-clause-answer : goal.returns-in_err-counts-clause-answer
returns-in_err-counts-clause-answer g c = search rules

pub returns-in_err-check_change-clause-answer : goal.returns-in_err-check_change-clause-answer
returns-in_err-check_change-clause-answer g c = search rules

pub returns-in_err-check_rooms-clause-answer : goal.returns-in_err-check_rooms-clause-answer
returns-in_err-check_rooms-clause-answer g c = search (rules, zeros-number, zeros-sized)

pub returns-in_err-factors-clause-answer : goal.returns-in_err-factors-clause-answer
returns-in_err-factors-clause-answer g c = search (rules, zeros-number, zeros-sized)

pub returns-clause-answer : goal.returns-clause-answer
returns-clause-answer g c =
    let k = c.args.original_count in let r = c.args.recovery_count in let before = bytes_in c.args.recovery.now in
    let number = length-map c.args.recovery.now (λ room. room.now) in
    let made = rw (c.in_ok-counts.ensures.0, c.in_ok-counts.ensures.1) at c.in_ok-factors.ensures.made in
    let changes : (i : ℕ) → i < c.args.recovery_count
    → IsChanged c.args.old.now c.args.new.now (slice_index c.in_ok-factors.factors.items i)
    (shard_at (bytes_in c.args.recovery.now) i) (shard_at (bytes_in c.add_to_all.new.recovery) i) =
    λ i h. rw c.as_slice.ensures.value at c.add_to_all.ensures.changed i
    (omega (arith, h, c.in_ok-check_rooms.ensures.number)) in
    updates-by k r c.args.index c.args.old.now c.args.new.now before (bytes_in c.add_to_all.new.recovery) _ _
    (outcome-rooms k r c.args.index c.args.old.now c.args.new.now before (Ok tt)
    (rw (c.in_ok-counts.ensures.0, c.in_ok-counts.ensures.1) at c.in_ok-check_change.ensures)
    (c.in_ok-check_rooms.ensures.answer (zeros r (length c.args.old.now)) (zeros-number r (length c.args.old.now))
    (zeros-sized r (length c.args.old.now))))
    (inl (
      refl,
      updates-changed k r c.args.index c.args.old.now c.args.new.now c.in_ok-factors.factors.items before
          (bytes_in c.add_to_all.new.recovery)
          (rw (c.in_ok-counts.ensures.0, c.in_ok-counts.ensures.1) at c.in_ok-counts.counts.supported) (search rules)
          made
          (length-map c.add_to_all.new.recovery (λ room. room.now) ∙ c.add_to_all.ensures.number
          ∙ c.in_ok-check_rooms.ensures.number)
          (λ i h. c.in_ok-check_rooms.ensures.fit i [] (omega (arith, h, number, c.in_ok-check_rooms.ensures.number)))
          changes,
      (c.in_ok-factors.factors.items, made, changes),
    ))
