use Rattle.std.proofs.Common.{rules, ◌≡◌, ℕ, ◌-◌, ◌<◌, ◌≤◌, [], length, get_or, sym, ap, ◌∙◌, arith}
use Rattle.std.specs.Prelude.{unwrap_or}
use Rattle.rs_rate.specs.objects.ResultView.{restored_originals}
use Rattle.reed_solomon_simd.specs.Rounds.{lent_by}
use Rattle.reed_solomon_simd.proofs.RebuiltStrips.{piece-there}
use Rattle.reed_solomon_simd.proofs.strip_rebuilder.put_wanted.Goals.{in-Some+in_ok-put, in_default}
use Rattle.reed_solomon_simd.proofs.strip_rebuilder.put_wanted.Goals as goal

pub put-requires-clause-fits : goal.put-requires-clause-fits
put-requires-clause-fits g c =
    let held = c.loop-room.invariant in
    let n : ℕ = c.loop-room.room in
    let there = piece-there (restored_originals c.args.restored.now)
    (lent_by c.args.encoder.now)
    c.args.wanted.now held.made n _ held.listed c.loop-room-test.true in
    let same : get_or held.made c.loop-room.room [] ≡ c.in-Some.piece.now =
    ap (λ o. unwrap_or o []) (sym (c.in-Some.ensures ∙ there.0)) in
    let long : length c.in-Some.piece.now ≡ c.args.end - c.args.start =
    ap length (sym same) ∙ held.sized n [] (omega (arith, there.1, c.loop-room-test.true)) in
    let inside : c.loop-room.room < length (g.R.Rooms.held c.args.rooms.now) =
    omega (arith, c.requires.number, c.loop-room-test.true) in (
      c.requires.fit.0,
      omega (arith, long, c.requires.order, c.requires.fit.1),
      ap length (held.others n (let e : c.loop-room.room ≤ c.loop-room.room = omega arith in e))
          ∙ c.requires.fit.2 n [] inside,
    )

pub loop-room-preserved : goal.loop-room-preserved
loop-room-preserved g c = search (rules, piece-there)
