use Rattle.std.proofs.Common.{rules, arith}
use Rattle.rs_field.specs.code.PieceStates.{HoldRestored}
use Rattle.reed_solomon_simd.proofs.Making.{made-ok, made-refused, made-untouched}
use Rattle.reed_solomon_simd.proofs.MissingLemmas.{names-all}
use Rattle.reed_solomon_simd.proofs.restoring.restore_apart.Goals as goal

pub make_missing-requires-clause-rooms : goal.make_missing-requires-clause-rooms
make_missing-requires-clause-rooms g c =
    let names = (names-all (g.P.Pieces.received c.args.received.now)).number in
    record { number = omega (arith, names, c.requires.number); fit = c.requires.fit }

pub returns-clause-restored : goal.returns-clause-restored
returns-clause-restored g c =
    let made = made-ok
    (HoldRestored (g.P.Pieces.received c.args.received.now)
    (g.R.Rooms.held c.make_missing.new.store.rooms.now)) (g.P.Pieces.received c.args.received.now) g.R.Rooms.grows
    (g.R.Rooms.held c.args.rooms.now) (g.R.Rooms.held c.make_missing.new.store.rooms.now) c.make_missing.result
    c.make_missing.ensures.made in
    search rules

pub returns-clause-refused : goal.returns-clause-refused
returns-clause-refused g c =
    made-refused
    (HoldRestored (g.P.Pieces.received c.args.received.now)
    (g.R.Rooms.held c.make_missing.new.store.rooms.now)) (g.P.Pieces.received c.args.received.now) g.R.Rooms.grows
    (g.R.Rooms.held c.args.rooms.now) (g.R.Rooms.held c.make_missing.new.store.rooms.now) c.make_missing.result
    c.make_missing.ensures.made

pub returns-clause-untouched : goal.returns-clause-untouched
returns-clause-untouched g c = λ fixed.
    let kept = made-untouched
    (HoldRestored (g.P.Pieces.received c.args.received.now)
    (g.R.Rooms.held c.make_missing.new.store.rooms.now)) (g.P.Pieces.received c.args.received.now) g.R.Rooms.grows
    (g.R.Rooms.held c.args.rooms.now) (g.R.Rooms.held c.make_missing.new.store.rooms.now) c.make_missing.result
    c.make_missing.ensures.made fixed in
    search rules
