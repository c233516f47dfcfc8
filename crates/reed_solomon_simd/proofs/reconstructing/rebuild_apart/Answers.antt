use Rattle.std.proofs.Common.{rules}
use Rattle.reed_solomon_simd.specs.Reconstructed.{AreReconstructed}
use Rattle.reed_solomon_simd.proofs.Making.{made-ok, made-refused, made-untouched}
use Rattle.reed_solomon_simd.proofs.reconstructing.rebuild_apart.Goals as goal

pub make_listed-requires-clause-rooms : goal.make_listed-requires-clause-rooms
make_listed-requires-clause-rooms g c = record { number = c.requires.number; fit = c.requires.fit }

pub returns-clause-rebuilt : goal.returns-clause-rebuilt
returns-clause-rebuilt g c =
    let made = made-ok
    (AreReconstructed (g.P.Pieces.received c.args.received.now) c.args.wanted.now
    (g.R.Rooms.held c.make_listed.new.store.rooms.now)) (g.P.Pieces.received c.args.received.now) g.R.Rooms.grows
    (g.R.Rooms.held c.args.rooms.now) (g.R.Rooms.held c.make_listed.new.store.rooms.now) c.make_listed.result
    c.make_listed.ensures.made in
    search rules

pub returns-clause-refused : goal.returns-clause-refused
returns-clause-refused g c =
    made-refused
    (AreReconstructed (g.P.Pieces.received c.args.received.now) c.args.wanted.now
    (g.R.Rooms.held c.make_listed.new.store.rooms.now)) (g.P.Pieces.received c.args.received.now) g.R.Rooms.grows
    (g.R.Rooms.held c.args.rooms.now) (g.R.Rooms.held c.make_listed.new.store.rooms.now) c.make_listed.result
    c.make_listed.ensures.made

pub returns-clause-untouched : goal.returns-clause-untouched
returns-clause-untouched g c = λ fixed.
    let kept = made-untouched
    (AreReconstructed (g.P.Pieces.received c.args.received.now) c.args.wanted.now
    (g.R.Rooms.held c.make_listed.new.store.rooms.now)) (g.P.Pieces.received c.args.received.now) g.R.Rooms.grows
    (g.R.Rooms.held c.args.rooms.now) (g.R.Rooms.held c.make_listed.new.store.rooms.now) c.make_listed.result
    c.make_listed.ensures.made fixed in
    search rules
