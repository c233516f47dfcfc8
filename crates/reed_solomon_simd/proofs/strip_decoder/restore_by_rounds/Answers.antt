use Rattle.reed_solomon_simd.specs.Making.{missing_names}
use Rattle.reed_solomon_simd.proofs.MissingLemmas.{names-all, missing-rebuilt, makes-missing}
use Rattle.reed_solomon_simd.proofs.strip_decoder.restore_by_rounds.Goals as goal

pub make_strips-requires-clause-can : goal.make_strips-requires-clause-can
make_strips-requires-clause-can g c = record {
  set_up = c.requires.set_up;
  enough = c.requires.enough;
  can = missing-rebuilt (g.S.Pieces.received c.args.store.now)
      (missing_names (g.S.Pieces.received c.args.store.now)) (names-all (g.S.Pieces.received c.args.store.now)).each;
}

pub returns-clause-made : goal.returns-clause-made
returns-clause-made g c =
    makes-missing g.S.Rooms.grows (g.S.Pieces.received c.args.store.now) _ _ _ _
    (names-all (g.S.Pieces.received c.args.store.now)) c.make_strips.ensures.made
