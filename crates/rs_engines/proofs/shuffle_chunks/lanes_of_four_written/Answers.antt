use Rattle.rs_engines.proofs.Kept.{four_kept_before, four_kept_after}
use Rattle.rs_engines.proofs.shuffle_chunks.lanes_of_four_written.Goals as goal

pub returns-clause-written : goal.returns-clause-written
returns-clause-written g c i s h e =
    let factors = c.args.factors in
    let layers = g.D.Butterflies.four (g.F02.Factor.log factors.f02) (g.F01.Factor.log factors.f01)
    (g.F23.Factor.log factors.f23) in
    four_kept_after layers _ _ _ _ _ _ _ _ _ _ _ _
    (c.write_words.ensures.written i s h e) (c.write_words-2.ensures.written i s h e)
    (c.write_words-3.ensures.written i s h e) (c.write_words-4.ensures.written i s h e)
    (four_kept_before layers _ _ _ _ _ _ _ _ _ _ _ _ (c.words_at-x0.ensures i s h e) (c.words_at-x1.ensures i s h e)
    (c.words_at-x2.ensures i s h e) (c.words_at-x3.ensures i s h e)
    (c.of_four-z0.ensures i h))
