use Rattle.rs_engines.proofs.Kept.{two_kept_before, two_kept_after}
use Rattle.rs_engines.proofs.shuffle_chunks.lanes_of_two_written.Goals as goal

pub returns-clause-written : goal.returns-clause-written
returns-clause-written g c i s h e =
    let butterfly = g.D.Butterflies.two (g.F.Factor.log c.args.factor) in
    two_kept_after butterfly _ _ _ _ _ _
    (c.write_words.ensures.written i s h e) (c.write_words-2.ensures.written i s h e)
    (two_kept_before butterfly _ _ _ _ _ _ (c.words_at-x0.ensures i s h e) (c.words_at-x1.ensures i s h e)
    (c.of_two-z0.ensures i h))
