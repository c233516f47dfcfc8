use Rattle.std.proofs.lemmas.Grind.{common_steps}
use Rattle.std.proofs.Common.{rules, ◌≡◌, ℕ, ◌∷◌, get_or, sym, ap, subst, ◌∙◌, inl, inr, arith}
use Rattle.std.proofs.lemmas.Bool.{cases_lt}
use Rattle.std.proofs.lemmas.List.{drop_all, get_or_default}
use Rattle.rs_field.specs.code.Decoder.{DecoderState}
use Rattle.reed_solomon_simd.specs.ReceivedState.{received_state}
use Rattle.reed_solomon_simd.specs.Reconstructed.{CanBeRebuilt}
use Rattle.reed_solomon_simd.proofs.WantedLemmas.{wanted-next}
use Rattle.reed_solomon_simd.proofs.wanted_shards.mark_all.Goals as goal

pub returns-in_err-mark-clause-answer : goal.returns-in_err-mark-clause-answer
returns-in_err-mark-clause-answer c = grind (arith, common_steps)

pub loop-index-preserved : goal.loop-index-preserved
loop-index-preserved c =
    let s : DecoderState = received_state c.args.received.now in
    let held = c.loop-index.invariant in
    record {
      before = _ ∷ held.before;
      marked = c.in_ok-mark.ensures.marked held.before held.marked;
      own = search rules;
      coded = search rules;
      led = held.led ∙ wanted-next s held.before c.args.wanted.now c.loop-index.index _ _ c.loop-index-test.true
          (c.in_ok-mark.ensures.answer held.before held.marked);
      can = λ i d h. elim (cases_lt i c.loop-index.index) [
        | inl less ↦ held.can i d less
        | inr past ↦
            let here : i ≡ c.loop-index.index = omega (arith, past, h) in
            subst (CanBeRebuilt s)
            (get_or_default c.args.wanted.now c.loop-index.index _ d c.loop-index-test.true
            ∙ ap (λ (n : ℕ). get_or c.args.wanted.now n d) (sym here)) c.in_ok-mark.ensures.can
      ];
    }

pub returns-clause-answer : goal.returns-clause-answer
returns-clause-answer c = search (rules, drop_all)

pub returns-clause-can : goal.returns-clause-can
returns-clause-can c = λ i d h.
    c.loop-index.invariant.can i d (omega (arith, h, c.loop-index-test.false))
