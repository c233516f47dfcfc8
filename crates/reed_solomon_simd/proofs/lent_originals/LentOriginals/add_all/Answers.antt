use Rattle.std.proofs.Common.{rules, ◌≡◌, ◌∙◌, refl}
use Rattle.rs_rate.proofs.objects_lemmas.Giving.{leads-taken, leads-refused, leads-ended, outcome-ok, outcome-err}
use Rattle.reed_solomon_simd.specs.LentState.{lent_state}
use Rattle.reed_solomon_simd.proofs.lent_originals.LentOriginals.add_all.Goals as goal

pub loop-shard-preserved : goal.loop-shard-preserved
loop-shard-preserved g c =
    record {
      led = leads-taken c.loop-shard.invariant.led c.in-Some.ensures.steps
          (outcome-ok _ _ _ c.in_ok-add.ensures.answer c.in_ok-add.ensures.left);
      counts = c.in_ok-add.ensures.counts ∙ c.loop-shard.invariant.counts;
      size = c.in_ok-add.ensures.size ∙ c.loop-shard.invariant.size;
    }

pub returns-in_err-add-clause-reaches : goal.returns-in_err-add-clause-reaches
returns-in_err-add-clause-reaches g c =
    leads-refused (λ s. lent_state c.add.new.self ≡ s) c.loop-shard.invariant.led c.in-Some.ensures.steps
    (outcome-err _ _ c.in_err-add.ensures.answer) (search rules)

pub returns-clause-reaches : goal.returns-clause-reaches
returns-clause-reaches g c =
    leads-ended (λ s. lent_state c.loop-shard.self ≡ s) c.loop-shard.invariant.led c.in-None.ensures.steps refl
