use Rattle.std.proofs.Common.{rules, ◌∷◌}
use Rattle.rs_rate.specs.objects.Giving.{AreNoted}
use Rattle.rs_rate.proofs.objects_lemmas.Giving.{leads-taken, leads-refused, leads-ended}
use Rattle.rs_rate.proofs.objects_lemmas.Noting.{note_outcome-refused, note_outcome-added, note_outcome-more}
use Rattle.rs_rate.proofs.objects.originals_alone.note_all.Goals as goal

pub loop-index-preserved : goal.loop-index-preserved
loop-index-preserved g c = (
  search rules,
  λ first are.
      let so_far = c.loop-index.invariant.1 first are in
      let told = c.in_ok-note.ensures.answer in (
        c.in-Some.index ∷ so_far.0,
        note_outcome-more c.in-Some.index so_far.1 told c.in_ok-note.ensures.noted,
        leads-taken {item = (c.in-Some.index, c.in-Some.field-0-1)} so_far.2 c.in-Some.ensures.steps
            (note_outcome-added c.in-Some.index c.loop-index.invariant.0 so_far.1 told),
      ),
)

pub returns-in_err-note : goal.returns-in_err-note
returns-in_err-note g c indexes are =
    let so_far = c.loop-index.invariant.1 indexes are in
    leads-refused {item = (c.in-Some.index, c.in-Some.field-0-1)}
    (λ all. AreNoted all c.note.new.given) so_far.2 c.in-Some.ensures.steps
    (note_outcome-refused c.in-Some.index c.loop-index.invariant.0 so_far.1 c.in_err-note.ensures.answer) (search rules)

pub returns : goal.returns
returns g c indexes are =
    let so_far = c.loop-index.invariant.1 indexes are in
    leads-ended (λ all. AreNoted all c.loop-index.given) so_far.2 c.in-None.ensures.steps so_far.1
