use Rattle.std.proofs.Common.{rules, arith, ◌≡◌, ◌∙◌, [], Ok, Err, inl, refl, sym, ap, subst, false, replicate}
use Rattle.std.proofs.lemmas.Bool.{cond_below, cond_above}
use Rattle.std.proofs.lemmas.Grind.{common_steps}
use Rattle.std.specs.List.{count_by}
use Rattle.rs_rate.specs.objects.Giving.{AreNoted}
use Rattle.rs_rate.proofs.objects_lemmas.Giving.{no-calls}
use Rattle.rs_rate.proofs.objects_lemmas.Noting.{note_outcome-none, originals_alone-refused, originals_alone-counted}
use Rattle.rs_rate.proofs.objects.originals_alone.check_originals_alone.Goals as goal

pub returns-in_err-given : goal.returns-in_err-given
returns-in_err-given g c = (no-calls c.args.originals, λ items begins. search rules)

pub returns-in_err-note_all : goal.returns-in_err-note_all
returns-in_err-note_all g c =
    let filled : c.deref_mut.result.now ≡ replicate c.args.original_count false = search rules in
    let e = c.in_err-note_all.field-0.0 in
    let refused : c.from_residual-in_err-note_all.result ≡ Err e = search rules in
    let run = c.in_err-note_all.ensures []
    (subst (AreNoted []) (sym filled) (note_outcome-none c.args.original_count)) in (
      run.0,
      λ items begins.
          inl (refused ∙ originals_alone-refused c.args.original_count items _ _ (Err e) filled
          (run.1 items begins) e refl),
    )

pub returns-then-original_received_count-original_count : goal.returns-then-original_received_count-original_count
returns-then-original_received_count-original_count g c =
    let filled : c.deref_mut.result.now ≡ replicate c.args.original_count false = search rules in
    let same : c.deref.result.now ≡ c.note_all.new.given = grind (arith, common_steps) in
    let number = c.count_noted-original_received_count.ensures ∙ ap (count_by (λ noted. noted)) same in
    let run = c.in_ok-note_all.ensures []
    (subst (AreNoted []) (sym filled) (note_outcome-none c.args.original_count)) in (
      run.0,
      λ items begins.
          inl (cond_below _ _ _ _ c.if-original_received_count-original_count.true
          ∙ originals_alone-counted c.args.original_count items _ _ (Ok tt) filled (run.1 items begins) _ refl number),
    )

pub returns : goal.returns
returns g c =
    let filled : c.deref_mut.result.now ≡ replicate c.args.original_count false = search rules in
    let same : c.deref.result.now ≡ c.note_all.new.given = grind (arith, common_steps) in
    let number = c.count_noted-original_received_count.ensures ∙ ap (count_by (λ noted. noted)) same in
    let run = c.in_ok-note_all.ensures []
    (subst (AreNoted []) (sym filled) (note_outcome-none c.args.original_count)) in (
      run.0,
      λ items begins.
          inl (cond_above _ _ _ _ _ c.if-original_received_count-original_count.false refl
          ∙ originals_alone-counted c.args.original_count items _ _ (Ok tt) filled (run.1 items begins) _ refl number),
    )
