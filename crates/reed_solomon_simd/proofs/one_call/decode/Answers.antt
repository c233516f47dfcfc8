use Rattle.std.proofs.Common.{rules, Ok, sym, subst}
use Rattle.rs_field.specs.code.OneCall.{OneDecodeAnswers}
use Rattle.reed_solomon_simd.proofs.Collecting.{shards_in-empty}
use Rattle.rs_rate.proofs.objects_lemmas.Giving.{no-calls, always-both}
use Rattle.rs_rate.proofs.objects_lemmas.OneCall.{decoding-refused, decoding-nothing}
use Rattle.reed_solomon_simd.proofs.RestoringLemmas.{decoding-few, decoding-none-agrees, decoding-restored}
use Rattle.reed_solomon_simd.proofs.one_call.decode.Goals as goal

pub returns-in_err-counts-clause-calls : goal.returns-in_err-counts-clause-calls
returns-in_err-counts-clause-calls g c = search (rules, no-calls)

pub returns-in_err-counts-clause-answer : goal.returns-in_err-counts-clause-answer
returns-in_err-counts-clause-answer g c =
    always-both (λ item. (item.0, item.1.now)) (λ item. (item.0, item.1.now)) _ (returns-in_err-counts-clause-calls g c)

pub returns-in_err-received-clause-calls : goal.returns-in_err-received-clause-calls
returns-in_err-received-clause-calls g c =
    let run = rw (c.in_ok-counts.ensures.0, c.in_ok-counts.ensures.1) at c.in_err-received.ensures in (
      run.0,
      run.1,
      λ originals recoveries begins further. let led =
          decoding-refused c.args.original_count c.args.recovery_count originals recoveries _
          (run.2 originals recoveries begins further) in search rules,
    )

pub returns-in_err-received-clause-answer : goal.returns-in_err-received-clause-answer
returns-in_err-received-clause-answer g c =
    always-both (λ item. (item.0, item.1.now)) (λ item. (item.0, item.1.now)) _
    (returns-in_err-received-clause-calls g c)

pub returns-in_default-clause-calls : goal.returns-in_default-clause-calls
returns-in_default-clause-calls g c =
    let run = rw (c.in_ok-counts.ensures.0, c.in_ok-counts.ensures.1, c.in_default.is) at c.in_ok-received.ensures in (
      run.0,
      run.1,
      λ originals recoveries begins further.
          subst (λ restored. OneDecodeAnswers c.args.original_count c.args.recovery_count originals recoveries
          (Ok restored)) (sym (shards_in-empty c.new-in_default.result c.new-in_default.ensures.empty))
          (decoding-nothing c.args.original_count c.args.recovery_count originals recoveries
          (run.2 originals recoveries begins further)),
    )

pub returns-in_default-clause-answer : goal.returns-in_default-clause-answer
returns-in_default-clause-answer g c =
    always-both (λ item. (item.0, item.1.now)) (λ item. (item.0, item.1.now)) _ (returns-in_default-clause-calls g c)

pub returns-in_err-check_enough-clause-calls : goal.returns-in_err-check_enough-clause-calls
returns-in_err-check_enough-clause-calls g c =
    let run = rw (c.in_ok-counts.ensures.0, c.in_ok-counts.ensures.1, c.in-Some.is) at c.in_ok-received.ensures in (
      run.0,
      run.1,
      λ originals recoveries begins further.
          let led = decoding-few c.args.original_count c.args.recovery_count originals recoveries _
          (run.2 originals recoveries begins further) c.in_err-check_enough.field-0.0 c.in_err-check_enough.ensures in
          search rules,
    )

pub returns-in_err-check_enough-clause-answer : goal.returns-in_err-check_enough-clause-answer
returns-in_err-check_enough-clause-answer g c =
    always-both (λ item. (item.0, item.1.now)) (λ item. (item.0, item.1.now)) _
    (returns-in_err-check_enough-clause-calls g c)

pub returns-in_err-restored-clause-calls : goal.returns-in_err-restored-clause-calls
returns-in_err-restored-clause-calls g c =
    let run = rw (c.in_ok-counts.ensures.0, c.in_ok-counts.ensures.1, c.in-Some.is) at c.in_ok-received.ensures in (
      run.0,
      run.1,
      λ originals recoveries begins further.
          let led = decoding-none-agrees c.args.original_count c.args.recovery_count originals recoveries _
          (run.2 originals recoveries begins further)
          (sym c.in_ok-check_enough.ensures) c.in_err-restored.field-0.0 c.in_err-restored.ensures in
          search rules,
    )

pub returns-in_err-restored-clause-answer : goal.returns-in_err-restored-clause-answer
returns-in_err-restored-clause-answer g c =
    always-both (λ item. (item.0, item.1.now)) (λ item. (item.0, item.1.now)) _
    (returns-in_err-restored-clause-calls g c)

pub returns-clause-calls : goal.returns-clause-calls
returns-clause-calls g c =
    let run = rw (c.in_ok-counts.ensures.0, c.in_ok-counts.ensures.1, c.in-Some.is) at c.in_ok-received.ensures in (
      run.0,
      run.1,
      λ originals recoveries begins further.
          decoding-restored c.args.original_count c.args.recovery_count originals recoveries _
          (run.2 originals recoveries begins further) (sym c.in_ok-check_enough.ensures) _ c.by_index.ensures,
    )

pub returns-clause-answer : goal.returns-clause-answer
returns-clause-answer g c =
    always-both (λ item. (item.0, item.1.now)) (λ item. (item.0, item.1.now)) _ (returns-clause-calls g c)
