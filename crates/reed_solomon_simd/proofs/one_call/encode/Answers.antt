use Rattle.std.proofs.Common.{rules, IfOk}
use Rattle.rs_field.specs.code.RoundTrip.{AreCoded}
use Rattle.rs_field.specs.code.OneCall.{collected_shards}
use Rattle.rs_rate.proofs.objects_lemmas.Giving.{no-calls, always-run}
use Rattle.rs_rate.proofs.objects_lemmas.OneCall.{encoding-refused}
use Rattle.reed_solomon_simd.proofs.Gathering.{gathered-is, encoded-few, encoded-all, encoded-coded}
use Rattle.reed_solomon_simd.proofs.one_call.encode.Goals as goal

pub returns-in_err-counts-clause-calls : goal.returns-in_err-counts-clause-calls
returns-in_err-counts-clause-calls g c = search (rules, no-calls)

pub returns-in_err-counts-clause-answer : goal.returns-in_err-counts-clause-answer
returns-in_err-counts-clause-answer g c = always-run (returns-in_err-counts-clause-calls g c)

pub returns-in_err-originals-clause-calls : goal.returns-in_err-originals-clause-calls
returns-in_err-originals-clause-calls g c =
    let run = rw (c.in_ok-counts.ensures.0, c.in_ok-counts.ensures.1) at c.in_err-originals.ensures.gathered in (
      run.0,
      λ items begins. let led =
          encoding-refused c.args.original_count c.args.recovery_count items _ (run.1 items begins) in search rules,
    )

pub returns-in_err-originals-clause-answer : goal.returns-in_err-originals-clause-answer
returns-in_err-originals-clause-answer g c = always-run (returns-in_err-originals-clause-calls g c)

pub returns-in_err-check_all_given-clause-calls : goal.returns-in_err-check_all_given-clause-calls
returns-in_err-check_all_given-clause-calls g c =
    let run = rw (c.in_ok-counts.ensures.0, c.in_ok-counts.ensures.1) at c.in_ok-originals.ensures.gathered in (
      run.0,
      λ items begins. let led =
          encoded-few c.args.original_count c.args.recovery_count items _
          (run.1 items begins) _ c.in_err-check_all_given.ensures in search rules,
    )

pub returns-in_err-check_all_given-clause-answer : goal.returns-in_err-check_all_given-clause-answer
returns-in_err-check_all_given-clause-answer g c = always-run (returns-in_err-check_all_given-clause-calls g c)

pub returns-clause-calls : goal.returns-clause-calls
returns-clause-calls g c =
    let run = rw (c.in_ok-counts.ensures.0, c.in_ok-counts.ensures.1) at c.in_ok-originals.ensures.gathered in (
      run.0,
      λ items begins.
          encoded-all c.args.original_count c.args.recovery_count items _
          (run.1 items begins) c.in_ok-check_all_given.ensures _ c.encode_vectors.ensures,
    )

pub returns-clause-answer : goal.returns-clause-answer
returns-clause-answer g c = always-run (returns-clause-calls g c)

pub returns-clause-coded : goal.returns-clause-coded
returns-clause-coded g c =
    let run = rw (c.in_ok-counts.ensures.0, c.in_ok-counts.ensures.1) at c.in_ok-originals.ensures.gathered in
    always-run {P = λ items.
    IfOk (collected_shards c.encode_vectors.result) (AreCoded c.args.original_count c.args.recovery_count items)} (
      run.0,
      λ items begins.
          encoded-coded c.args.original_count c.args.recovery_count items _ (run.1 items begins)
          (gathered-is c.in_ok-originals.originals) c.in_ok-check_all_given.ensures _ c.encode_vectors.ensures,
    )
