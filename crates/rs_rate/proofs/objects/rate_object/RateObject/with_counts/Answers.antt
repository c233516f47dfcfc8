use Rattle.std.proofs.Common.{refl, ap, ◌∙◌, rules}
use Rattle.std.proofs.lemmas.Result.{err_from_is_err_and}
use Rattle.rs_rate.proofs.values_lemmas.ConfiguredLemmas.{asked_rows}
use Rattle.rs_rate.proofs.objects.rate_object.RateObject.with_counts.Goals as goal

pub returns-in_err-configuration-clause-roomy : goal.returns-in_err-configuration-clause-roomy
returns-in_err-configuration-clause-roomy g c =
    g.met.R.ObjectRows.equal_with_room c.args.work _ c.args.shard_bytes _ _ (search rules)

pub returns-in_err-rows-clause-roomy : goal.returns-in_err-rows-clause-roomy
returns-in_err-rows-clause-roomy g c =
    let is = asked_rows g.R.ObjectRows.row_count g.met.R.ObjectRows.rows_set_up c.in_ok-configuration.ensures in
    let p = err_from_is_err_and c.from_residual-in_err-rows.result c.from_residual-in_err-rows.ensures.1 in
    rw (p.1, p.2) (rw (is.count, is.bytes, ← is.answer) at c.in_err-rows.ensures.roomy)

pub returns : goal.returns
returns g c =
    let is = asked_rows g.R.ObjectRows.row_count g.met.R.ObjectRows.rows_set_up c.in_ok-configuration.ensures in
    record {
      answer = rw (is.count, is.bytes, ← is.answer) at c.in_ok-rows.ensures.answer;
      made = (
        c.in_ok-rows.ensures.state g.C.RateMarker.rate
            ∙ ap g.R.ObjectRows.fresh c.in_ok-configuration.ensures.same,
        refl,
      );
      grown = c.in_ok-rows.ensures.grown;
      roomy = rw (is.count, is.bytes, ← is.answer) at c.in_ok-rows.ensures.roomy;
    }

pub invariant_of-result : goal.invariant_of-result
invariant_of-result g c = record { set_up = rw c.in_ok-rows.ensures.configuration c.in_ok-configuration.ensures.set_up }
