use Rattle.std.proofs.Common.{rules, ap₂, sym, ◌∙◌, refl}
use Rattle.rs_rate.proofs.values_lemmas.ConfiguredLemmas.{asked_rows, either_way}
use Rattle.rs_rate.proofs.rows_lemmas.StateLemmas.{memory_outcome-made, on_ok-at, on_err-at}
use Rattle.rs_rate.proofs.objects.rate_object.RateObject.set_up_anew.Goals as goal

pub returns-in_err-configuration-clause-grown : goal.returns-in_err-configuration-clause-grown
returns-in_err-configuration-clause-grown g c = g.met.R.ObjectRows.grows_from_itself _

pub returns : goal.returns
returns g c =
    let is = asked_rows g.R.ObjectRows.row_count g.met.R.ObjectRows.rows_set_up c.in_ok-configuration.ensures in
    let old = c.args.self.now in
    let own = g.R.ObjectRows.configuration_of old.rows in
    let roomy = rw (is.count, is.bytes, ← is.answer) at c.reset.ensures.roomy in
    record {
      answer = rw (is.count, is.bytes, ← is.answer) at c.reset.ensures.answer;
      ok = rw (← c.in_ok-configuration.ensures.same) (on_ok-at g.C.RateMarker.rate c.reset.result _ c.reset.ensures.ok);
      err = on_err-at g.C.RateMarker.rate c.reset.result _ c.reset.ensures.err;
      roomy = roomy;
      own = λ within.
          let rows = ap₂ (g.R.ObjectRows.row_count g.C.RateMarker.rate) within.0 within.1
          ∙ sym (g.met.R.ObjectRows.rows_set_up g.C.RateMarker.rate own old.set_up) in
          let room = rw (← rows) at (g.met.R.ObjectRows.own_room old.rows c.args.shard_bytes within.2) in
          memory_outcome-made _ c.reset.result room.0 (roomy room.1 ∙ is.answer);
      engine = refl;
      grown = c.reset.ensures.grown;
    }

pub invariant_of-self : goal.invariant_of-self
invariant_of-self g c = search (rules, either_way)
