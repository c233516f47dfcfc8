use Rattle.std.proofs.Common.{◌≡◌, ◌%◌, sym, ap, subst, refl, ◌∙◌, arith}
use Rattle.std.specs.Prelude.{Ok}
use Rattle.std.proofs.lemmas.Bool.{ne_eqb}
use Rattle.rs_field.specs.declared.code.frame.Frame.{Frame}
use Rattle.rs_field.specs.code.Configuration.{configuration, validation_outcome}
use Rattle.rs_field.specs.code.Frame.{frame_of}
use Rattle.rs_rate.specs.declared.values.configuration.Configuration.{Configuration}
use Rattle.rs_rate.specs.values.SetUp.{IsSetUp}
use Rattle.rs_rate.proofs.values_lemmas.ConfiguredLemmas.{with_frame-is}
use Rattle.rs_rate.proofs.values_lemmas.RateLemmas.{chooses, frame-low}
use Rattle.rs_rate.proofs.values.configuration.Configuration.new.Goals as goal

pub returns : goal.returns
returns g c =
    let rate = g.C.RateMarker.rate in
    let k = c.args.counts.original_count in
    let r = c.args.counts.recovery_count in
    let size = c.args.shard_bytes in
    let valid : validation_outcome
    (configuration g.C.RateMarker.rate c.args.counts.original_count c.args.counts.recovery_count c.args.shard_bytes)
    ≡ Ok tt =
    rw (
      c.args.counts.supported,
      ne_eqb size 0 c.if-shard_bytes-eq0.false,
      ne_eqb (size % 2) 1 c.if-shard_bytes-eq1.false,
    ) refl in
    let same = ap (λ (x : Frame). let own : Configuration =
    record { original_count = k; recovery_count = r; shard_bytes = size; frame = x } in own) c.args.counts.framed in
    record {
      same = refl;
      set_up = subst (IsSetUp g.C.RateMarker.rate) (sym same) (record {
        valid = valid;
        chosen = refl;
        alike = chooses (frame_of rate k r).is_low k r ∙ frame-low rate k r;
        configured = with_frame-is (configuration rate k r size) c.args.counts.supported
            (omega (arith, c.if-shard_bytes-eq0.false)) (omega (arith, c.if-shard_bytes-eq1.false));
      });
    }
