use Rattle.std.proofs.Common.{ap, ◌∙◌}
use Rattle.rs_field.specs.code.Configuration.{configuration}
use Rattle.rs_field.specs.code.Decoder.{DecoderState, fresh_decoder}
use Rattle.rs_rate.proofs.objects.strips.RateObject+unit+C+DecoderRows.narrow.Goals as goal

pub returns-then-shard_bytes-self-clause-fresh : goal.returns-then-shard_bytes-self-clause-fresh
returns-then-shard_bytes-self-clause-fresh g c = λ asked fresh.
    c.narrow.ensures.state g.C.RateMarker.rate
    ∙ ap (λ (s : DecoderState). fresh_decoder (configuration s.configuration.rate s.configuration.original_count
    s.configuration.recovery_count c.args.shard_bytes)) fresh
