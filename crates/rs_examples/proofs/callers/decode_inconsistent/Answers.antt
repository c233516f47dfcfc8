use Rattle.std.proofs.Common.{rules, ap, ◌∙◌}
use Rattle.reed_solomon_simd.specs.Decoder.{enough_given}
use Rattle.reed_solomon_simd.proofs.CallerLemmas.{ended, fresh-too_few}
use Rattle.rs_examples.proofs.callers.decode_inconsistent.Goals as goal

pub returns-clause-next : goal.returns-clause-next
returns-clause-next g c enough =
    let s = g.X.RateDecoder.state c.args.decoder.now in
    let few = ap enough_given (c.decode_just_enough-first.ensures.state ∙ ended s enough)
    ∙ fresh-too_few s.configuration (g.met.X.RateDecoder.valid c.args.decoder.now).valid in
    search rules
