use Rattle.std.proofs.Common.{rules, ap, ◌∙◌}
use Rattle.reed_solomon_simd.specs.Decoder.{enough_given}
use Rattle.reed_solomon_simd.specs.DecoderObject.{state_of}
use Rattle.reed_solomon_simd.proofs.ObjectLaws.{valid-decoder}
use Rattle.reed_solomon_simd.proofs.CallerLemmas.{ended, fresh-too_few}
use Rattle.rs_examples.proofs.plain_callers.end_a_round.Goals as goal

pub returns-clause-answer : goal.returns-clause-answer
returns-clause-answer c =
    let s = state_of c.args.decoder.now in
    let few = ap enough_given (c.decode_only.ensures.state ∙ ended s c.requires)
    ∙ fresh-too_few s.configuration (valid-decoder c.args.decoder.now).valid in
    search rules
