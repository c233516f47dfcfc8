use Rattle.std.proofs.Common.{◌<◌, arith}
use Rattle.std.proofs.lemmas.Grind.{common_steps}
use Rattle.reed_solomon_simd.specs.EncoderObject.{state_of}
use Rattle.reed_solomon_simd.proofs.ObjectLaws.{valid-encoder}
use Rattle.reed_solomon_simd.proofs.CallerLemmas.{valid-some}
use Rattle.rs_examples.proofs.plain_callers.forget_a_round.Goals as goal

pub returns-clause-answer : goal.returns-clause-answer
returns-clause-answer c =
    let some : 0 < (state_of c.args.encoder.now).configuration.original_count =
    valid-some (state_of c.args.encoder.now).configuration (valid-encoder c.args.encoder.now).valid in
    grind (arith, common_steps)
