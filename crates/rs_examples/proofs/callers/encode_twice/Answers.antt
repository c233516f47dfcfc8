use Rattle.std.proofs.Common.{◌<◌, arith}
use Rattle.std.proofs.lemmas.Grind.{common_steps}
use Rattle.reed_solomon_simd.proofs.CallerLemmas.{valid-some}
use Rattle.rs_examples.proofs.callers.encode_twice.Goals as goal

pub returns-clause-answer : goal.returns-clause-answer
returns-clause-answer g c =
    let some : 0 < (g.X.RateEncoder.state c.args.encoder.now).configuration.original_count =
    valid-some (g.X.RateEncoder.state c.args.encoder.now).configuration
    (g.met.X.RateEncoder.valid c.args.encoder.now).valid in
    grind (arith, common_steps)
