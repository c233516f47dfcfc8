use Rattle.std.proofs.lemmas.Grind.{common_steps}
use Rattle.std.proofs.Common.{◌≡◌, subst, arith}
use Rattle.std.specs.Prelude.{OnOk}
use Rattle.reed_solomon_simd.specs.EncoderObject.{state_of}
use Rattle.reed_solomon_simd.specs.Encoder.{fresh_encoder}
use Rattle.reed_solomon_simd.specs.OneCall.{default_of}
use Rattle.reed_solomon_simd.specs.ChunkCounts.{chunk_count}
use Rattle.reed_solomon_simd.proofs.ObjectLaws.{valid-encoder, own_room-encoder}
use Rattle.reed_solomon_simd.proofs.ShardRowsLemmas.{chunk_count-size}
use Rattle.rs_examples.proofs.plain_callers.encoder_reset_and_back.Goals as goal

pub returns-clause-answer : goal.returns-clause-answer
unfolding chunk_count
returns-clause-answer c = grind (arith, common_steps, chunk_count-size, own_room-encoder, valid-encoder)

pub returns-clause-state : goal.returns-clause-state
returns-clause-state c =
    subst (λ r. OnOk r (state_of c.reset-2.new.self
    ≡ fresh_encoder (default_of c.args.original_count c.args.recovery_count c.args.shard_bytes)))
    (returns-clause-answer c) c.reset-2.ensures.ok
