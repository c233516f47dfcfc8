-- A round trip with an encoder and a decoder, in terms of what the contracts of its calls state.
use Rattle.std.proofs.Common.{rules, ◌≡◌, ℕ, ◌+◌, ◌≤◌, List, Result, Ok, Err, IfOk}
use Rattle.reed_solomon_simd.specs.declared.Error.{Error}
use Rattle.reed_solomon_simd.specs.declared.Error.TheVariants.{OutOfMemory}
use Rattle.reed_solomon_simd.specs.Code.{AreRecovery}
use Rattle.reed_solomon_simd.specs.Column.{Shard, AreShards}
use Rattle.reed_solomon_simd.specs.Configuration.{Configuration}
use Rattle.reed_solomon_simd.specs.Counts.{Rate}
use Rattle.reed_solomon_simd.specs.Decoder.{DecoderState, fresh_decoder, DecodeAnswers}
use Rattle.reed_solomon_simd.specs.Encoder.{EncoderState, IsEncoder, fresh_encoder, EncodeAnswers}
use Rattle.reed_solomon_simd.specs.Given.{Shards, Lists}
use Rattle.reed_solomon_simd.specs.Giving.{Reaches}
use Rattle.reed_solomon_simd.specs.OneCall.{with_shards, with_originals, with_recoveries}
use Rattle.reed_solomon_simd.specs.RoundTrip.{GivesBack}
use Rattle.reed_solomon_simd.proofs.Giving.{reached-ok}
use Rattle.reed_solomon_simd.proofs.ObjectRoundTrip.{codes-given, gives-back, copies-lost, gives-kept, gives-received}
use Rattle.rs_examples.specs.Losing.{is_lost, left_of, left_below, lost_at}
use Rattle.rs_examples.proofs.LeftCount.{left-number}

-- A fresh encoder took all originals and encoded them, and a decoder is fresh.
module _ {rate : Rate} {c : Configuration} {new_encoder encoder : EncoderState} (originals recovery : List Shard)
    (lost recovery_lost : List ℕ) (encoder_fresh : new_encoder ≡ fresh_encoder c)
    (given : Reaches (with_shards new_encoder originals) (Ok tt) (λ s. encoder ≡ s)) (is : IsEncoder rate encoder)
    (coded : EncodeAnswers encoder (Ok recovery)) {new_decoder : DecoderState}
    (decoder_fresh : new_decoder ≡ fresh_decoder c) where
  -- The originals and the result of the encoder are a message and its recovery shards.
  all : AreShards c.original_count c.shard_bytes originals × AreRecovery c originals recovery
  all = codes-given rate c originals recovery new_encoder encoder encoder_fresh (reached-ok _ encoder given) is coded

  -- Adding the originals that are not lost does not fail.
  pub kept-taken : (P : DecoderState → Type 0) (e : Error)
      → Reaches (with_originals new_decoder (left_of originals lost)) (Err e) P → ⊥
  kept-taken = gives-kept c originals recovery (is_lost lost) (is_lost recovery_lost) new_decoder decoder_fresh all

  -- The decoder took the originals that are not lost.
  module _ (half : DecoderState)
      (kept : Reaches (with_originals new_decoder (left_of originals lost)) (Ok tt) (λ s. half ≡ s)) where
    -- Adding the recovery shards that are not lost does not fail.
    pub received-taken : (P : DecoderState → Type 0) (e : Error)
        → Reaches (with_recoveries half (left_of recovery recovery_lost)) (Err e) P → ⊥
    received-taken P e =
        gives-received c originals recovery (is_lost lost) (is_lost recovery_lost) new_decoder decoder_fresh all half P
        e (reached-ok _ half kept)

    -- The decoder took the recovery shards that are not lost.
    module _ (decoder : DecoderState)
        (received : Reaches (with_recoveries half (left_of recovery recovery_lost)) (Ok tt) (λ s. decoder ≡ s)) where
      back : (result : Result Shards Error) → DecodeAnswers decoder result
          → GivesBack originals (left_of originals lost) (left_of recovery recovery_lost) result
      back result =
          gives-back c originals recovery (is_lost lost) (is_lost recovery_lost) new_decoder half decoder result all
          decoder_fresh (reached-ok _ half kept) (reached-ok _ decoder received)

      -- If enough shards are left, decoding can only fail because memory cannot be allocated.
      pub only-memory : (e : Error) → DecodeAnswers decoder (Err e)
          → c.original_count ≤ left_below c.original_count lost + left_below c.recovery_count recovery_lost
          → e ≡ OutOfMemory
      only-memory e answer many = search (rules, left-number, all, back)

      -- Copies of the restored originals are copies of the lost originals.
      pub copies-back : {V : Type 0} (out : Shards) (result : Result V Error) (items : V → List (ℕ × Shard))
          → DecodeAnswers decoder (Ok out) → IfOk result (λ v. Lists out (items v))
          → IfOk result (λ v. Lists (lost_at originals lost) (items v))
      copies-back out result items answer copies =
          copies-lost originals (is_lost lost) (left_of recovery recovery_lost) out result items (back (Ok out) answer)
          copies
