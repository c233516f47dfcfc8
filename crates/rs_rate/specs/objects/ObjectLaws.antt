-- The laws of the traits, proved from the invariants of the rows.
use Rattle.std.specs.Prelude.{◌≡◌, ◌+◌, ◌*◌, ◌^◌, ◌<◌, ◌≤◌, ℕ, Bool, true, false, Some, None, is_some}
use Rattle.std.specs.Prelude.{nat_lt, if◌then◌else◌, refl}
use Rattle.std.proofs.Common.{sym, ap, ◌∙◌, subst, true≢false}
use Rattle.std.proofs.lemmas.Bool.{le-ltb}
use Rattle.std.specs.Vec.{vec_capacity}
use Rattle.rs_field.specs.code.Column.{Shard, IsShard}
use Rattle.rs_field.specs.code.Counts.{Rate}
use Rattle.rs_field.specs.code.Encoder.{IsEncoder}
use Rattle.rs_field.specs.code.Decoder.{IsDecoder}
use Rattle.rs_field.specs.code.Given.{AreWithin, Shards}
use Rattle.rs_field.specs.code.Frame.{encoder_rows, decoder_rows}
use Rattle.rs_field.proofs.words_lemmas.UpTo.{length-up_to, all-up_to}
use Rattle.rs_rate.specs.declared.rows.encoder_work.EncoderRows.{EncoderRows}
use Rattle.rs_rate.specs.declared.rows.decoder_work.DecoderRows.{DecoderRows}
use Rattle.rs_rate.specs.values.RowCounts.{encoder_rows_set_up, decoder_rows_set_up}
use Rattle.rs_rate.specs.rows.EncoderView.{encoder_state}
use Rattle.rs_rate.specs.rows.DecoderRoom.{HasRoom, memory_room}
use Rattle.rs_rate.specs.rows.DecoderView.{decoder_state}
use Rattle.rs_rate.specs.rows.Entering.{given_rows}
use Rattle.rs_rate.specs.rows.Marks.{part}
use Rattle.rs_rate.specs.values.SetUp.{IsSetUp}
use Rattle.rs_rate.specs.values.ChunkCounts.{chunk_count}
use Rattle.rs_rate.specs.rows.ShardRows.{shard_laid_out}

-- an encoder over rows of a valid configuration has a state that an encoder can have
pub is_encoder : (rate : Rate) (rows : EncoderRows) → IsSetUp rate rows.configuration
    → IsEncoder rate (encoder_state rate rows)
unfolding chunk_count
is_encoder rate rows is =
    record {
      of_rate = refl;
      valid = is.valid;
      fits = subst (λ (n : ℕ). chunk_count n rows.configuration.shard_bytes * 64 < 2 ^ 64)
          (encoder_rows_set_up rate rows.configuration is) rows.sized;
      no_more = subst (λ (n : ℕ). n ≤ rows.configuration.original_count)
          (sym (length-up_to rows.originals_given
          (shard_laid_out rows.chunks.items rows.configuration.shard_bytes))) rows.no_more;
      sized = all-up_to (IsShard rows.configuration.shard_bytes) rows.originals_given
          (shard_laid_out rows.chunks.items rows.configuration.shard_bytes) rows.shards;
    }

-- an encoder has room for its own rows
pub has_own_room : (rate : Rate) (rows : EncoderRows) → IsSetUp rate rows.configuration
    → chunk_count (encoder_rows rate rows.configuration.original_count rows.configuration.recovery_count)
    rows.configuration.shard_bytes ≤ vec_capacity rows.chunks
has_own_room rate rows is =
    subst (λ (n : ℕ). chunk_count n rows.configuration.shard_bytes ≤ vec_capacity rows.chunks)
    (encoder_rows_set_up rate rows.configuration is) rows.own_room

-- if the shards in rows have the size, so have those in a part of the rows
given_within : (rows : Shards) (size from n : ℕ) → ((p : ℕ) (shard : Shard) → rows p ≡ Some shard → IsShard size shard)
    → AreWithin n size (part rows from n)
unfolding part
given_within rows size from n sized =
    record {
      none_past = λ i outside. ap (λ b. if b then rows (from + i) else None) (le-ltb i n outside);
      sized = λ i shard is. by_test i shard (nat_lt i n) is;
    }
  where
    by_test : (i : ℕ) (shard : Shard) (inside : Bool) → (if inside then rows (from + i) else None) ≡ Some shard
        → IsShard size shard
    by_test i shard true is = sized (from + i) shard is
    by_test i shard false is = absurd (true≢false (sym (ap is_some is)))

-- a decoder over rows of a valid configuration has a state that a decoder can have
pub is_decoder : (rate : Rate) (rows : DecoderRows) → IsSetUp rate rows.configuration
    → IsDecoder rate (decoder_state rate rows)
unfolding chunk_count
is_decoder rate rows is =
    let s = rows.configuration in
    record {
      of_rate = refl;
      valid = is.valid;
      fits = subst (λ (n : ℕ). chunk_count n s.shard_bytes * 64 < 2 ^ 64)
          (rows.configured.rows ∙ decoder_rows_set_up rate rows.configuration is) rows.laid_out.sized;
      originals_within = given_within (given_rows rows.memory s.shard_bytes) s.shard_bytes s.frame.originals_from
          s.original_count rows.given.sized;
      recovery_within = given_within (given_rows rows.memory s.shard_bytes) s.shard_bytes s.frame.recovery_from
          s.recovery_count rows.given.sized;
    }

-- a decoder has room for its own rows
pub has_own_decoder_room : (rate : Rate) (rows : DecoderRows) → IsSetUp rate rows.configuration
    → HasRoom (memory_room rows.memory)
    (decoder_rows rate rows.configuration.original_count rows.configuration.recovery_count)
    rows.configuration.shard_bytes
has_own_decoder_room rate rows is =
    subst (λ (n : ℕ). HasRoom (memory_room rows.memory) n rows.configuration.shard_bytes)
    (rows.configured.rows ∙ decoder_rows_set_up rate rows.configuration is) rows.laid_out.room
