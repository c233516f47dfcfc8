-- The encoder state that gathered originals represent, and the encoder of their strips.
use Rattle.std.specs.Prelude.{◌≡◌, ◌%◌, true, min}
use Rattle.rs_field.specs.code.Encoder.{EncoderState}
use Rattle.rs_field.specs.code.OneCall.{default_of}
use Rattle.rs_rate.specs.declared.objects.strip_encoder.StripEncoder.{StripEncoder}
use Rattle.rs_rate.specs.objects.StripView.{code_of}
use Rattle.reed_solomon_simd.specs.Rooms.{shards_of}
use Rattle.reed_solomon_simd.specs.declared.lent_originals.LentOriginals.{LentOriginals}

-- the state of an encoder for the counts and the size of gathered originals, to which these originals were added
abbrev pub lent_state : LentOriginals → EncoderState
lent_state x = record {
  configuration = default_of x.counts.original_count x.counts.recovery_count x.shard_bytes;
  given =
      shards_of x.shards.items;
}

-- an encoder is made for the strips of gathered originals, which have at most 4096 bytes; if it reads originals where
-- they are, no strip has a tail
pub record IsStripEncoder (x : LentOriginals) (encoder : StripEncoder) : Type 0 where
  pub code : code_of encoder
      ≡ default_of x.counts.original_count x.counts.recovery_count (min 4096 x.shard_bytes)
  pub whole : encoder.reads ≡ true → x.shard_bytes % 64 ≡ 0
