-- Encoders and decoders that are ready for strips of received shards, and the messages that encoders take.
use Rattle.std.specs.Prelude.{◌≡◌, ℕ, ◌%◌, ◌<◌, ◌≤◌, Bool, true, List, [], take, Option, Some, None, unwrap_or}
use Rattle.rs_field.specs.code.Column.{Shard}
use Rattle.rs_field.specs.code.Counts.{default_rate}
use Rattle.rs_field.specs.code.Decoder.{DecoderState, fresh_decoder, originals_given, recovery_given}
use Rattle.rs_field.specs.code.Frame.{frame_at}
use Rattle.rs_field.specs.code.Given.{Shards}
use Rattle.rs_field.specs.words.UpTo.{up_to}
use Rattle.rs_rate.specs.declared.rows.decoder_work.DecoderRows.{DecoderRows}
use Rattle.rs_rate.specs.declared.objects.strip_encoder.StripEncoder.{StripEncoder}
use Rattle.rs_rate.specs.passes.Decoding.{IsLocatorOf}
use Rattle.rs_rate.specs.rows.DecoderView.{decoder_state}
use Rattle.rs_rate.specs.objects.StripView.{code_of, coded_shards}
use Rattle.reed_solomon_simd.specs.declared.strip_rounds.Rounds.{Rounds}
use Rattle.reed_solomon_simd.specs.Base.{MarksReceived}
use Rattle.reed_solomon_simd.specs.Making.{strip_configuration}

-- rows have the locator for n first marks, in rounds in which the shards with the indexes of the received ones are
-- given
abbrev pub HasLocator : DecoderRows → DecoderState → ℕ → Type 0
HasLocator rows s n =
    (marks : List Bool) × MarksReceived s marks
    × IsLocatorOf (frame_at s.configuration) (take n marks) rows.memory.entries.items

-- a decoder without shards has room for strips of n bytes of received shards; after the first round it has the locator
pub record IsReadyToDecode (rounds : Rounds) (s : DecoderState) (n : ℕ) : Type 0 where
  pub size : ℕ
  pub room : n ≤ size
  pub fresh : decoder_state default_rate rounds.decoder.rows ≡ fresh_decoder (strip_configuration s size)
  pub located : (m : ℕ) → rounds.located ≡ Some m → HasLocator rounds.decoder.rows s m

-- an encoder has room for strips of n bytes of received shards; if it reads originals where they are, no strip has a
-- tail
pub record IsReadyToEncode (encoder : StripEncoder) (s : DecoderState) (n : ℕ) : Type 0 where
  pub size : ℕ
  pub room : n ≤ size
  pub code : code_of encoder ≡ strip_configuration s size
  pub whole : encoder.reads ≡ true → s.configuration.shard_bytes % 64 ≡ 0

-- the recovery shards of the last strip of an encoder, or none if there is no encoder
abbrev pub lent_by : Option StripEncoder → List Shard
lent_by (Some encoder) = coded_shards encoder
lent_by None = []

-- an encoder is ready for strips of n bytes, and all originals and some recovery shards were received
pub record IsReadyToCompare (encoder : StripEncoder) (s : DecoderState) (n : ℕ) : Type 0 where
  pub ready : IsReadyToEncode encoder s n
  pub all : originals_given s ≡ s.configuration.original_count
  pub some : 0 < recovery_given s

-- the first of two optional shards that is there
abbrev pub first_of : Option Shard → Option Shard → Option Shard
first_of (Some shard) other = Some shard
first_of None other = other

-- an original, if it was received or restored
abbrev pub own_piece : DecoderState → Shards → ℕ → Option Shard
own_piece s restored i = first_of (s.originals i) (restored i)

-- the originals, each of which was received or restored
abbrev pub own_message : DecoderState → Shards → List Shard
own_message s restored = up_to s.configuration.original_count (λ i. unwrap_or (own_piece s restored i) [])
