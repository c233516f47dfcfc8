-- Each plain object has a valid configuration of the default rate, at most as many shards as the configuration allows,
-- and room for its rows.
use Rattle.std.proofs.Common.{◌≤◌}
use Rattle.rs_field.specs.code.Counts.{default_rate}
use Rattle.rs_field.specs.code.Encoder.{IsEncoder}
use Rattle.rs_field.specs.code.Decoder.{IsDecoder}
use Rattle.rs_field.specs.code.Frame.{encoder_rows, decoder_rows}
use Rattle.rs_rate.specs.rows.DecoderRoom.{HasRoom}
use Rattle.rs_rate.specs.objects.ObjectLaws.{is_encoder, is_decoder, has_own_room, has_own_decoder_room}
use Rattle.rs_rate.specs.values.ChunkCounts.{chunk_count}
use Rattle.reed_solomon_simd.specs.declared.encoder.ReedSolomonEncoder.{ReedSolomonEncoder}
use Rattle.reed_solomon_simd.specs.declared.decoder.ReedSolomonDecoder.{ReedSolomonDecoder}
use Rattle.reed_solomon_simd.specs.EncoderObject.{state_of as encoder_state, room_of as encoder_room}
use Rattle.reed_solomon_simd.specs.DecoderObject.{state_of as decoder_state, room_of as decoder_room}

pub valid-encoder : (object : ReedSolomonEncoder) → IsEncoder default_rate (encoder_state object)
valid-encoder object = is_encoder default_rate object.encoder.rows object.encoder.set_up

pub own_room-encoder : (object : ReedSolomonEncoder) → let c = (encoder_state object).configuration in
    chunk_count (encoder_rows default_rate c.original_count c.recovery_count) c.shard_bytes ≤ encoder_room object
own_room-encoder object = has_own_room default_rate object.encoder.rows object.encoder.set_up

pub valid-decoder : (object : ReedSolomonDecoder) → IsDecoder default_rate (decoder_state object)
valid-decoder object = is_decoder default_rate object.decoder.rows object.decoder.set_up

pub own_room-decoder : (object : ReedSolomonDecoder) → let c = (decoder_state object).configuration in
    HasRoom (decoder_room object) (decoder_rows default_rate c.original_count c.recovery_count) c.shard_bytes
own_room-decoder object = has_own_decoder_room default_rate object.decoder.rows object.decoder.set_up
