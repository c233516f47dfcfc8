-- The state of a decoder to which the received shards were added.
use Rattle.rs_field.specs.code.Decoder.{DecoderState}
use Rattle.rs_field.specs.code.OneCall.{default_of}
use Rattle.reed_solomon_simd.specs.declared.received_shards.ReceivedShards.{ReceivedShards}
use Rattle.reed_solomon_simd.specs.Received.{given_in}

-- the state with the configuration of received shards, and with these shards
abbrev pub received_state : ReceivedShards → DecoderState
received_state x =
    record {
      configuration = default_of x.counts.original_count x.counts.recovery_count x.shard_bytes;
      originals = given_in x.originals.shards.items;
      recovery = given_in x.recovery.shards.items;
    }
