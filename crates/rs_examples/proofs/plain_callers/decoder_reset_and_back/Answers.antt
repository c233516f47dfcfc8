use Rattle.std.proofs.Common.{◌≡◌, ap, ap₂, subst, arith, ◌∙◌}
use Rattle.std.specs.Prelude.{OnOk}
use Rattle.reed_solomon_simd.specs.Counts.{default_rate}
use Rattle.reed_solomon_simd.specs.DecoderObject.{state_of, room_of}
use Rattle.reed_solomon_simd.specs.DecoderRoom.{HasRoom}
use Rattle.reed_solomon_simd.specs.Decoder.{fresh_decoder}
use Rattle.reed_solomon_simd.specs.OneCall.{default_of}
use Rattle.reed_solomon_simd.specs.Frame.{decoder_rows}
use Rattle.reed_solomon_simd.specs.ChunkCounts.{chunk_count}
use Rattle.reed_solomon_simd.proofs.ObjectLaws.{valid-decoder, own_room-decoder}
use Rattle.reed_solomon_simd.proofs.ShardRowsLemmas.{chunk_count-size}
use Rattle.reed_solomon_simd.proofs.StateLemmas.{start_outcome-roomy}
use Rattle.rs_examples.proofs.plain_callers.decoder_reset_and_back.Goals as goal

pub returns-clause-answer : goal.returns-clause-answer
unfolding chunk_count
returns-clause-answer c =
    let own = (state_of c.args.decoder.now).configuration in
    let rows = decoder_rows default_rate c.args.original_count c.args.recovery_count in
    let same : rows ≡ decoder_rows default_rate own.original_count own.recovery_count =
    ap₂ (decoder_rows default_rate) c.requires.within.0 c.requires.within.1 in
    let chunks = ap (λ n. chunk_count n own.shard_bytes) same in
    let less = chunk_count-size rows c.args.shard_bytes own.shard_bytes c.requires.within.2 in
    let room = own_room-decoder c.args.decoder.now in
    let grown = c.reset.ensures.grown in
    let has : HasRoom (room_of c.reset.new.self) rows c.args.shard_bytes =
    record {
      chunks = omega (arith, chunks, less, room.chunks, grown.chunks);
      rows = omega (arith, same, room.rows, grown.rows);
      entries = omega (arith, same, room.entries, grown.entries);
    } in
    let fits = (valid-decoder c.args.decoder.now).fits in
    c.reset-2.ensures.roomy has
    ∙ start_outcome-roomy rows
    (default_of c.args.original_count c.args.recovery_count c.args.shard_bytes) c.requires.valid
    (omega (arith, chunks, less, fits))

pub returns-clause-state : goal.returns-clause-state
returns-clause-state c =
    subst (λ r. OnOk r (state_of c.reset-2.new.self
    ≡ fresh_decoder (default_of c.args.original_count c.args.recovery_count c.args.shard_bytes)))
    (returns-clause-answer c) c.reset-2.ensures.ok
