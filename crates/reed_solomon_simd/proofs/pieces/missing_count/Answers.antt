use Rattle.std.proofs.Common.{rules, arith}
use Rattle.rs_field.specs.code.Decoder.{DecoderState}
use Rattle.rs_field.proofs.code_lemmas.Entries.{count_most}
use Rattle.reed_solomon_simd.proofs.pieces.missing_count.Goals as goal

pub overflow_sub-result : goal.overflow_sub-result
overflow_sub-result g c = search (rules, count_most)

pub returns : goal.returns
returns g c =
    let s : DecoderState = g.P.Pieces.received c.args.received.now in
    let most = count_most s.configuration.original_count s.originals in
    omega (arith, most, c.counts.ensures.originals, c.original_received_count.ensures)
