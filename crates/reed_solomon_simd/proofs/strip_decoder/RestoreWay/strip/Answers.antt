use Rattle.std.proofs.Common.{ℕ, subst, inr, arith}
use Rattle.std.proofs.lemmas.Result.{on_ok_weaker}
use Rattle.rs_field.specs.code.Decoder.{DecoderState}
use Rattle.rs_field.specs.code.Given.{Shards, Lists}
use Rattle.rs_field.specs.code.PieceStates.{shards_listed}
use Rattle.rs_field.proofs.code_lemmas.MissingShards.{pieces-number, pieces-sized}
use Rattle.rs_rate.specs.rows.DecoderView.{restored_by_rows}
use Rattle.reed_solomon_simd.proofs.MissingLemmas.{names-all, restored-named}
use Rattle.reed_solomon_simd.proofs.RoundLemmas.{decode-shorter, matched, ok-anyway}
use Rattle.reed_solomon_simd.proofs.strip_decoder.RestoreWay.strip.Goals as goal

pub decode-requires-clause-ready : goal.decode-requires-clause-ready
decode-requires-clause-ready g c =
    let (n, most, rounds) = c.requires.ready in decode-shorter most rounds

pub put_pieces-requires-clause-pieces : goal.put_pieces-requires-clause-pieces
put_pieces-requires-clause-pieces g c =
    let start : ℕ = c.args.start in let end : ℕ = c.args.end in
    let x : DecoderState = g.S.Pieces.received c.args.store.now in
    let made = c.in_ok-restored_count.ensures.restored in
    λ items listing.
    let here : Lists (restored_by_rows c.decode.new.self.decoder.rows) items =
    subst (λ (out : Shards). Lists out items) c.restored.ensures listing in
    let number = pieces-number x start end made here in
    let names = (names-all x).number in (
      omega (arith, number, names, c.requires.rooms.number),
      pieces-sized x start end made here,
    )

pub returns-clause-made : goal.returns-clause-made
returns-clause-made g c =
    matched _ _ _ c.put_pieces.result (on_ok_weaker c.put_pieces.result (λ all. (
      shards_listed all.0,
      restored-named c.args.start c.args.end (g.S.Pieces.received c.args.store.now)
          (restored_by_rows c.decode.new.self.decoder.rows) all.0 c.in_ok-restored_count.ensures.restored
          (subst (λ (out : Shards). Lists out all.0) c.restored.ensures all.1),
      all.2,
    )) c.put_pieces.ensures.put) c.put_pieces.ensures.refused (λ e short. inr short)

pub returns-clause-ready : goal.returns-clause-ready
returns-clause-ready g c = ok-anyway _ c.put_pieces.result c.in_ok-restored_count.ensures.ready
