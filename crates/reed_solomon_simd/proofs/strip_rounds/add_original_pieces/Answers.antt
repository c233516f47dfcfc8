use Rattle.std.proofs.lemmas.Grind.{common_steps}
use Rattle.std.proofs.Common.{refl, sym, ap, ◌∙◌, arith}
use Rattle.rs_field.specs.code.Counts.{default_rate}
use Rattle.rs_field.specs.code.Decoder.{DecoderState}
use Rattle.rs_field.specs.code.Given.{Shards}
use Rattle.rs_field.specs.code.Outcome.{answer_of, state_after}
use Rattle.rs_rate.specs.rows.DecoderView.{decoder_state}
use Rattle.rs_rate.proofs.rows_lemmas.FirstShards.{first-none, first-skipped}
use Rattle.reed_solomon_simd.proofs.StripDecodeLemmas.{original-piece-taken}
use Rattle.reed_solomon_simd.proofs.strip_rounds.add_original_pieces.Goals.{in-Some}
use Rattle.reed_solomon_simd.proofs.strip_rounds.add_original_pieces.Goals.{in_default}
use Rattle.reed_solomon_simd.proofs.strip_rounds.add_original_pieces.Goals as goal

abbrev given_to : DecoderState → Shards → DecoderState
given_to s given = record s { originals = given }

pub loop-index-init : goal.loop-index-init
loop-index-init g c =
    (ap (given_to (decoder_state default_rate c.args.decoder.now.rows)) (c.requires.none ∙ first-none _), refl)

pub take_original-requires : goal.take_original-requires
take_original-requires g c =
    let s : DecoderState = decoder_state default_rate c.args.decoder.now.rows in
    let x : DecoderState = g.P.Pieces.received c.args.received.now in
    ap answer_of
    (original-piece-taken _ _ c.loop-index.index x s (decoder_state default_rate c.loop-index.decoder.rows) _
    c.requires.order c.requires.inside c.requires.set_up
    c.requires.configured c.loop-index.invariant.0
    (omega (arith, c.counts-index-end.ensures.originals, c.loop-index-test.true)) (sym c.in-Some.ensures))

pub loop-index-preserved : goal.loop-index-preserved
loop-index-preserved g c =
    let s : DecoderState = decoder_state default_rate c.args.decoder.now.rows in
    let x : DecoderState = g.P.Pieces.received c.args.received.now in
    elim c.match-piece.branch [
      | in-Some w ↦ (
        ap (λ d. decoder_state default_rate d.rows) w.decoder-is ∙ w.take_original.ensures.left
            ∙ ap (state_after (decoder_state default_rate c.loop-index.decoder.rows))
            (original-piece-taken _ _ c.loop-index.index x s (decoder_state default_rate c.loop-index.decoder.rows) _
            c.requires.order c.requires.inside c.requires.set_up
            c.requires.configured c.loop-index.invariant.0
            (omega (arith, c.counts-index-end.ensures.originals, c.loop-index-test.true)) (sym w.in-Some.ensures)),
        ap (λ d. d.rows.memory.entries) w.decoder-is ∙ w.take_original.ensures.locator ∙ c.loop-index.invariant.1,
      )
      | in_default w ↦ (
        ap (λ d. decoder_state default_rate d.rows) w.decoder-is ∙ c.loop-index.invariant.0
            ∙ ap (given_to s) (first-skipped c.loop-index.index _ (sym w.in_default.ensures)),
        ap (λ d. d.rows.memory.entries) w.decoder-is ∙ c.loop-index.invariant.1,
      )
    ]

pub returns-clause-added : goal.returns-clause-added
returns-clause-added g c = grind (arith, common_steps)
