use Rattle.std.proofs.Common.{◌≡◌, ◌-◌, ap, ◌∙◌, arith}
use Rattle.rs_field.specs.code.Counts.{default_rate}
use Rattle.rs_field.specs.code.Decoder.{DecoderState, fresh_decoder}
use Rattle.rs_field.specs.code.PieceStates.{state_of_pieces}
use Rattle.rs_rate.specs.rows.DecoderView.{decoder_state, restored_by_rows}
use Rattle.reed_solomon_simd.proofs.RoundLocators.{enough-round, locator-for, locator-of}
use Rattle.reed_solomon_simd.proofs.StripDecodeLemmas.{pieces-added, round-refused, round-restored}
use Rattle.reed_solomon_simd.proofs.strip_rounds.Rounds.decode.Given.{Over}
use Rattle.reed_solomon_simd.proofs.strip_rounds.Rounds.decode.Goals.{After-narrow, After-add_recovery_pieces}
use Rattle.reed_solomon_simd.proofs.strip_rounds.Rounds.decode.Goals as goal

-- The decoder is set up for the strip, without shards.
narrowed : (g : Over) (c : After-narrow g)
    → decoder_state default_rate c.narrow.new.self.rows
    ≡ fresh_decoder (state_of_pieces c.args.start c.args.end (g.P.Pieces.received c.args.received.now)).configuration
narrowed g c = c.narrow.ensures.fresh _ c.requires.ready.fresh

-- After all pieces were added, the decoder has the state of the pieces.
added : (g : Over) (c : After-add_recovery_pieces g)
    → decoder_state default_rate c.add_recovery_pieces.new.decoder.rows
    ≡ state_of_pieces c.args.start c.args.end (g.P.Pieces.received c.args.received.now)
added g c =
    pieces-added c.args.start c.args.end (g.P.Pieces.received c.args.received.now)
    (c.narrow.ensures.fresh _ c.requires.ready.fresh)
    c.add_original_pieces.ensures.added c.add_recovery_pieces.ensures.added

pub add_original_pieces-requires-clause-none : goal.add_original_pieces-requires-clause-none
add_original_pieces-requires-clause-none g c =
    ap (λ (s : DecoderState). s.originals)
    (narrowed g (goal.at.add_original_pieces-requires-clause-none g c).After-narrow)

pub add_original_pieces-requires-clause-configured : goal.add_original_pieces-requires-clause-configured
add_original_pieces-requires-clause-configured g c =
    ap (λ (s : DecoderState). s.configuration)
    (narrowed g (goal.at.add_original_pieces-requires-clause-configured g c).After-narrow)

pub add_recovery_pieces-requires-clause-none : goal.add_recovery_pieces-requires-clause-none
add_recovery_pieces-requires-clause-none g c =
    ap (λ (s : DecoderState). s.recovery) c.add_original_pieces.ensures.added
    ∙ ap (λ (s : DecoderState). s.recovery)
    (narrowed g (goal.at.add_recovery_pieces-requires-clause-none g c).After-narrow)

pub add_recovery_pieces-requires-clause-configured : goal.add_recovery_pieces-requires-clause-configured
add_recovery_pieces-requires-clause-configured g c =
    ap (λ (s : DecoderState). s.configuration) c.add_original_pieces.ensures.added
    ∙ ap (λ (s : DecoderState). s.configuration)
    (narrowed g (goal.at.add_recovery_pieces-requires-clause-configured g c).After-narrow)

pub decode-requires-clause-enough : goal.decode-requires-clause-enough
decode-requires-clause-enough g c =
    let decoder = c.add_recovery_pieces.new.decoder in
    enough-round decoder.rows decoder.set_up (g.P.Pieces.received c.args.received.now) c.args.start c.args.end
    (added g (goal.at.decode-requires-clause-enough g c).After-add_recovery_pieces) c.requires.enough

pub decode-requires-clause-located : goal.decode-requires-clause-located
decode-requires-clause-located g c =
    let decoder = c.add_recovery_pieces.new.decoder in
    locator-of decoder.rows decoder.set_up (g.P.Pieces.received c.args.received.now) c.args.start c.args.end
    (added g (goal.at.decode-requires-clause-located g c).After-add_recovery_pieces) c.requires.enough
    c.args.self.now.decoder.rows c.args.self.now.located c.requires.ready.located
    (ap (λ e. e.items) (c.add_recovery_pieces.ensures.locator ∙ c.add_original_pieces.ensures.locator)
    ∙ c.narrow.ensures.locator)

pub returns-clause-restored : goal.returns-clause-restored
returns-clause-restored g c =
    round-restored c.args.start c.args.end (g.P.Pieces.received c.args.received.now)
    (added g (goal.at.returns-clause-restored g c).After-add_recovery_pieces)
    (restored_by_rows c.decode.new.self.rows) c.decode.result c.decode.ensures.answer

pub returns-clause-refused : goal.returns-clause-refused
returns-clause-refused g c =
    round-refused c.args.start c.args.end (g.P.Pieces.received c.args.received.now)
    (added g (goal.at.returns-clause-refused g c).After-add_recovery_pieces)
    (restored_by_rows c.decode.new.self.rows) c.decode.result c.decode.ensures.answer

pub returns-clause-ready : goal.returns-clause-ready
returns-clause-ready g c =
    let decoder = c.add_recovery_pieces.new.decoder in
    let is = added g (goal.at.returns-clause-ready g c).After-add_recovery_pieces in
    record {
      size = c.args.end - c.args.start;
      room = omega arith;
      fresh = c.decode.ensures.state ∙ ap (λ (s : DecoderState). fresh_decoder s.configuration) is;
      located = λ n yes.
          locator-for decoder.rows decoder.set_up (g.P.Pieces.received c.args.received.now) c.args.start c.args.end is
          c.requires.enough c.decode.new.self.rows n (c.decode.ensures.located n yes);
    }
