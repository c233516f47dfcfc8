use Rattle.std.proofs.Common.{ℕ, ◌-◌, ◌<◌, [], replicate, sym, ◌∙◌, subst}
use Rattle.std.specs.Prelude.{unwrap_or}
use Rattle.rs_field.specs.code.Decoder.{DecoderState}
use Rattle.rs_field.specs.code.PieceStates.{state_of_pieces}
use Rattle.rs_field.proofs.words_lemmas.UpTo.{length-up_to, get-up_to}
use Rattle.reed_solomon_simd.proofs.strip_syndromes.ZeroedStripStripMessage.piece.Goals as goal

pub zeroed_piece-requires-clause-index : goal.zeroed_piece-requires-clause-index
zeroed_piece-requires-clause-index g c = subst (λ (n : ℕ). c.args.index < n) (length-up_to _ _) c.requires

pub returns : goal.returns
returns g c =
    let own = c.args.self.now in
    let x : DecoderState = g.P.Pieces.received own.received.now in
    c.zeroed_piece.ensures
    ∙ sym (get-up_to x.configuration.original_count
    (λ i. unwrap_or ((state_of_pieces own.start own.end x).originals i) (replicate (own.end - own.start) 0))
    c.args.index [] (subst (λ (n : ℕ). c.args.index < n) (length-up_to _ _) c.requires))
