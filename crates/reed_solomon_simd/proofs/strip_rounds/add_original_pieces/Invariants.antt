use Rattle.std.proofs.Common.{◌≡◌}
use Rattle.rs_field.specs.code.Counts.{default_rate}
use Rattle.rs_field.specs.code.PieceStates.{pieces_of}
use Rattle.rs_rate.specs.rows.DecoderView.{decoder_state}
use Rattle.rs_rate.proofs.rows_lemmas.FirstShards.{first}
use Rattle.reed_solomon_simd.proofs.strip_rounds.add_original_pieces.Given as goal

-- The decoder has the pieces of the originals below the index, and the locator that it had.
abbrev pub invariant-loop-index : goal.invariant-loop-index
invariant-loop-index g l =
    (decoder_state default_rate l.decoder.rows
    ≡ record (decoder_state default_rate l.initial.decoder.rows) {
      originals = first l.index (pieces_of l.start l.end (g.P.Pieces.received l.received).originals);
    })
    × (l.decoder.rows.memory.entries ≡ l.initial.decoder.rows.memory.entries)
