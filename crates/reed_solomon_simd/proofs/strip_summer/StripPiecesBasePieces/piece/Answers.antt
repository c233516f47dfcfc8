use Rattle.std.proofs.Common.{◌%◌, inl, inr, sym, ap}
use Rattle.std.proofs.lemmas.Bool.{cases_eq}
use Rattle.rs_field.specs.code.DirectLaws.{word_of}
use Rattle.rs_field.specs.code.Pieces.{IsStrip}
use Rattle.reed_solomon_simd.proofs.BaseSums.{in_row-sized}
use Rattle.reed_solomon_simd.proofs.strip_summer.StripPiecesBasePieces.piece.Goals as goal

pub returns-clause-length : goal.returns-clause-length
returns-clause-length g c =
    let self = c.args.self.now in
    let is = c.requires in
    let strip : IsStrip c.args.self.now.start c.args.self.now.end
    (g.P.Pieces.received c.args.self.now.received.now).configuration.shard_bytes = record {
      order = is.order;
      inside = is.inside;
      begins = is.begins;
      ends = elim (cases_eq (c.args.self.now.end % 64) 0) [ inl whole ↦ inl whole | inr not ↦ inr (is.ends not) ];
    } in
    (in_row-sized (g.P.Pieces.received self.received.now) is.set_up self.start self.end strip
    c.args.row c.piece_of_strip.result.now c.piece_of_strip.ensures).length_is

pub returns-clause-words : goal.returns-clause-words
unfolding word_of
returns-clause-words g c j inside = sym (ap (word_of j) c.piece_of_strip.ensures)
