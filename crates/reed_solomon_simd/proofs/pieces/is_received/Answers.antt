use Rattle.std.proofs.Common.{◌≡◌, sym, ap, ◌∙◌}
use Rattle.std.specs.Prelude.{is_some}
use Rattle.rs_field.specs.code.Decoder.{DecoderState}
use Rattle.rs_field.specs.code.PieceStates.{state_of_pieces}
use Rattle.rs_field.proofs.code_lemmas.PieceStates.{is_some-map}
use Rattle.reed_solomon_simd.specs.declared.shard_index.ShardIndex.{ShardIndex}
use Rattle.reed_solomon_simd.specs.declared.shard_index.ShardIndex.TheVariants.{Original, Recovery}
use Rattle.reed_solomon_simd.specs.Reconstructed.{given_at, is_received}
use Rattle.reed_solomon_simd.proofs.BaseMarks.{some-copied}
use Rattle.reed_solomon_simd.proofs.pieces.is_received.Goals as goal

-- A shard was received exactly if its piece without bytes was.
received-cut : (s : DecoderState) (shard : ShardIndex)
    → is_some (given_at (state_of_pieces 0 0 s) shard) ≡ is_received s shard
received-cut s (Original i) = is_some-map 0 0 (s.originals i)
received-cut s (Recovery i) = is_some-map 0 0 (s.recovery i)

pub returns : goal.returns
returns g c =
    c.is_some.ensures ∙ sym (some-copied c.piece.result) ∙ ap is_some c.piece.ensures
    ∙ received-cut (g.P.Pieces.received c.args.received.now) c.args.shard
