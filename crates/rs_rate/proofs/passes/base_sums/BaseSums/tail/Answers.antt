use Rattle.std.proofs.Common.{ℕ, ◌+◌, ◌*◌, ◌/◌, drop, ap, ◌∙◌, arith}
use Rattle.rs_field.specs.code.Column.{column}
use Rattle.rs_rate.proofs.passes_lemmas.SplitSums.{tail-word}
use Rattle.rs_rate.proofs.passes.base_sums.BaseSums.tail.Goals as goal

pub returns-clause-words : goal.returns-clause-words
returns-clause-words g c j inside =
    let n : ℕ = c.args.self.now.piece_len / 64 in
    let piece = c.piece.result.now in
    ap (column j) (c.as_chunks.ensures.back ∙ ap (λ m. drop (m / 64 * 64) piece) c.piece.ensures.length)
    ∙ tail-word n j piece
    ∙ c.piece.ensures.words (32 * n + j) (omega (arith, inside))
