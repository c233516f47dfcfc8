use Rattle.std.proofs.Common.{ℕ, ◌+◌, ◌*◌, ◌/◌, ap, ◌∙◌, arith}
use Rattle.std.specs.Simd.{first_chunks}
use Rattle.rs_field.specs.rows.Rows.{chunk, symbol}
use Rattle.rs_rate.proofs.passes_lemmas.SplitSums.{whole-word}
use Rattle.rs_rate.proofs.passes.base_sums.BaseSumsReadRows.row.Goals as goal

pub returns-clause-words : goal.returns-clause-words
returns-clause-words g c k s inside small =
    let n : ℕ = c.args.self.now.piece_len / 64 in
    let piece = c.piece.result.now in
    ap (λ rows. symbol (chunk rows k) s)
    (c.as_chunks.ensures.front ∙ ap (λ m. first_chunks 64 (m / 64) piece) c.piece.ensures.length)
    ∙ whole-word n k s piece inside small (omega (arith, c.piece.ensures.length))
    ∙ c.piece.ensures.words (32 * k + s) (omega (arith, inside, small))
