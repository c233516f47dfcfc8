-- A piece in two parts: its whole chunks, and its tail.
use Rattle.std.proofs.Common.{◌≡◌, ℕ, ◌+◌, ◌*◌, ◌/◌, ◌%◌, ◌<◌, ◌≤◌, length, drop, ap, ◌∙◌, arith}
use Rattle.std.specs.Simd.{first_chunks}
use Rattle.rs_field.specs.code.Column.{Shard, column}
use Rattle.rs_field.specs.rows.Rows.{chunk, symbol}
use Rattle.rs_field.proofs.code_lemmas.Pieces.{column-rest}
use Rattle.rs_field.proofs.rows_lemmas.LayoutLemmas.{symbol_of_chunk}

-- A symbol of a whole chunk is a word of the piece.
pub whole-word : (n k s : ℕ) (piece : Shard) → k < n → s < 32 → n * 64 ≤ length piece
    → symbol (chunk (first_chunks 64 n piece) k) s ≡ column (32 * k + s) piece
whole-word n k s piece inside small within =
    let at : (32 * k + s) / 32 ≡ k = omega (arith, small) in
    let of : (32 * k + s) % 32 ≡ s = omega (arith, small) in
    rw (at, of) at (symbol_of_chunk n (32 * k + s) piece (omega (arith, inside, at)) within)

-- A word of the tail is a word of the piece.
pub tail-word : (n j : ℕ) (piece : Shard) → column j (drop (n * 64) piece) ≡ column (32 * n + j) piece
tail-word n j piece =
    column-rest (n * 64) j piece (omega arith)
    ∙ ap (λ (l : ℕ). column l piece) (let e : n * 64 / 2 + j ≡ 32 * n + j = omega arith in e)
