use Rattle.std.proofs.Common.{◌≡◌, ℕ, ◌+◌, ◌-◌, ◌*◌, ◌/◌, ◌%◌, ◌<◌, length, bit_xor, inl, inr, sym, ap, ap₂, ◌∙◌, arith}
use Rattle.std.specs.Prelude.{slice_index}
use Rattle.std.proofs.lemmas.Bool.{cases_lt}
use Rattle.rs_field.specs.rows.Rows.{symbol, word_in}
use Rattle.rs_field.specs.rows.Written.{held}
use Rattle.rs_rate.specs.passes.BaseSum.{base_sum}
use Rattle.rs_rate.proofs.passes_lemmas.SumLemmas.{row_sum-base}
use Rattle.rs_rate.proofs.passes.base_sums.write_base_sums.Goals as goal
use Rattle.rs_rate.proofs.passes.base_sums.write_base_sums.Goals.{After-write_sums}
use Rattle.rs_rate.proofs.passes.base_sums.write_base_sums.Given.{Over}

-- The words of the whole chunks are sums.
whole : (g : Over) (c : After-write_sums g) (d j : ℕ) → d < length c.args.sums.now.rows.now
    → j / 32 < c.args.sums.now.piece_len / 64
    → word_in c.write_sums.new.x c.args.stride (j / 32) (j % 32) d
    ≡ bit_xor (held c.args.writing (word_in c.args.x.now c.args.stride (j / 32) (j % 32) d))
    (base_sum c.args.sums.now.base.now (g.P.BasePieces.word c.args.sums.now.pieces.now j)
    (slice_index c.args.sums.now.rows.now d))
whole g c d j few inside =
    let sums = c.args.sums.now in
    let place : 32 * (j / 32) + j % 32 ≡ j = omega arith in
    let word : ℕ → ℕ → ℕ = g.P.BasePieces.word sums.pieces.now in
    c.write_sums.ensures.sums (j / 32) (j % 32) d inside (omega arith) few
    ∙ ap (bit_xor (held c.args.writing (word_in c.args.x.now c.args.stride (j / 32) (j % 32) d)))
    (row_sum-base sums.base.now (word (32 * (j / 32) + j % 32)) (slice_index sums.rows.now d)
    ∙ ap (λ i. base_sum sums.base.now (word i) (slice_index sums.rows.now d)) place)

pub returns-then-sums-gt0-clause-words : goal.returns-then-sums-gt0-clause-words
returns-then-sums-gt0-clause-words g c d j few inside =
    let n : ℕ = c.args.sums.now.piece_len / 64 in
    let i : ℕ = j - 32 * (c.args.sums.now.piece_len / 64) in
    elim (cases_lt (j / 32) (c.args.sums.now.piece_len / 64)) [
      | inl early ↦
          ap (λ z. symbol z (j % 32)) (c.write_tails.ensures.rest d (j / 32) few early)
          ∙ whole g (goal.at.returns-then-sums-gt0-clause-words g c).After-write_sums d j few early
      | inr late ↦
          let chunk_is : j / 32 ≡ c.args.sums.now.piece_len / 64 = omega (arith, inside, late) in
          let symbol_is : j % 32 ≡ j - 32 * (c.args.sums.now.piece_len / 64) = omega (arith, chunk_is) in
          let place : 32 * (c.args.sums.now.piece_len / 64) + (j - 32 * (c.args.sums.now.piece_len / 64)) ≡ j =
          omega (arith, late) in
          let small : j - 32 * (c.args.sums.now.piece_len / 64) < c.args.sums.now.piece_len % 64 / 2 =
          omega (arith, inside, late) in
          ap₂ (λ k s. word_in c.write_tails.new.x c.args.stride k s d) chunk_is symbol_is
          ∙ c.write_tails.ensures.words d i few small
          ∙ ap₂ (λ v w. bit_xor (held c.args.writing v) w)
          (c.write_sums.ensures.rest n i d (omega arith)
          (omega (arith, c.requires.fit, c.if-sums-gt0.true)) (omega (arith, small)) few
          ∙ ap₂ (λ k s. word_in c.args.x.now c.args.stride k s d) (sym chunk_is) (sym symbol_is))
          (ap (λ l. base_sum c.args.sums.now.base.now (g.P.BasePieces.word c.args.sums.now.pieces.now l)
          (slice_index c.args.sums.now.rows.now d)) place)
    ]

pub returns-else-sums-gt0-clause-words : goal.returns-else-sums-gt0-clause-words
returns-else-sums-gt0-clause-words g c d j few inside =
    whole g (goal.at.returns-else-sums-gt0-clause-words g c).After-write_sums d j few
    (omega (arith, inside, c.if-sums-gt0.false))
