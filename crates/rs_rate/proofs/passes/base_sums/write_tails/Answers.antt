use Rattle.std.proofs.Common.{rules, ◌≡◌, ℕ, ◌+◌, ◌*◌, ◌/◌, bit_xor, inl, inr, sym, ap, subst, ◌∙◌, arith}
use Rattle.std.specs.Prelude.{slice_index}
use Rattle.std.proofs.lemmas.Bool.{cases_lt}
use Rattle.rs_field.specs.rows.Rows.{chunk, symbol, word_in}
use Rattle.rs_field.specs.rows.Written.{held}
use Rattle.rs_field.proofs.rows_lemmas.RowOffsets.{row_ends}
use Rattle.rs_rate.specs.passes.BaseSum.{base_sum}
use Rattle.rs_rate.proofs.passes.base_sums.write_tails.Goals as goal

pub loop-index-preserved : goal.loop-index-preserved
loop-index-preserved g c =
    let m : ℕ = c.args.stride in
    let n : ℕ = c.args.sums.now.piece_len / 64 in
    let i : ℕ = c.loop-index.index in
    let loop = c.loop-index.invariant in
    let others = c.write_tail_at.ensures.others in
    record {
      room = search rules;
      done = λ d j few inside. elim (cases_lt d c.loop-index.index) [
        | inl before ↦
            let ends = row_ends d c.loop-index.index c.args.stride before in
            ap (λ x. symbol x j) (others (d * m + n) (inl (omega (arith, ends, c.requires.fit))))
            ∙ loop.done d j before inside
        | inr past ↦
            let is : d ≡ c.loop-index.index = omega (arith, few, past) in
            subst (λ (d : ℕ). word_in c.write_tail_at.new.x c.args.stride n j d
            ≡ bit_xor (held c.args.writing (word_in c.args.x.now c.args.stride n j d))
            (base_sum c.args.sums.now.base.now (g.P.BasePieces.word c.args.sums.now.pieces.now (32 * n + j))
            (slice_index c.args.sums.now.rows.now d))) (sym is)
            (c.write_tail_at.ensures.words j inside
            ∙ ap (λ x. bit_xor (held c.args.writing (symbol x j))
            (base_sum c.args.sums.now.base.now (g.P.BasePieces.word c.args.sums.now.pieces.now (32 * n + j))
            (slice_index c.args.sums.now.rows.now i))) (loop.rest (i * m + n) (omega arith)))
      ];
      kept = λ d k few inside. elim (cases_lt d c.loop-index.index) [
        | inl before ↦
            let ends = row_ends d c.loop-index.index c.args.stride before in
            others (d * m + k) (inl (omega (arith, ends, c.requires.fit, inside))) ∙ loop.kept d k before inside
        | inr past ↦
            let is : d ≡ c.loop-index.index = omega (arith, few, past) in
            subst (λ (d : ℕ). chunk c.write_tail_at.new.x (d * c.args.stride + k)
            ≡ chunk c.args.x.now (d * c.args.stride + k)) (sym is)
            (others (i * m + k) (inl (omega (arith, c.requires.fit, inside))) ∙ loop.rest (i * m + k) (omega arith))
      ];
      rest = λ j beyond.
          others j (inr (omega (arith, beyond, c.requires.fit))) ∙ loop.rest j (omega (arith, beyond));
    }
