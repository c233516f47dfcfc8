use Rattle.std.proofs.Common.{◌≡◌, ℕ, ◌+◌, ◌*◌, length, bit_xor, inl, inr, sym, ap, ap₂, subst, ◌∙◌, arith}
use Rattle.std.proofs.lemmas.Bool.{cases_lt}
use Rattle.rs_field.specs.rows.Rows.{chunk, symbol, word_in}
use Rattle.rs_field.specs.rows.Written.{held}
use Rattle.rs_field.proofs.rows_lemmas.RowOffsets.{row_ends}
use Rattle.rs_field.proofs.rows.reading.write_rows.Goals as goal

pub loop-index-preserved : goal.loop-index-preserved
loop-index-preserved g c =
    let n : ℕ = g.R.ReadRows.row_len c.args.rows.now in
    let len : length c.row-row.result.now ≡ g.R.ReadRows.row_len c.args.rows.now = c.row-row.ensures.length in
    let at : c.loop-index.index * length c.row-row.result.now
    ≡ c.loop-index.index * g.R.ReadRows.row_len c.args.rows.now = ap (λ m. c.loop-index.index * m) len in
    let loop = c.loop-index.invariant in
    record {
      length = omega (arith, loop.length, c.write_row_at.auto.x);
      done = λ k s i inside symbols few. elim (cases_lt i c.loop-index.index) [
        | inl before ↦
            let ends = row_ends i c.loop-index.index n before in
            ap (λ d. symbol d s) (c.write_row_at.ensures.others (i * n + k) (inl (omega (arith, ends, inside, at))))
            ∙ loop.done k s i inside symbols before
        | inr past ↦
            let is : i ≡ c.loop-index.index = omega (arith, few, past) in
            subst (λ (i : ℕ). word_in c.write_row_at.new.x (g.R.ReadRows.row_len c.args.rows.now) k s i
            ≡ bit_xor (held c.args.writing (word_in c.args.x.now (g.R.ReadRows.row_len c.args.rows.now) k s i))
            (g.R.ReadRows.word c.args.rows.now k s i)) (sym is)
            (ap (λ m. symbol (chunk c.write_row_at.new.x (m + k)) s) (sym at)
            ∙ c.write_row_at.ensures.words k s (omega (arith, inside, len)) symbols
            ∙ ap₂ bit_xor (ap (held c.args.writing)
            (ap (λ m. symbol (chunk c.loop-index.x (m + k)) s) at
            ∙ ap (λ d. symbol d s) (loop.rest (c.loop-index.index * n + k) (omega arith))))
            (c.row-row.ensures.words k s inside symbols))
      ];
      rest = λ j past. c.write_row_at.ensures.others j (inr (omega (arith, past, at, len)))
          ∙ loop.rest j (omega (arith, past));
    }
