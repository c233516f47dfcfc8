use Rattle.std.proofs.Common.{rules, ◌≡◌, ℕ, ◌+◌, ◌*◌, bit_xor, inl, inr, sym, ap, subst, ◌∙◌, arith}
use Rattle.std.proofs.lemmas.Bool.{cases_lt}
use Rattle.rs_field.specs.rows.AddedRows.{row_sum}
use Rattle.rs_field.specs.rows.Rows.{symbol, word_in}
use Rattle.rs_field.specs.rows.Written.{held}
use Rattle.rs_field.proofs.rows_lemmas.RowOffsets.{row_ends}
use Rattle.rs_field.proofs.words_lemmas.Counting.{counts_then, counts_within}
use Rattle.rs_field.proofs.rows.row_sums.write_sums.Goals as goal

pub loop-index-preserved : goal.loop-index-preserved
loop-index-preserved g c =
    let n : ℕ = c.args.stride in
    let at : ℕ = c.loop-index.index in
    let loop = c.loop-index.invariant in
    let fit = c.requires.fit in
    let others = c.write_sum_at.ensures.others in
    record {
      room = search rules;
      done = λ k s d inside small few. elim (cases_lt d c.loop-index.index) [
        | inl before ↦
            let ends = row_ends d c.loop-index.index n before in
            ap (λ x. symbol x s) (others (d * n + k) (inl (omega (arith, ends, inside, fit))))
            ∙ loop.done k s d inside small before
        | inr past ↦
            let is : d ≡ c.loop-index.index = omega (arith, few, past) in
            subst (λ (d : ℕ). word_in c.write_sum_at.new.x c.args.stride k s d
            ≡ bit_xor (held c.args.writing (word_in c.add_rows.new.x c.args.stride k s d))
            (row_sum (g.A.ReadRows.row_count c.args.rows.now) (λ i. g.A.AddedRows.log c.args.rows.now i d)
            (g.A.ReadRows.word c.args.rows.now k s))) (sym is)
            (c.write_sum_at.ensures.sums k s inside small
            ∙ ap (λ x. bit_xor (held c.args.writing (symbol x s))
            (row_sum (g.A.ReadRows.row_count c.args.rows.now) (λ i. g.A.AddedRows.log c.args.rows.now i at)
            (g.A.ReadRows.word c.args.rows.now k s))) (loop.rest (at * n + k) (omega arith)))
      ];
      past = λ k s d beyond below small few. elim (cases_lt d c.loop-index.index) [
        | inl before ↦
            let ends = row_ends d c.loop-index.index n before in
            ap (λ x. symbol x s) (others (d * n + k) (inl (omega (arith, ends, below))))
            ∙ loop.past k s d beyond below small before
        | inr past ↦
            let is : d ≡ c.loop-index.index = omega (arith, few, past) in
            subst (λ (d : ℕ). word_in c.write_sum_at.new.x c.args.stride k s d
            ≡ word_in c.add_rows.new.x c.args.stride k s d) (sym is)
            (ap (λ x. symbol x s) (others (at * n + k) (inr (omega (arith, beyond)))
            ∙ loop.rest (at * n + k) (omega arith)))
      ];
      rest = λ j beyond. others j (inr (omega (arith, beyond, fit))) ∙ loop.rest j (omega (arith, beyond));
      counts = counts_within (omega arith) (counts_then loop.counts c.write_sum_at.ensures.counts);
    }
