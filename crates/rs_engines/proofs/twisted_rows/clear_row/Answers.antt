use Rattle.std.proofs.Common.{rules, ◌≡◌, ℕ, inl, sym, subst, ◌∙◌, arith}
use Rattle.std.proofs.lemmas.Bool.{cases_lt}
use Rattle.std.proofs.Common.{inr}
use Rattle.rs_field.proofs.rows_lemmas.Symbols.{symbol-zero}
use Rattle.rs_engines.proofs.twisted_rows.clear_row.Goals as goal

pub loop-k-preserved : goal.loop-k-preserved
loop-k-preserved g c =
    let loop = c.loop-k.invariant in
    record {
      done = λ j s below small. elim (cases_lt j c.loop-k.k) [
        | inl before ↦
            c.put_chunk.ensures.others j s c.args.row small (inl (λ same. omega (arith, before, same)))
            ∙ loop.done j s before small
        | inr past ↦
            let is : j ≡ c.loop-k.k = omega (arith, below, past) in
            subst (λ (j : ℕ). g.R.ChangeRows.word c.put_chunk.new.self j s c.args.row ≡ 0) (sym is)
            (c.put_chunk.ensures.here s small ∙ symbol-zero s small)
      ];
      others = search rules;
      kept = search rules;
    }
