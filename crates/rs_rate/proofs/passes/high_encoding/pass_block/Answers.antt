use Rattle.std.proofs.Common.{◌≡◌, ◌+◌, ℕ, sym, ap, ◌∙◌, inl, inr, arith}
use Rattle.std.proofs.lemmas.Bool.{cases_lt}
use Rattle.std.proofs.Math.Nat.{add-mod_right}
use Rattle.rs_field.specs.rows.Rows.{symbol}
use Rattle.rs_field.proofs.rows_lemmas.RowOffsets.{outside_cell}
use Rattle.rs_field.proofs.rows_lemmas.Symbols.{symbol-zero}
use Rattle.rs_field.specs.rows.View.{word}
use Rattle.rs_rate.proofs.passes_lemmas.ZeroPadded.{zero_padded-in, zero_padded-past}
use Rattle.rs_rate.proofs.passes.high_encoding.pass_block.Goals as goal

pub ifft-requires-clause-shift : goal.ifft-requires-clause-shift
ifft-requires-clause-shift g c = add-mod_right c.args.start c.args.block ∙ c.requires.aligned

pub returns-clause-values : goal.returns-clause-values
returns-clause-values g c = λ k s i inside symbols low.
    let len : c.clear_rows.new.rows.shard_len_64 ≡ c.args.rows.now.shard_len_64 = c.clear_rows.ensures.extent.len_64 in
    let old : ℕ → ℕ = word c.args.rows.now k s in
    sym (c.ifft.ensures.values k s i (omega arith) symbols low)
    ∙ elim (cases_lt (c.args.start + i) c.args.original_count) [
      | inl given ↦
          ap (λ x. symbol x s)
          (outside_cell c.clear_rows.ensures.extent
          c.clear_rows.ensures.others (c.args.start + i) k inside (inl (omega arith)))
          ∙ sym (zero_padded-in c.args.original_count old (c.args.start + i) given)
      | inr past ↦
          ap (λ x. symbol x s)
          (c.clear_rows.ensures.zeros (c.args.start + i) k (omega arith) (omega arith) (omega arith))
          ∙ symbol-zero s symbols ∙ sym (zero_padded-past c.args.original_count old (c.args.start + i) past)
    ]
