use Rattle.std.proofs.Common.{◌≡◌, ℕ, ◌+◌, ◌*◌, ◌^◌, ◌≤◌, length, inl, inr, sym, ap, subst, ◌∙◌, arith}
use Rattle.std.proofs.Math.Nat.{mul-le-mul_right}
use Rattle.std.proofs.lemmas.Bool.{cases_lt}
use Rattle.rs_field.specs.rows.Rows.{symbol, word_in}
use Rattle.rs_field.specs.words.Transform.{IsBackward}
use Rattle.rs_field.proofs.rows_lemmas.PartLoops.{counts_next}
use Rattle.rs_field.proofs.rows_lemmas.RowOffsets.{row_ends, row_within}
use Rattle.rs_field.proofs.rows_lemmas.Symbols.{symbol-zero}
use Rattle.rs_field.proofs.words_lemmas.Combination.{aligned_parts, forward-same, forward-zero}
use Rattle.rs_field.proofs.rows.read_blocks.ifft_of_groups.Goals as goal

pub ifft_of_group-requires-clause-shift : goal.ifft_of_group-requires-clause-shift
ifft_of_group-requires-clause-shift g c =
    let size : ℕ = g.R.ReadRows.row_count c.args.rows.now in
    let fours : size ≡ 2 * 2 ^ c.requires.many.0 * 4 = let is = c.requires.many.1 in omega (arith, is) in
    let start = aligned_parts size (2 * 2 ^ c.requires.many.0) 4 c.args.skew_delta fours c.requires.shift in
    omega (arith, start)

pub loop-group-preserved : goal.loop-group-preserved
loop-group-preserved g c =
    let n : ℕ = g.R.ReadRows.row_len c.args.rows.now in
    let at : ℕ = c.loop-group.group in
    record {
      length = omega (arith, c.loop-group.invariant.length, c.ifft_of_group.ensures.length);
      done = λ k s inside symbols j few. elim (cases_lt j at) [
        | inl before ↦ λ i low.
            c.loop-group.invariant.done k s inside symbols j before i low
            ∙ forward-same 4 (c.args.skew_delta + j * 4) (λ q. word_in c.loop-group.x n k s (j * 4 + q))
            (λ q. word_in c.ifft_of_group.new.x n k s (j * 4 + q)) i (λ q below.
            let ends = row_ends (j * 4 + q) (at * 4) n (omega (arith, before, below)) in
            ap (λ d. symbol d s) (sym (c.ifft_of_group.ensures.others ((j * 4 + q) * n + k)
            (inl (omega (arith, ends, inside))))))
        | inr past ↦
            let is : at ≡ j = omega (arith, few, past) in
            subst (λ (v : ℕ). IsBackward 4 (c.args.skew_delta + v * 4)
            (λ i. g.R.ReadRows.word c.args.rows.now k s (v * 4 + i))
            (λ i. word_in c.ifft_of_group.new.x n k s (v * 4 + i))) is
            (c.ifft_of_group.ensures.written k s inside symbols)
      ];
      counts = counts_next at c.loop-group.invariant.counts c.ifft_of_group.ensures.counts;
    }

pub returns-clause-written : goal.returns-clause-written
returns-clause-written g c k s inside symbols j few i low =
    let n : ℕ = g.R.ReadRows.row_len c.args.rows.now in
    let len : length c.row-len.result.now ≡ n = c.row-len.ensures.length in
    let start : c.args.used * 4 * length c.row-len.result.now ≡ c.args.used * 4 * n =
    ap (λ v. c.args.used * 4 * v) len in
    elim (cases_lt j c.args.used) [
      | inl before ↦
          c.loop-group.invariant.done k s inside symbols j (omega (arith, before)) i low
          ∙ forward-same 4 (c.args.skew_delta + j * 4) (λ q. word_in c.loop-group.x n k s (j * 4 + q))
          (λ q. word_in c.clear_from.new.x n k s (j * 4 + q)) i (λ q below.
          let ends = row_ends (j * 4 + q) (c.args.used * 4) n (omega (arith, before, below)) in
          ap (λ d. symbol d s) (sym (c.clear_from.ensures.others ((j * 4 + q) * n + k)
          (inl (omega (arith, ends, inside, start))))))
      | inr past ↦
          let all = c.requires.many.1 in
          c.requires.zeros k s (j * 4 + i) inside symbols (omega (arith, past)) (omega (arith, few, low, all))
          ∙ sym (forward-zero 4 (c.args.skew_delta + j * 4) (λ q. word_in c.clear_from.new.x n k s (j * 4 + q)) i
          (λ q below.
          let row = row_within (j * 4 + q) (g.R.ReadRows.row_count c.args.rows.now) k n
          (omega (arith, few, below, all)) inside in
          let after : c.args.used * 4 * n ≤ (j * 4 + q) * n = mul-le-mul_right n (omega (arith, past)) in
          ap (λ d. symbol d s) (c.clear_from.ensures.zeros ((j * 4 + q) * n + k) (omega (arith, after, start))
          (omega (arith, row, c.requires.room, c.loop-group.invariant.length))) ∙ symbol-zero s symbols))
    ]

pub returns-clause-zeros : goal.returns-clause-zeros
returns-clause-zeros g c i past few =
    let start : c.args.used * 4 * length c.row-len.result.now ≡ c.args.used * 4 * g.R.ReadRows.row_len c.args.rows.now =
    ap (λ v. c.args.used * 4 * v) c.row-len.ensures.length in
    c.clear_from.ensures.zeros i (omega (arith, past, start)) (omega (arith, few, c.clear_from.ensures.length))
