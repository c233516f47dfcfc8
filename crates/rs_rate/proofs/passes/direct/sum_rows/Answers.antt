use Rattle.std.proofs.Common.{rules, ◌≡◌, ℕ, ◌+◌, ◌*◌, true, length, sym, ap, ◌∙◌, arith}
use Rattle.std.proofs.Common.{true≢false}
use Rattle.std.proofs.Math.Nat.{mul-le-mul_right}
use Rattle.std.specs.Prelude.{◌↔◌}
use Rattle.rs_field.specs.rows.MarkedRows.{is_marked}
use Rattle.rs_field.specs.rows.Layout.{row_len}
use Rattle.rs_field.specs.words.StepBounds.{CountsUpTo}
use Rattle.rs_field.proofs.words_lemmas.Counting.{counts_then, counts_within}
use Rattle.rs_field.proofs.words_lemmas.DirectSum.{direct_sum-same}
use Rattle.rs_field.specs.rows.Rows.{word_in}
use Rattle.rs_rate.specs.values.Configured.{rows_to_decode}
use Rattle.rs_rate.specs.passes.Decoding.{AreEqualToSums}
use Rattle.rs_rate.specs.rows.Marks.{how_many}
use Rattle.rs_rate.proofs.passes.direct.sum_rows.Given.{Over}
use Rattle.rs_rate.proofs.passes.direct.sum_rows.Goals.{After-are_equal_to_sums-agrees}
use Rattle.rs_rate.proofs.passes.direct.sum_rows.Goals as goal

checked : (g : Over) (c : After-are_equal_to_sums-agrees g)
    → AreEqualToSums c.args.configuration c.args.given.now c.args.base.now.marks.now c.args.base.now.locator.now
    (word_in c.args.chunks.now (row_len c.args.configuration.shard_bytes)) ↔ (c.are_equal_to_sums-agrees.result ≡ true)
checked g c = search rules

tested : (g : Over) (c : After-are_equal_to_sums-agrees g) (surplus : ℕ) → length c.args.base.now.rows.now + surplus
    ≡ how_many (rows_to_decode c.args.configuration) (is_marked c.args.given.now)
    → CountsUpTo (surplus * (1 + 3 * length c.args.base.now.rows.now)) 0 0 c.args.steps.now
    c.are_equal_to_sums-agrees.new.steps
tested g c surplus total =
    c.are_equal_to_sums-agrees.ensures.counts surplus
    (total ∙ sym (ap (λ n. how_many n (is_marked c.args.given.now)) c.requires.marked))

pub returns-then-agrees-clause-words : goal.returns-then-agrees-clause-words
returns-then-agrees-clause-words g c =
    let all = checked g (goal.at.returns-then-agrees-clause-words g c).After-are_equal_to_sums-agrees in
    search (rules, direct_sum-same)

pub returns-else-agrees-clause-words : goal.returns-else-agrees-clause-words
returns-else-agrees-clause-words g c =
    record {
      checked = checked g (goal.at.returns-else-agrees-clause-words g c).After-are_equal_to_sums-agrees;
      summed = λ is. absurd (true≢false (sym is ∙ c.if-agrees.false));
    }

pub returns-then-agrees-clause-counts : goal.returns-then-agrees-clause-counts
returns-then-agrees-clause-counts g c surplus total =
    let before = tested g (goal.at.returns-then-agrees-clause-counts g c).After-are_equal_to_sums-agrees surplus
    total in
    search (rules, counts_then)

pub returns-else-agrees-clause-counts : goal.returns-else-agrees-clause-counts
returns-else-agrees-clause-counts g c surplus total =
    counts_within (mul-le-mul_right (1 + 3 * length c.args.base.now.rows.now) (omega arith))
    (tested g (goal.at.returns-else-agrees-clause-counts g c).After-are_equal_to_sums-agrees surplus total)
