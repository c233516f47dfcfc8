use Rattle.std.proofs.Common.{◌≡◌, ℕ, ◌+◌, ◌*◌, ◌≤◌, false, length, sym, ap, ◌∙◌, arith, inl, refl, subst}
use Rattle.std.proofs.Common.{true≢false}
use Rattle.std.proofs.Math.Nat.{mul-le-mul_right}
use Rattle.std.proofs.lemmas.List.{get_or_past}
use Rattle.rs_field.specs.rows.MarkedRows.{is_marked}
use Rattle.rs_field.specs.rows.Layout.{row_len}
use Rattle.rs_field.specs.words.StepBounds.{CountsUpTo}
use Rattle.rs_field.proofs.words_lemmas.Counting.{counts_within}
use Rattle.rs_rate.specs.rows.Marks.{how_many}
use Rattle.rs_rate.proofs.rows_lemmas.HowMany.{how_many-next, how_many-rises}
use Rattle.rs_rate.proofs.passes_lemmas.DirectRows.{RowsPassed, none_passed, one_more_written, one_more_passed}
use Rattle.rs_rate.proofs.passes_lemmas.DirectRows.{one_more_tested, equal_left}
use Rattle.rs_rate.proofs.passes.direct.are_equal_to_sums.Goals.{
  After-is_equal_to_sum,
  else-given-y-via-then-given-y+else-not-is_equal_to_sum,
  else-given-y-via-else-given-y,
}
use Rattle.rs_rate.proofs.passes.direct.are_equal_to_sums.Given.{Over}
use Rattle.rs_rate.proofs.passes.direct.are_equal_to_sums.Goals as goal

pub loop-y-init : goal.loop-y-init
loop-y-init g c =
    let first = c.requires.first in
    record {
      many = 0;
      counted = omega (arith, first.counted);
      passed = none_passed c.args.base.now (row_len c.args.shard_bytes) (length c.args.base.now.marks.now)
          c.args.chunks.now c.args.steps.now;
      equal = λ p j before is not hj. absurd (true≢false (sym is ∙ sym (first.same p before) ∙ not));
    }

-- A row was tested.
written : (g : Over) (c : After-is_equal_to_sum g)
    → RowsPassed c.args.base.now (row_len c.args.shard_bytes) (c.loop-y.y + 1) (c.loop-y.invariant.many + 1)
    c.args.chunks.now c.is_equal_to_sum.new.chunks c.args.steps.now c.is_equal_to_sum.new.steps
written g c =
    let ensures = c.is_equal_to_sum.ensures in
    one_more_written c.args.base.now (row_len c.args.shard_bytes) c.loop-y.invariant.passed
    (get_or_past c.args.base.now.marks.now c.loop-y.y false c.loop-y.auto.y) ensures.others ensures.counts

pub loop-y-preserved : goal.loop-y-preserved
loop-y-preserved g c =
    let base = c.args.base.now in
    let given = c.args.given.now in
    let size = c.args.shard_bytes in
    let n : ℕ = row_len c.args.shard_bytes in
    let before = c.loop-y.invariant in
    elim c.else-given-y.branch [
      | else-given-y-via-then-given-y+else-not-is_equal_to_sum w ↦
          let ensures = w.is_equal_to_sum.ensures in
          rw (w.chunks-is, w.steps-is) (one_more_tested base n given size before w.if-given-y.true
          ((equal_left base n given size before refl).0 (ensures.equal.1 w.if-not-is_equal_to_sum.false))
          (one_more_written base n before.passed (get_or_past base.marks.now c.loop-y.y false c.loop-y.auto.y)
          ensures.others ensures.counts))
      | else-given-y-via-else-given-y w ↦
          rw (w.chunks-is, w.steps-is) (one_more_passed base n given size before w.if-given-y.false)
    ]

pub returns-then-not-is_equal_to_sum-clause-kept : goal.returns-then-not-is_equal_to_sum-clause-kept
returns-then-not-is_equal_to_sum-clause-kept g c k s p hk is =
    let passed = written g (goal.at.returns-then-not-is_equal_to_sum-clause-kept g c).After-is_equal_to_sum in
    passed.left k s p hk (inl is)

pub returns-then-not-is_equal_to_sum-clause-equal : goal.returns-then-not-is_equal_to_sum-clause-equal
returns-then-not-is_equal_to_sum-clause-equal g c =
    let base = c.args.base.now in (
      λ all.
          sym c.if-not-is_equal_to_sum.true
          ∙ c.is_equal_to_sum.ensures.equal.0
          ((equal_left base (row_len c.args.shard_bytes) c.args.given.now c.args.shard_bytes c.loop-y.invariant refl).1
          (λ j hj. all c.loop-y.y j (omega (arith, c.loop-y-test.true)) c.if-given-y.true
          (get_or_past base.marks.now c.loop-y.y false c.loop-y.auto.y) hj)),
      λ no. absurd (true≢false (sym no)),
    )

pub returns-then-not-is_equal_to_sum-clause-counts : goal.returns-then-not-is_equal_to_sum-clause-counts
returns-then-not-is_equal_to_sum-clause-counts g c surplus total =
    let passed = written g (goal.at.returns-then-not-is_equal_to_sum-clause-counts g c).After-is_equal_to_sum in
    let given = is_marked c.args.given.now in
    let most : c.loop-y.invariant.many + 1 ≤ surplus =
    omega (
      arith,
      c.loop-y.invariant.counted,
      total,
      how_many-next c.loop-y.y given c.if-given-y.true,
      how_many-rises (c.loop-y.y + 1) (length c.args.given.now) given (omega (arith, c.loop-y-test.true)),
    ) in
    counts_within (mul-le-mul_right (1 + 3 * length c.args.base.now.rows.now) most) passed.counts

pub returns-clause-counts : goal.returns-clause-counts
returns-clause-counts g c surplus total =
    let ends : c.loop-y.y ≡ length c.args.given.now = omega (arith, c.requires.first.fit) in
    let all : c.loop-y.invariant.many ≡ surplus =
    omega (arith, c.loop-y.invariant.counted, total, ap (λ n. how_many n (is_marked c.args.given.now)) ends) in
    subst (λ (n : ℕ). CountsUpTo (n * (1 + 3 * length c.args.base.now.rows.now)) 0 0 c.args.steps.now c.loop-y.steps)
    all c.loop-y.invariant.passed.counts
