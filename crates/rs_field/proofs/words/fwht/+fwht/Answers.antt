-- The transforms of the quarters, and two layers after them, make the whole transform.
use Rattle.std.proofs.Common.{◌≡◌, ℕ, ◌+◌, ◌/◌, ◌<◌, length, get_or, ◌∙◌, arith}
use Rattle.std.proofs.lemmas.Nat.{pow_pos}
use Rattle.rs_field.proofs.words_lemmas.Halving.{AreQuarters, in_quarters, walsh-joined, walsh-at, walsh-one}
use Rattle.rs_field.proofs.words_lemmas.Halving.{walsh-none}
use Rattle.rs_field.proofs.words_lemmas.Halving.{walsh-pair, walsh-counts, walsh-quarter-counts, exact-counts}
use Rattle.rs_field.proofs.words_lemmas.Halving.{small_steps}
use Rattle.rs_field.proofs.words.fwht.+fwht.Goals as goal
use Rattle.rs_field.proofs.words.fwht.+fwht.Goals.{After-split_at_mut-x2, else-n-gt2-via-then-n-gt2+else-truncated-gt0}
use Rattle.rs_field.proofs.words.fwht.+fwht.Goals.{else-n-gt2-via-else-n-gt2}

-- The entries have four quarters.
quarters : (t : ℕ) (c : After-split_at_mut-x2 t)
    → AreQuarters (length c.args.entries.now / 4) c.args.entries.now c.split_at_mut-x0.result.0.now
    c.split_at_mut-x0.result.1.now c.split_at_mut-x2.result.0.now c.split_at_mut-x2.result.1.now
quarters t c =
    in_quarters c.if-n-gt2.true c.requires.power c.split_at_mut-low.ensures.front c.split_at_mut-low.ensures.back
    c.split_at_mut-x0.ensures.front c.split_at_mut-x0.ensures.back c.split_at_mut-x2.ensures.front
    c.split_at_mut-x2.ensures.back

pub fwht-requires : goal.fwht-requires
fwht-requires t c =
    let cut = quarters t (goal.at.fwht-requires t c).After-split_at_mut-x2 in (
      omega arith,
      (
        (cut.power.0, cut.part0.size ∙ cut.power.1),
        (omega arith, λ y from to. cut.part0.entry y (omega arith) ∙ c.requires.zeros y from (omega arith)),
      ),
    )

pub fwht-requires-else-truncated-quarter : goal.fwht-requires-else-truncated-quarter
fwht-requires-else-truncated-quarter t c =
    let q : ℕ = length c.args.entries.now / 4 in
    let cut = quarters t (goal.at.fwht-requires-else-truncated-quarter t c).After-split_at_mut-x2 in (
      omega arith,
      (
        (cut.power.0, cut.part1.size ∙ cut.power.1),
        (
          omega arith,
          λ y from to. cut.part1.entry y (omega arith) ∙ c.requires.zeros (q + y) (omega arith) (omega arith),
        ),
      ),
    )

pub fwht-requires-else-truncated-quarter-2 : goal.fwht-requires-else-truncated-quarter-2
fwht-requires-else-truncated-quarter-2 t c =
    let q : ℕ = length c.args.entries.now / 4 in
    let cut = quarters t (goal.at.fwht-requires-else-truncated-quarter-2 t c).After-split_at_mut-x2 in (
      omega arith,
      (
        (cut.power.0, cut.part2.size ∙ cut.power.1),
        (
          omega arith,
          λ y from to. cut.part2.entry y (omega arith) ∙ c.requires.zeros (q + q + y) (omega arith) (omega arith),
        ),
      ),
    )

pub fwht-requires-else-truncated-quarter-3 : goal.fwht-requires-else-truncated-quarter-3
fwht-requires-else-truncated-quarter-3 t c =
    let q : ℕ = length c.args.entries.now / 4 in
    let cut = quarters t (goal.at.fwht-requires-else-truncated-quarter-3 t c).After-split_at_mut-x2 in (
      omega arith,
      (
        (cut.power.0, cut.part3.size ∙ cut.power.1),
        (
          omega arith,
          λ y from to. cut.part3.entry y (omega arith) ∙ c.requires.zeros (q + q + (q + y)) (omega arith) (omega arith),
        ),
      ),
    )

pub copy_from_slice-requires : goal.copy_from_slice-requires
copy_from_slice-requires t c =
    let cut = quarters t (goal.at.copy_from_slice-requires t c).After-split_at_mut-x2 in
    omega (arith, cut.part0.size, cut.part1.size)

pub copy_from_slice-requires-then-truncated-quarter-2 : goal.copy_from_slice-requires-then-truncated-quarter-2
copy_from_slice-requires-then-truncated-quarter-2 t c =
    let cut = quarters t (goal.at.copy_from_slice-requires-then-truncated-quarter-2 t c).After-split_at_mut-x2 in
    omega (arith, cut.part0.size, cut.part3.size)

pub quarter_sums-requires-clause-one : goal.quarter_sums-requires-clause-one
quarter_sums-requires-clause-one t c =
    let cut = quarters t (goal.at.quarter_sums-requires-clause-one t c).After-split_at_mut-x2 in
    omega (arith, cut.part0.size, cut.part1.size)

pub quarter_sums-requires-clause-three : goal.quarter_sums-requires-clause-three
quarter_sums-requires-clause-three t c =
    let cut = quarters t (goal.at.quarter_sums-requires-clause-three t c).After-split_at_mut-x2 in
    omega (arith, cut.part0.size, cut.part3.size)

pub returns-then-n-eq64-clause-counts : goal.returns-then-n-eq64-clause-counts
returns-then-n-eq64-clause-counts t c = exact-counts c.if-n-eq64.true small_steps.3 c.walsh_64.ensures.counts

pub returns-then-n-eq128-clause-counts : goal.returns-then-n-eq128-clause-counts
returns-then-n-eq128-clause-counts t c = exact-counts c.if-n-eq128.true small_steps.4 c.walsh_128.ensures.counts

pub returns-then-n-eq8-clause-counts : goal.returns-then-n-eq8-clause-counts
returns-then-n-eq8-clause-counts t c = exact-counts c.if-n-eq8.true small_steps.2 c.walsh_8.ensures.counts

pub returns-then-n-eq4-clause-counts : goal.returns-then-n-eq4-clause-counts
returns-then-n-eq4-clause-counts t c = exact-counts c.if-n-eq4.true small_steps.1 c.walsh_4.ensures.counts

pub returns-then-n-eq2-clause-counts : goal.returns-then-n-eq2-clause-counts
returns-then-n-eq2-clause-counts t c = exact-counts c.if-n-eq2.true small_steps.0 c.pair_sum-sum.ensures.counts

pub returns-then-n-eq2-clause-values : goal.returns-then-n-eq2-clause-values
returns-then-n-eq2-clause-values t c =
    walsh-pair _ _ _ c.if-n-eq2.true (c.pair_sum-sum.ensures.sum, c.pair_sum-sum.ensures.difference)

pub returns-then-truncated-quarter-clause-values : goal.returns-then-truncated-quarter-clause-values
returns-then-truncated-quarter-clause-values t c =
    let q : ℕ = length c.args.entries.now / 4 in
    let cut = quarters t (goal.at.returns-then-truncated-quarter-clause-values t c).After-split_at_mut-x2 in
    let none1 : (y : ℕ) → y < q → get_or c.split_at_mut-x0.result.1.now y 0 ≡ 0 = λ y hy.
    cut.part1.entry y hy ∙ c.requires.zeros (q + y) (omega arith) (omega arith) in
    let none2 : (y : ℕ) → y < q → get_or c.split_at_mut-x2.result.0.now y 0 ≡ 0 = λ y hy.
    cut.part2.entry y hy ∙ c.requires.zeros (q + q + y) (omega arith) (omega arith) in
    let none3 : (y : ℕ) → y < q → get_or c.split_at_mut-x2.result.1.now y 0 ≡ 0 = λ y hy.
    cut.part3.entry y hy ∙ c.requires.zeros (q + q + (q + y)) (omega arith) (omega arith) in
    let size : length c.fwht.new.entries ≡ q = c.fwht.auto.entries ∙ cut.part0.size in
    rw (
      c.copy_from_slice.ensures.after,
      c.copy_from_slice-then-truncated-quarter.ensures.after,
      c.copy_from_slice-then-truncated-quarter-2.ensures.after,
    ) (walsh-joined cut (record {
      size0 = size;
      size1 = size;
      size2 = size;
      done0 = walsh-at _ _ cut.part0.size c.fwht.ensures.values;
      done1 = walsh-none none1;
      done2 = walsh-none none2;
      done3 = walsh-none none3;
      sums = λ i hi.
          let z1 = none1 i hi in
          let z2 = none2 i hi in
          let z3 = none3 i hi in omega arith;
    }))

pub returns-then-truncated-quarter-clause-counts : goal.returns-then-truncated-quarter-clause-counts
returns-then-truncated-quarter-clause-counts t c =
    walsh-quarter-counts (quarters t (goal.at.returns-then-truncated-quarter-clause-counts t c).After-split_at_mut-x2)
    c.requires.size c.fwht.ensures.counts

pub returns-else-truncated-quarter-clause-values : goal.returns-else-truncated-quarter-clause-values
returns-else-truncated-quarter-clause-values t c =
    let cut = quarters t (goal.at.returns-else-truncated-quarter-clause-values t c).After-split_at_mut-x2 in
    walsh-joined cut (record {
      size0 = c.quarter_sums.auto.x0 ∙ c.fwht.auto.entries ∙ cut.part0.size;
      size1 = c.quarter_sums.auto.x1 ∙ c.fwht-else-truncated-quarter.auto.entries ∙ cut.part1.size;
      size2 = c.quarter_sums.auto.x2 ∙ c.fwht-else-truncated-quarter-2.auto.entries ∙ cut.part2.size;
      done0 = walsh-at _ _ cut.part0.size c.fwht.ensures.values;
      done1 = walsh-at _ _ cut.part1.size c.fwht-else-truncated-quarter.ensures.values;
      done2 = walsh-at _ _ cut.part2.size c.fwht-else-truncated-quarter-2.ensures.values;
      done3 = walsh-at _ _ cut.part3.size c.fwht-else-truncated-quarter-3.ensures.values;
      sums = λ i hi. c.quarter_sums.ensures.sums i (omega (arith, c.fwht.auto.entries, cut.part0.size));
    })

pub returns-else-truncated-quarter-clause-counts : goal.returns-else-truncated-quarter-clause-counts
returns-else-truncated-quarter-clause-counts t c =
    walsh-counts (quarters t (goal.at.returns-else-truncated-quarter-clause-counts t c).After-split_at_mut-x2) _
    c.requires.size c.fwht.auto.entries c.fwht.ensures.counts c.fwht-else-truncated-quarter.ensures.counts
    c.fwht-else-truncated-quarter-2.ensures.counts c.fwht-else-truncated-quarter-3.ensures.counts
    c.quarter_sums.ensures.counts

pub returns-else-n-gt2-clause-values : goal.returns-else-n-gt2-clause-values
returns-else-n-gt2-clause-values t c =
    elim c.else-n-gt2.branch [
      | else-n-gt2-via-then-n-gt2+else-truncated-gt0 w ↦ walsh-none (λ y hy. c.requires.zeros y (omega arith) hy)
      | else-n-gt2-via-else-n-gt2 w ↦
          let power = c.requires.power in
          let some = pow_pos power.0 in
          walsh-one _ (omega (arith, power.1))
    ]
