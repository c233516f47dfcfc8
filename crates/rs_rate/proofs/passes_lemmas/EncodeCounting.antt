-- The row steps of each block of an encode, and of the whole encode.
use Rattle.std.proofs.lemmas.Grind.{common_steps}
use Rattle.std.proofs.Common.{◌≡◌, ℕ, true, false, Bool, cond, ◌+◌, ◌-◌, ◌*◌, ◌/◌, ◌%◌, ◌<◌, ◌≤◌, refl, sym, ap, ap₂}
use Rattle.std.proofs.Common.{◌∙◌, subst, arith}
use Rattle.std.proofs.Math.Nat.{add-div_right, mul-le-mul_right}
use Rattle.std.proofs.lemmas.Nat.{pow_pos, div-add-mod'}
use Rattle.rs_field.specs.code.Counts.{Rate, next_power, supports, is_low, low_rate, high_rate}
use Rattle.rs_field.specs.code.Frame.{encoder_rows}
use Rattle.rs_field.specs.words.StepBounds.{CountsUpTo, transform_steps}
use Rattle.rs_field.specs.code.Bounds.{encode_steps, encode_steps_at}
use Rattle.rs_field.specs.declared.words.steps.Steps.{Steps}
use Rattle.rs_field.proofs.words_lemmas.Counting.{counts_then, counts_within}
use Rattle.rs_rate.specs.passes.Coding.{further_blocks}
use Rattle.rs_rate.specs.values.Configured.{low_or_high}
use Rattle.rs_rate.proofs.values_lemmas.HighCounts.{rows-fit}
use Rattle.rs_rate.specs.values.RowCounts.{encoder_rows_alike}
use Rattle.rs_rate.proofs.values_lemmas.RateLemmas.{chooses, chosen, block-is, block_alike}

-- If the bounds of two calls add up to at most a bound, both calls together are within it.
pub counts_both : {m n whole : ℕ} {a b c : Steps} → m + n ≤ whole → CountsUpTo m 0 0 a b → CountsUpTo n 0 0 b c
    → CountsUpTo whole 0 0 a c
counts_both le p q = counts_within le (counts_then p q)

-- The blocks up to the next one have the steps of the blocks before and the steps of one block.
pub further-next : (start m step : ℕ) → 0 < m → m ≤ start
    → further_blocks m start * step + step ≤ further_blocks m (start + m) * step
further-next start m step some from =
    let moved : start + m - m ≡ start - m + m = omega arith in
    let one : further_blocks m (start + m) ≡ further_blocks m start + 1 =
    ap (λ n. n / m) moved ∙ add-div_right (start - m) some in
    let more : further_blocks m (start + m) * step ≡ (further_blocks m start + 1) * step = ap (λ n. n * step) one in
    omega arith

pub further-within : (start rows m step : ℕ) → 0 < m → start - m ≤ rows - m
    → further_blocks m start * step ≤ further_blocks m rows * step
further-within start rows m step some within = grind (arith, common_steps, mul-le-mul_right)

-- The rows are whole blocks, and the row steps of an encode follow from the number of blocks after the first.
bound-is : (low : Bool) (k r m rows : ℕ) → supports (low_or_high low) k r ≡ true → m ≡ next_power (cond low k r)
    → rows ≡ encoder_rows (low_or_high low) k r
    → let f = further_blocks m rows in
    (encode_steps_at (low_or_high low) k r ≡ (f + 2) * transform_steps m + 2 * (f * m + m)) × (rows ≡ f * m + m)
unfolding encode_steps
bound-is low k r m rows is block all =
    let fit = rows-fit low k r is in
    let some : 0 < m = (let p = pow_pos fit.power.0 in omega (arith, block, fit.power.1)) in
    let apart : rows - m + m ≡ rows = omega (arith, block, all, fit.some) in
    let count : rows / m ≡ further_blocks m rows + 1 = ap (λ n. n / m) (sym apart) ∙ add-div_right (rows - m) some in
    let parts : rows / m * m + rows % m ≡ rows = div-add-mod' rows m in
    let multiple : rows % m ≡ 0 = ap₂ (λ n v. n % v) all block ∙ fit.whole in
    let product : rows / m * m ≡ (further_blocks m rows + 1) * m = ap (λ n. n * m) count in (
      ap₂ (λ n v. (n / v + 1) * transform_steps v + 2 * (n / v) * v) (sym all) (block-is low k r ∙ sym block)
          ∙ ap (λ n. (n + 1) * transform_steps m + 2 * n * m) count
          ∙ regroup (further_blocks m rows) (transform_steps m) m,
      omega arith,
    )
  where
    regroup : (f t m : ℕ) → (f + 1 + 1) * t + 2 * (f + 1) * m ≡ (f + 2) * t + 2 * (f * m + m)
    regroup f t m = omega arith

-- The steps of an encode of the low rate, part by part, are within the bound of the encode.
pub low_total : (k r m rows : ℕ) → supports low_rate k r ≡ true → m ≡ next_power k → rows ≡ encoder_rows low_rate k r
    → m - k + transform_steps m + further_blocks m rows *
    (m + transform_steps m) + transform_steps m + r ≤ encode_steps_at low_rate k r
low_total k r m rows is block all =
    let fit = rows-fit true k r is in
    let bound = bound-is true k r m rows is block all in
    omega (
      arith,
      bound.0,
      sum k r m (transform_steps m) (further_blocks m rows)
          (omega (arith, fit.enough, all, bound.1)),
    )
  where
    sum : (k r m t f : ℕ) → r ≤ f * m + m → m - k + t + f * (m + t) + t + r ≤ (f + 2) * t + 2 * (f * m + m)
    sum k r m t f enough = omega arith

-- The steps of an encode of the high rate, part by part, are within the bound of the encode.
pub high_total : (k r m rows : ℕ) → supports high_rate k r ≡ true → m ≡ next_power r → rows ≡ encoder_rows high_rate k r
    → m + transform_steps m + further_blocks m rows *
    (2 * m + transform_steps m) + transform_steps m + r ≤ encode_steps_at high_rate k r
high_total k r m rows is block all =
    let fit = rows-fit false k r is in
    let bound = bound-is false k r m rows is block all in
    omega (arith, bound.0, sum r m (transform_steps m) (further_blocks m rows) (omega (arith, fit.block, block)))
  where
    sum : (r m t f : ℕ) → r ≤ m → m + t + f * (2 * m + t) + t + r ≤ (f + 2) * t + 2 * (f * m + m)
    sum r m t f few = omega arith

-- If two rates make the same choice for counts, they have the same bound.
pub steps_alike : (one other : Rate) (k r : ℕ) → is_low one k r ≡ is_low other k r
    → encode_steps_at one k r ≡ encode_steps_at other k r
steps_alike one other k r same =
    ap₂ (λ n m. encode_steps (n / m) m) (encoder_rows_alike one other k r same) (block_alike one other k r same)

-- The bound of an encode is at least the number of recovery shards.
pub tails_within : (rate : Rate) (k r : ℕ) → supports rate k r ≡ true → r ≤ encode_steps_at rate k r
tails_within rate k r is =
    subst (λ (n : ℕ). r ≤ n) (steps_alike (low_or_high (is_low rate k r)) rate k r (chooses (is_low rate k r) k r))
    (by_choice (is_low rate k r) (chosen rate k r (is_low rate k r) is refl))
  where
    by_choice : (low : Bool) → supports (low_or_high low) k r ≡ true → r ≤ encode_steps_at (low_or_high low) k r
    by_choice true is = let room = low_total k r (next_power k) (encoder_rows low_rate k r) is refl refl in omega arith
    by_choice false is = let room = high_total k r (next_power r) (encoder_rows high_rate k r) is refl refl in
        omega arith
