-- For supported counts, the frame of each rate gives the shards different rows.
use Rattle.std.proofs.Common.{rules, ◌≡◌, ℕ, ◌+◌, ◌^◌, ◌≤◌, true, false, min, max, arith, pow_mono}
use Rattle.rs_field.specs.code.Counts.{Rate, low_rate, high_rate, default_rate, next_power, supports, is_low}
use Rattle.rs_field.specs.code.Frame.{low_frame, high_frame, frame_of, row_count}
use Rattle.rs_field.proofs.code_lemmas.NextPower.{exponent-small, next_power-above}
use Rattle.rs_field.proofs.code_lemmas.SupportedCounts.{low_fits, high_fits, default_fits, low_powers, high_powers}
use Rattle.rs_field.proofs.code_lemmas.Frame.{HasDistinctRows, coefficient_count, zeros_end}

-- The frame of the low rate.
low_distinct : (k r : ℕ) → next_power k + r ≤ 65536 → k ≤ next_power k → HasDistinctRows (low_frame k r) k r
unfolding low_frame zeros_end coefficient_count
low_distinct k r fit most =
    let (few, above) = exponent-small (next_power k + r) fit in grind (arith, few, above)

-- The frame of the high rate.
pub high_distinct : (k r : ℕ) → next_power r + k ≤ 65536 → r ≤ next_power r → HasDistinctRows (high_frame k r) k r
unfolding high_frame zeros_end coefficient_count
high_distinct k r fit most = search (rules, exponent-small)

-- A frame by its rate, if the counts fit.
distinct_by_rate : (rate : Rate) (k r : ℕ) → (is_low rate k r ≡ true → next_power k + r ≤ 65536)
    → (is_low rate k r ≡ false → next_power r + k ≤ 65536) → HasDistinctRows (frame_of rate k r) k r
unfolding frame_of
distinct_by_rate rate k r low high = search (rules, low_distinct, next_power-above, high_distinct)

-- The frame of any rate.
pub distinct_rows : (rate : Rate) (k r : ℕ) → supports rate k r ≡ true → HasDistinctRows (frame_of rate k r) k r
unfolding is_low
distinct_rows low_rate k r is = search (rules, distinct_by_rate, low_fits)
distinct_rows high_rate k r is = search (rules, distinct_by_rate, high_fits)
distinct_rows default_rate k r is =
    let fit : min (next_power k) (next_power r) + max k r ≤ 65536 = (default_fits k r is).2 in
    distinct_by_rate default_rate k r
    (λ e. let le : next_power k ≤ next_power r = low_powers k r e in omega arith)
    (λ e. let le : next_power r ≤ next_power k = high_powers k r e in omega arith)

-- For supported counts, there are at most 65536 originals.
pub few_originals : (rate : Rate) (k r : ℕ) → supports rate k r ≡ true → k ≤ 65536
few_originals rate k r is =
    let f = distinct_rows rate k r is in
    let room : row_count (frame_of rate k r) ≤ 2 ^ 16 = pow_mono f.few in
    omega (arith, f.originals)
