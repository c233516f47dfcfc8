-- The frame of a rate for two counts: whether the rate supports them, and which of the two rates it uses.
use Rattle.std.proofs.Common.{rules, ◌≡◌, ℕ, ◌+◌, ◌^◌, ◌<◌, ◌≤◌, Bool, true, false, min, max, refl, sym, ap, ◌∙◌, arith}
use Rattle.std.proofs.Common.{inl, inr}
use Rattle.std.specs.Prelude.{nat_le, nat_lt, ◌&&◌, Some, None, cond}
use Rattle.std.proofs.lemmas.Bool.{cases_lt, lt-ltb, le-leb, lt-leb}
use Rattle.rs_field.specs.declared.code.frame.Frame.{Frame}
use Rattle.rs_field.specs.code.Counts.{Rate, next_power, supports, is_low, low_rate, high_rate, default_rate}
use Rattle.rs_field.specs.code.Frame.{frame_of, low_frame, high_frame}
use Rattle.rs_field.proofs.code_lemmas.NextPower.{next_power-small, next_power-least}
use Rattle.rs_field.proofs.code_lemmas.SupportedCounts.{low_fits, high_fits, default_fits, low_powers, high_powers}
use Rattle.rs_rate.specs.values.Configured.{frame_if, low_or_high}
use Rattle.rs_rate.proofs.values_lemmas.PowerLemmas.{low_small}
use Rattle.rs_rate.proofs.values_lemmas.HighCounts.{high_small}
use Rattle.rs_rate.proofs.values_lemmas.RateLemmas.{chooses, frame_alike}

frame-is : (low : Bool) (k r : ℕ) → cond low (low_frame k r) (high_frame k r) ≡ frame_of (low_or_high low) k r
unfolding frame_of is_low
frame-is true k r = refl
frame-is false k r = refl

-- The frame of the low rate or the high rate, for positive counts.
frame-fits : (low : Bool) (k r m : ℕ) → 0 < k → 0 < r → m ≡ next_power (cond low k r)
    → cond (nat_le (m + cond low r k) 65536) (Some (frame_of (low_or_high low) k r)) None
    ≡ frame_if (low_or_high low) k r
unfolding supports
frame-fits true k r m some_k some_r power = rw (power, lt-ltb 0 k some_k, lt-ltb 0 r some_r) refl
frame-fits false k r m some_k some_r power = rw (power, lt-ltb 0 k some_k, lt-ltb 0 r some_r) refl

-- Counts whose block and other shards do not fit the field have no frame.
pub frame-none : (low : Bool) (k r m : ℕ) → 0 < k → 0 < r → m ≡ next_power (cond low k r) → 65536 < m + cond low r k
    → None ≡ frame_if (low_or_high low) k r
frame-none low k r m some_k some_r power large =
    sym (ap (λ b. cond b (Some (frame_of (low_or_high low) k r)) None) (lt-leb (m + cond low r k) 65536 large))
    ∙ frame-fits low k r m some_k some_r power

-- Counts that fit the field have the frame of the low or the high rate.
pub frame-made : (low : Bool) (k r m : ℕ) (frame : Frame) → 0 < k → 0 < r → m ≡ next_power (cond low k r)
    → m + cond low r k ≤ 65536 → frame ≡ cond low (low_frame k r) (high_frame k r)
    → Some frame ≡ frame_if (low_or_high low) k r
frame-made low k r m frame some_k some_r power small is =
    ap Some (is ∙ frame-is low k r)
    ∙ sym (ap (λ b. cond b (Some (frame_of (low_or_high low) k r)) None) (le-leb (m + cond low r k) 65536 small))
    ∙ frame-fits low k r m some_k some_r power

-- A larger count has a power that is not smaller.
power-more : (k r : ℕ) → k ≤ r → r ≤ 65536 → next_power k ≤ next_power r
power-more k r less small =
    let (d, few, power, above) = next_power-small r small in
    let most = next_power-least k d (omega arith) (omega arith) in omega arith

-- If the smaller power is that of k, the larger count is r, or it makes no difference for the sum of the two.
same_sum : (k r p q d : ℕ) → d ≤ 16 → p ≡ 2 ^ d → 0 < k → k ≤ p → 0 < r → r ≤ q → p ≤ q → (p < q → k ≤ r)
    → nat_le (min p q + max k r) 65536 ≡ nat_le (p + r) 65536
same_sum k r p q d few power some_k most_k some_r most_r order more = search rules

-- The default rate supports counts exactly if the rate that it uses supports them.
default-supports : (k r : ℕ) (low : Bool) → 0 < k → k ≤ 65536 → 0 < r → r ≤ 65536
    → is_low default_rate k r ≡ low → supports default_rate k r ≡ supports (low_or_high low) k r
unfolding supports
default-supports k r true some_k few_k some_r few_r choice =
    let (d, few, power, above) = next_power-small k few_k in
    let above_r = (next_power-small r few_r).3 in
    let order = low_powers k r choice in
    ap (λ b. nat_lt 0 k && nat_lt 0 r && b)
    (same_sum k r (next_power k) (next_power r) d few power some_k above some_r above_r order
    (λ less. elim (cases_lt k r) [
      | inl smaller ↦ omega arith
      | inr larger ↦ let no = power-more r k larger few_k in absurd (omega arith)
    ]))
default-supports k r false some_k few_k some_r few_r choice =
    let (d, few, power, above) = next_power-small r few_r in
    let above_k = (next_power-small k few_k).3 in
    let order = high_powers k r choice in
    let turned : min (next_power k) (next_power r) + max k r ≡ min (next_power r) (next_power k) + max r k =
    omega arith in
    ap (λ b. nat_lt 0 k && nat_lt 0 r && b)
    (ap (λ n. nat_le n 65536) turned
    ∙ same_sum r k (next_power r) (next_power k) d few power some_r above some_k above_k order
    (λ less. elim (cases_lt r k) [
      | inl smaller ↦ omega arith
      | inr larger ↦ let no = power-more k r larger few_r in absurd (omega arith)
    ]))

-- The frame of the default rate is that of the rate that it uses.
pub default-frame : (k r : ℕ) (low : Bool) → 0 < k → k ≤ 65536 → 0 < r → r ≤ 65536
    → is_low default_rate k r ≡ low → frame_if default_rate k r ≡ frame_if (low_or_high low) k r
default-frame k r low some_k few_k some_r few_r choice = search (rules, default-supports, frame_alike, chooses)

-- Counts that a rate supports are positive and at most 65536.
pub supported-in_field : (rate : Rate) (k r : ℕ) → supports rate k r ≡ true → (0 < k) × (k ≤ 65536) × (0 < r)
    × (r ≤ 65536)
supported-in_field low_rate k r is = let fits = low_fits k r is in
    (fits.0, low_small k r is, fits.1, omega (arith, fits.2))
supported-in_field high_rate k r is = let fits = high_fits k r is in
    (fits.0, omega (arith, fits.2), fits.1, high_small k r is)
supported-in_field default_rate k r is =
    let fits = default_fits k r is in (fits.0, omega (arith, fits.2), fits.1, omega (arith, fits.2))

-- If there is a frame, the counts are supported, and it is the frame of the rate.
pub frame-some : (rate : Rate) (k r : ℕ) (x : Frame) → Some x ≡ frame_if rate k r
    → (supports rate k r ≡ true) × (x ≡ frame_of rate k r)
frame-some rate k r x some = search rules

-- If the counts are not in the field, there is no frame.
pub frame-outside : (rate : Rate) (k r : ℕ) (inside : Bool)
    → ((0 < k) × (k ≤ 65536) × (0 < r) × (r ≤ 65536) → inside ≡ true) → inside ≡ false → None ≡ frame_if rate k r
frame-outside rate k r inside test out = search (rules, supported-in_field)
