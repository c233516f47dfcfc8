-- A rate uses the low or the high rate for two supported counts, and has the rows, the frame and the recovery shards of
-- this rate.
use Rattle.std.proofs.Common.{rules, ◌≡◌, ℕ, ◌+◌, Bool, true, false, cond, List, refl, sym, ap, ◌∙◌, true≢false, arith}
use Rattle.std.specs.Prelude.{if◌then◌else◌}
use Rattle.rs_field.specs.code.Counts.{Rate, next_power, supports, is_low, low_rate, high_rate, default_rate}
use Rattle.rs_field.specs.code.Frame.{frame_of, low_frame, high_frame, block_rows}
use Rattle.rs_field.specs.words.Polynomial.{value}
use Rattle.rs_field.specs.code.Column.{Shard, columns}
use Rattle.rs_field.specs.code.Configuration.{configuration}
use Rattle.rs_field.specs.code.Code.{Codes, AreRecovery, AreRecoveryWords}
use Rattle.rs_field.proofs.code_lemmas.SupportedCounts.{default_fits, high_powers, low_powers}
use Rattle.rs_rate.specs.values.Configured.{low_or_high}
use Rattle.rs_rate.proofs.values_lemmas.PowerLemmas.{low_supported}
use Rattle.rs_rate.proofs.values_lemmas.HighCounts.{high_turned}

-- The low rate always uses the low rate, and the high rate always uses the high rate.
pub chooses : (low : Bool) (k r : ℕ) → is_low (low_or_high low) k r ≡ low
unfolding is_low
chooses true k r = refl
chooses false k r = refl

-- If a rate uses the low rate for supported counts, the low rate supports the counts. If it uses the high rate, the
-- high rate supports them.
chosen_low : (rate : Rate) (k r : ℕ) → supports rate k r ≡ true → is_low rate k r ≡ true → supports low_rate k r ≡ true
chosen_low low_rate k r is low = is
chosen_low high_rate k r is low = absurd (true≢false (sym low ∙ chooses false k r))
chosen_low default_rate k r is low =
    let fits = default_fits k r is in
    let powers = low_powers k r low in
    low_supported k r fits.0 fits.1 (omega (arith, fits.2, powers))

chosen_high : (rate : Rate) (k r : ℕ) → supports rate k r ≡ true → is_low rate k r ≡ false
    → supports high_rate k r ≡ true
chosen_high low_rate k r is high = absurd (true≢false (sym (chooses true k r) ∙ high))
chosen_high high_rate k r is high = is
chosen_high default_rate k r is high =
    let fits = default_fits k r is in
    let powers = high_powers k r high in
    sym (high_turned k r) ∙ low_supported r k fits.1 fits.0 (omega (arith, fits.2, powers))

pub chosen : (rate : Rate) (k r : ℕ) (low : Bool) → supports rate k r ≡ true → is_low rate k r ≡ low
    → supports (low_or_high low) k r ≡ true
chosen rate k r true is low = chosen_low rate k r is low
chosen rate k r false is high = chosen_high rate k r is high

-- Two rates that use the same one of the low and the high rate have the same frame and the same recovery words.
pub frame_alike : (one other : Rate) (k r : ℕ) → is_low one k r ≡ is_low other k r
    → frame_of one k r ≡ frame_of other k r
unfolding frame_of
frame_alike one other k r same = ap (λ b. if b then low_frame k r else high_frame k r) same

pub block_alike : (one other : Rate) (k r : ℕ) → is_low one k r ≡ is_low other k r
    → block_rows one k r ≡ block_rows other k r
unfolding block_rows
block_alike one other k r same = ap (λ b. if b then next_power k else next_power r) same

-- The number of rows of a block of the low or the high rate, written out.
pub block-is : (low : Bool) (k r : ℕ) → block_rows (low_or_high low) k r ≡ next_power (cond low k r)
unfolding block_rows is_low
block-is true k r = refl
block-is false k r = refl

-- A frame is that of the low rate exactly if the rate uses the low rate.
pub frame-low : (rate : Rate) (k r : ℕ) → (frame_of rate k r).is_low ≡ is_low rate k r
unfolding frame_of low_frame high_frame
frame-low rate k r = search rules

-- The number of rows of a block of a frame, written out.
pub frame_block-is : (low : Bool) (k r : ℕ)
    → (if (frame_of (low_or_high low) k r).is_low then (frame_of (low_or_high low) k r).recovery_from
    else (frame_of (low_or_high low) k r).originals_from) ≡ next_power (cond low k r)
unfolding frame_of low_frame high_frame is_low
frame_block-is true k r = refl
frame_block-is false k r = refl

codes_alike : (one other : Rate) (k r : ℕ) (words polynomial : List ℕ) → is_low one k r ≡ is_low other k r
    → Codes one k r words polynomial → Codes other k r words polynomial
codes_alike one other k r words polynomial alike codes = search (rules, frame_alike)

recovery_alike : (one other : Rate) (k r : ℕ) (words recovery : List ℕ) → is_low one k r ≡ is_low other k r
    → AreRecoveryWords one k r words recovery → AreRecoveryWords other k r words recovery
recovery_alike one other k r words recovery alike (polynomial, codes, values) = (
  polynomial,
  codes_alike one other k r words polynomial alike codes,
  λ i inside.
      values i inside ∙ ap (λ p. value polynomial (p.recovery_from + i)) (frame_alike one other k r alike),
)

pub shards_alike : (one other : Rate) (k r size : ℕ) (message recovery : List Shard) → is_low one k r ≡ is_low other k r
    → AreRecovery (configuration one k r size) message recovery
    → AreRecovery (configuration other k r size) message recovery
shards_alike one other k r size message recovery alike coded =
    record {
      shards = coded.shards;
      words = λ j inside.
          recovery_alike one other k r (columns j message) (columns j recovery) alike (coded.words j inside);
    }
