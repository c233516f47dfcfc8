-- How a change of one original changes the recovery shards.
use Rattle.std.proofs.Common.{
  ◌≡◌,
  ◌≢◌,
  ℕ,
  zero,
  suc,
  ◌+◌,
  ◌%◌,
  ◌<◌,
  ◌≤◌,
  bit_xor,
  sym,
  ap,
  ◌∙◌,
  arith,
  inl,
  inr,
  zero-add,
}
use Rattle.std.proofs.Common.{◌⊎◌, Bool, true, false, List, length, subst}
use Rattle.std.specs.Prelude.{slice_index, Result, Ok, Err, IfOk}
use Rattle.std.specs.Int.Bits.{xor_zero_r}
use Rattle.std.proofs.lemmas.Bool.{cases_eq}
use Rattle.std.proofs.Math.Nat.{mod-eq_of_lt, mod-lt}
use Rattle.rs_field.specs.declared.code.error.Error.{Error}
use Rattle.rs_field.specs.declared.code.frame.Frame.{Frame}
use Rattle.rs_field.specs.code.Column.{column, shard_at}
use Rattle.rs_field.specs.code.Configuration.{configuration}
use Rattle.rs_field.specs.code.Counts.{supports, default_rate}
use Rattle.rs_field.specs.code.Frame.{frame_of, original_row, recovery_row}
use Rattle.rs_field.specs.code.OneChange.{AreChangeFactors}
use Rattle.rs_field.specs.rows.MarkedRows.{is_marked}
use Rattle.rs_field.specs.words.DirectSum.{direct_factor}
use Rattle.rs_field.specs.words.Field.{product, power, log}
use Rattle.rs_field.proofs.code_lemmas.Frame.{HasDistinctRows}
use Rattle.rs_field.proofs.code_lemmas.OneChange.{with_message, marked-originals, word_changed}
use Rattle.rs_field.proofs.code_lemmas.RateFrames.{distinct_rows}
use Rattle.rs_rate.specs.passes.Decoding.{IsLocatorOf}
use Rattle.rs_rate.proofs.passes_lemmas.Erased.{is_located}
use Rattle.rs_field.specs.words.Locator.{log_sum}
use Rattle.rs_field.proofs.words_lemmas.LocatorLemmas.{log_sum-zero, log_sum-itself, log_sum-marked, log_sum-unmarked}
use Rattle.rs_field.proofs.words_lemmas.Power.{log_lt}

-- The frame of supported counts.
pub distinct_rows_of : {frame : Frame} {k r : ℕ} → frame ≡ frame_of default_rate k r → supports default_rate k r ≡ true
    → HasDistinctRows frame k r
distinct_rows_of {frame} {k} {r} framed supported =
    subst (λ (p : Frame). HasDistinctRows p k r) (sym framed) (distinct_rows default_rate k r supported)

-- The logarithms of the factors of an original's row in the rows of the recovery shards are those of its change.
pub factors_of_change : (frame : Frame) (k r index : ℕ) (given : List Bool) (locator factors : List ℕ)
    → frame ≡ frame_of default_rate k r → supports default_rate k r ≡ true → index < k
    → ((i : ℕ) → i < k → is_marked given (original_row frame i) ≡ true)
    → ((p : ℕ) → (p < frame.originals_from) ⊎ (original_row frame k ≤ p) → is_marked given p ≡ false)
    → IsLocatorOf frame given locator → length factors ≡ r
    → ((i : ℕ) → i < r → slice_index factors i
    ≡ direct_factor (λ z. slice_index locator z) (original_row frame index) (recovery_row frame i))
    → AreChangeFactors default_rate k r index factors
factors_of_change frame k r index given locator factors framed supported inside own others is count made =
    subst (λ (p : Frame). ((i : ℕ) → i < k → is_marked given (original_row p i) ≡ true)
    → ((x : ℕ) → (x < p.originals_from) ⊎ (original_row p k ≤ x) → is_marked given x ≡ false)
    → IsLocatorOf p given locator
    → ((i : ℕ) → i < r → slice_index factors i
    ≡ direct_factor (λ z. slice_index locator z) (original_row p index) (recovery_row p i))
    → AreChangeFactors default_rate k r index factors) (sym framed) at_frame own others is made
  where
    at_frame : ((i : ℕ) → i < k → is_marked given (original_row (frame_of default_rate k r) i) ≡ true)
        → ((x : ℕ) → (x < (frame_of default_rate k r).originals_from)
        ⊎ (original_row (frame_of default_rate k r) k ≤ x) → is_marked given x ≡ false)
        → IsLocatorOf (frame_of default_rate k r) given locator
        → ((i : ℕ) → i < r → slice_index factors i
        ≡ direct_factor (λ z. slice_index locator z) (original_row (frame_of default_rate k r) index)
        (recovery_row (frame_of default_rate k r) i))
        → AreChangeFactors default_rate k r index factors
    at_frame own_at others_at is_at made_at = record {
      count = count;
      small = λ i hi. subst (λ (n : ℕ). n < 65535) (sym (made_at i hi)) (mod-lt _ (omega arith));
      change = λ size i j message changed recovery changed_recovery shards changed_shards only coded changed_coded hi
          hj.
          word_changed (configuration default_rate k r size) supported (is_marked given) (λ x. slice_index locator x)
          (λ all. is_located (with_message (configuration default_rate k r size) all) given
          (λ x hx. marked-originals (configuration default_rate k r size) supported (is_marked given) own_at others_at
          all x) is_at)
          index i j message changed recovery changed_recovery inside shards changed_shards only coded changed_coded hi
          hj
          ∙ ap (λ l. bit_xor (column j (shard_at recovery i))
          (product (bit_xor (column j (shard_at message index)) (column j (shard_at changed index))) (power l)))
          (sym (made_at i hi));
    }

-- The same for the result of the call that makes the logarithms.
pub made_factors : {T : Type 0} (items : T → List ℕ) (result : Result T Error) (frame : Frame) (k r index : ℕ)
    (given : List Bool) (locator : List ℕ)
    → frame ≡ frame_of default_rate k r → supports default_rate k r ≡ true → index < k
    → ((i : ℕ) → i < k → is_marked given (original_row frame i) ≡ true)
    → ((p : ℕ) → (p < frame.originals_from) ⊎ (original_row frame k ≤ p) → is_marked given p ≡ false)
    → IsLocatorOf frame given locator → IfOk result (λ f. length (items f) ≡ r)
    → IfOk result (λ f. (i : ℕ) → i < r → slice_index (items f) i
    ≡ direct_factor (λ z. slice_index locator z) (original_row frame index) (recovery_row frame i))
    → IfOk result (λ f. AreChangeFactors default_rate k r index (items f))
made_factors items (Ok f) frame k r index given locator framed supported inside own others is count made =
    factors_of_change frame k r index given locator (items f) framed supported inside own others is count made
made_factors items (Err e) frame k r index given locator framed supported inside own others is count made = tt

-- If only point 0 is marked, the sum at another point is the logarithm of this point.
log_sum-first : (n : ℕ) (marks : ℕ → ℕ) (x : ℕ) → marks 0 ≡ 1 → ((y : ℕ) → 0 < y → marks y ≡ 0) → 0 < x
    → log_sum (suc n) marks x ≡ log x
log_sum-first zero marks x first others some =
    let apart : 0 ≢ x = λ e. let no : ⊥ = omega arith in no in
    log_sum-marked 0 marks x first apart
    ∙ ap (λ s. s + log (bit_xor x 0)) (log_sum-zero marks x)
    ∙ zero-add (log (bit_xor x 0)) ∙ ap log (xor_zero_r x)
log_sum-first (suc n) marks x first others some =
    elim (cases_eq (suc n) x) [
      | inl same ↦ log_sum-itself (suc n) marks x same
      | inr apart ↦ log_sum-unmarked (suc n) marks x (others (suc n) (omega arith)) apart
    ]
    ∙ log_sum-first n marks x first others some

-- The locator of point 0 at another point is the logarithm of this point.
pub first_located : (n : ℕ) (marks : ℕ → ℕ) (entry x : ℕ) → marks 0 ≡ 1 → ((y : ℕ) → 0 < y → marks y ≡ 0)
    → 0 < x → x < n → x < 65536 → entry % 65535 ≡ log_sum n marks x % 65535 → entry % 65535 ≡ log x
first_located zero marks entry x first others some within small is = absurd (let no : ⊥ = omega arith in no)
first_located (suc n) marks entry x first others some within small is =
    is ∙ ap (λ s. s % 65535) (log_sum-first n marks x first others some) ∙ mod-eq_of_lt (log_lt x some small)
