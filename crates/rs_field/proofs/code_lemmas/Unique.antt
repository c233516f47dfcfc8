-- A message has at most one list of recovery shards, and a column of a message determines the columns of its recovery
-- shards.
use Rattle.std.proofs.Common.{◌≡◌, ℕ, ◌/◌, ◌%◌, ◌^◌, ◌<◌, ◌≤◌, List, length, Bool, true, false, cond, refl, sym, ap}
use Rattle.std.proofs.Common.{◌∙◌, subst, arith, inl, inr, pow_mono}
use Rattle.std.specs.Prelude.{slice_index}
use Rattle.std.proofs.lemmas.Bool.{cases_lt}
use Rattle.std.proofs.lemmas.List.{ext_get_or, length-map}
use Rattle.rs_field.specs.words.Polynomial.{value}
use Rattle.rs_field.specs.code.Column.{Shard, column, columns}
use Rattle.rs_field.specs.code.Counts.{Rate, is_low}
use Rattle.rs_field.specs.declared.code.frame.Frame.{Frame}
use Rattle.rs_field.specs.code.Frame.{frame_of, low_frame, high_frame, degree_bound, original_row, recovery_row}
use Rattle.rs_field.specs.code.Configuration.{Configuration, configuration}
use Rattle.rs_field.specs.code.Code.{Codes, AreRecoveryWords, AreRecovery}
use Rattle.rs_field.proofs.code_lemmas.NextPower.{next_power-small}
use Rattle.rs_field.proofs.code_lemmas.Columns.{shards_from_columns}
use Rattle.rs_field.proofs.words_lemmas.Roots.{words_from}
use Rattle.rs_field.proofs.words_lemmas.Values.{same_from_values}

-- In each frame, the known zeros follow the originals, up to the point of the last coefficient.
record AreInLine (frame : Frame) (k i : ℕ) : Type 0 where
  follow : frame.zeros_from ≡ original_row frame k
  inside : original_row frame i < frame.zeros_to
  few : frame.zeros_to ≤ 65536

in_line : (low : Bool) (k r i : ℕ) → k ≤ 65536 → i < degree_bound (cond low (low_frame k r) (high_frame k r))
    → AreInLine (cond low (low_frame k r) (high_frame k r)) k i
unfolding low_frame high_frame
in_line true k r i most hi =
    let (d, few, power, above) = next_power-small k most in
    let least : 2 ^ d ≤ 2 ^ 16 = pow_mono few in
    record { follow = omega arith; inside = omega arith; few = omega arith }
in_line false k r i most hi = record { follow = refl; inside = omega arith; few = omega arith }

-- Two polynomials that code the same words are equal.
pub codes_unique : {rate : Rate} {k r : ℕ} {words P Q : List ℕ} → k ≤ 65536 → Codes rate k r words P
    → Codes rate k r words Q → P ≡ Q
unfolding frame_of
codes_unique {rate} {k} {r} {P} {Q} most p q =
    same_from_values (degree_bound (frame_of rate k r)) P Q p.degree q.degree (words_from P p.coefficients)
    (words_from Q q.coefficients)
    (λ i. original_row (frame_of rate k r) i)
    (λ i h. let at = in_line (is_low rate k r) k r i most h in omega (arith, at.inside, at.few))
    (λ i j hi hj e. omega arith)
    (λ i h. elim (cases_lt i k) [
      | inl original ↦ p.originals i original ∙ sym (q.originals i original)
      | inr zero_point ↦
          let at = in_line (is_low rate k r) k r i most h in
          p.zeros _ (omega (arith, at.follow)) at.inside ∙ sym (q.zeros _ (omega (arith, at.follow)) at.inside)
    ])

-- Words have at most one list of recovery words.
recovery_words-unique : (rate : Rate) (k r : ℕ) (words a b : List ℕ) → k ≤ 65536 → AreRecoveryWords rate k r words a
    → AreRecoveryWords rate k r words b
    → (i : ℕ) → i < r → slice_index a i ≡ slice_index b i
recovery_words-unique rate k r words a b most (p, codes_p, at_p) (o, codes_o, at_o) i below =
    at_p i below ∙ ap (λ (q : List ℕ). value q (recovery_row (frame_of rate k r) i))
    (codes_unique most codes_p codes_o) ∙ sym (at_o i below)

-- Two lists of recovery shards of one message are equal.
pub recovery_unique : {c : Configuration} {message a b : List Shard} → c.original_count ≤ 65536 → c.shard_bytes % 2 ≡ 0
    → AreRecovery c message a → AreRecovery c message b → a ≡ b
recovery_unique {c} {message} {a} {b} most even ha hb =
    shards_from_columns ha.shards hb.shards even
    (λ i j below hj. recovery_words-unique c.rate c.original_count c.recovery_count (columns j message) (columns j a)
    (columns j b) most (ha.words j hj) (hb.words j hj) i below)

-- Messages with equal columns have recovery shards with equal columns.
pub columns_unique : (rate : Rate) (k r size other_size j i : ℕ) (one other one_recovery other_recovery : List Shard)
    → k ≤ 65536 → j < size / 2 → i < other_size / 2
    → AreRecovery (configuration rate k r size) one one_recovery
    → AreRecovery (configuration rate k r other_size) other other_recovery
    → columns j one ≡ columns i other → columns j one_recovery ≡ columns i other_recovery
columns_unique rate k r size other_size j i one other one_recovery other_recovery most hj hi a b same =
    let rows : (n : ℕ) (xs : List Shard) → length xs ≡ r → length (columns n xs) ≡ r = λ n xs e.
    length-map xs (column n) ∙ e in
    ext_get_or 0 (columns j one_recovery) (columns i other_recovery)
    (rows j one_recovery a.shards.length_is ∙ sym (rows i other_recovery b.shards.length_is)) (λ n h.
    recovery_words-unique rate k r (columns i other) (columns j one_recovery) (columns i other_recovery) most
    (subst (λ (words : List ℕ). AreRecoveryWords rate k r words (columns j one_recovery)) same (a.words j hj))
    (b.words i hi)
    n (subst (λ (m : ℕ). n < m) (rows j one_recovery a.shards.length_is) h))
