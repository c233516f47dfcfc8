-- Groups of rows that follow one another, to which a change was added.
use Rattle.std.proofs.Common.{◌≡◌, ◌⊎◌, ℕ, ◌+◌, ◌-◌, ◌<◌, ◌≤◌, List, length, slice_index, bit_xor}
use Rattle.std.proofs.Common.{inl, inr, sym, subst, arith}
use Rattle.rs_field.specs.declared.rows.changing.Change.{Change}
use Rattle.rs_field.specs.rows.Changed.{AreChangedFrom, change_word}
use Rattle.rs_field.specs.words.Tables.{times_factor}

-- The rows of a group are changed, and no other row.
pub group-changed : (c : Change) (logs : List ℕ) (at n : ℕ) (group : List ℕ) (before after : ℕ → ℕ → ℕ → ℕ)
    → length group ≡ n → ((d : ℕ) → d < n → slice_index group d ≡ slice_index logs (at + d))
    → ((k s d : ℕ) → k < length c.old.now → s < 32 → d < length group
    → after k s (at + d) ≡ bit_xor (before k s (at + d)) (times_factor (slice_index group d) (change_word c k s)))
    → ((k s i : ℕ) → s < 32 → (i < at) ⊎ (at + length group ≤ i) → after k s i ≡ before k s i)
    → ((k s i : ℕ) → length c.old.now ≤ k → s < 32 → after k s i ≡ before k s i)
    → AreChangedFrom c logs at (at + n) before after
group-changed c logs at n group before after size same sums others past = record {
  changed = λ k s i inside small from below.
      let d : ℕ = i - at in
      let place : at + d ≡ i = omega (arith, from) in
      let few : d < length group = omega (arith, size, from, below) in
      subst (λ j. after k s j ≡ bit_xor (before k s j) (times_factor (slice_index logs j) (change_word c k s))) place
      (subst (λ l. after k s (at + d) ≡ bit_xor (before k s (at + d)) (times_factor l (change_word c k s)))
      (same d (omega (arith, from, below))) (sums k s d inside small few));
  others = λ k s i small apart. elim apart [
    | inl over ↦ past k s i over small
    | inr beside ↦ others k s i small (subst (λ m. (i < at) ⊎ (at + m ≤ i)) (sym size) beside)
  ];
}

-- The only row of a group is changed.
pub one-changed : (before after : ℕ → ℕ) (t : ℕ → ℕ) (at l log_m : ℕ) → l ≡ log_m
    → after (at + 0) ≡ bit_xor (before (at + 0)) (t l) → after at ≡ bit_xor (before at) (t log_m)
one-changed before after t at l log_m same sum =
    subst (λ m. after at ≡ bit_xor (before at) (t m)) same
    (subst (λ i. after i ≡ bit_xor (before i) (t l)) (let e : at + 0 ≡ at = omega arith in e) sum)
