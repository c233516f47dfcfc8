-- Rows that are changed in place.
use Rattle.std.specs.Prelude.{◌≡◌, ◌⊎◌, ℕ, ◌<◌, ◌≤◌, List, length, slice_index, bit_xor}
use Rattle.rs_field.specs.declared.rows.changing.Change.{Change}
use Rattle.rs_field.specs.rows.Rows.{chunk, symbol}
use Rattle.rs_field.specs.words.Tables.{times_factor}

-- symbol s of chunk k of a change: the sum of the symbols before and after it
abbrev pub change_word : Change → ℕ → ℕ → ℕ
change_word c k s = bit_xor (symbol (chunk c.old.now k) s) (symbol (chunk c.new.now k) s)

-- a change was added to the rows from a up to b, times the factor whose logarithm is the row's entry of logs; no other
-- row has changed, and no chunk after those of the change
pub record AreChangedFrom (c : Change) (logs : List ℕ) (a b : ℕ) (before after : ℕ → ℕ → ℕ → ℕ) : Type 0 where
  pub changed : (k s i : ℕ) → k < length c.old.now → s < 32 → a ≤ i → i < b
      → after k s i ≡ bit_xor (before k s i) (times_factor (slice_index logs i) (change_word c k s))
  pub others : (k s i : ℕ) → s < 32 → (length c.old.now ≤ k) ⊎ (i < a) ⊎ (b ≤ i) → after k s i ≡ before k s i

-- a change was added to each row that has an entry in logs, and nothing else has changed
abbrev pub AreChanged : Change → List ℕ → (ℕ → ℕ → ℕ → ℕ) → (ℕ → ℕ → ℕ → ℕ) → Type 0
AreChanged c logs before after = AreChangedFrom c logs 0 (length logs) before after
