-- Sums of rows, written to some of the rows.
use Rattle.std.specs.Prelude.{◌≡◌, ◌⊎◌, ℕ, ◌<◌, ◌≤◌, bit_xor}
use Rattle.rs_field.specs.declared.rows.reading.Writing.{Writing}
use Rattle.rs_field.specs.rows.AddedRows.{row_sum}
use Rattle.rs_field.specs.rows.Written.{held}

-- the sums of n rows, each times a factor, were written to the rows from a up to b, and nothing else has changed; the n
-- rows have a number of chunks, `log i d` is the logarithm of the factor of row i for row d, and `added k s i` is
-- symbol s of chunk k of row i
pub record AreSumsFrom (writing : Writing) (n chunks : ℕ) (log : ℕ → ℕ → ℕ) (added : ℕ → ℕ → ℕ → ℕ) (a b : ℕ)
    (before after : ℕ → ℕ → ℕ → ℕ) : Type 0 where
  pub sums : (k s d : ℕ) → k < chunks → s < 32 → a ≤ d → d < b
      → after k s d ≡ bit_xor (held writing (before k s d)) (row_sum n (λ i. log i d) (added k s))
  pub others : (k s d : ℕ) → s < 32 → (chunks ≤ k) ⊎ ((d < a) ⊎ (b ≤ d)) → after k s d ≡ before k s d
