-- Sums of rows, each times a factor.
use Rattle.std.specs.Prelude.{ℕ}
use Rattle.rs_field.specs.declared.rows.reading.Writing.{Writing}
use Rattle.rs_field.specs.words.Tables.{times_factor}
use Rattle.rs_field.specs.words.Transform.{sum_below}

-- the sum of the words of n rows, each times the factor with its logarithm
abbrev pub row_sum : ℕ → (ℕ → ℕ) → (ℕ → ℕ) → ℕ
row_sum n log words = sum_below n (λ i. times_factor (log i) (words i))

-- the steps to clear a row, which is not cleared if the sum is added to it
unfoldable pub clear_steps : Writing → ℕ
clear_steps Writing.Replacing = 1
clear_steps Writing.Adding = 0
