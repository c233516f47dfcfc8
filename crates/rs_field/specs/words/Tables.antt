-- The contents of the tables.
use Rattle.std.specs.Prelude.{ℕ, ◌≡◌, ◌+◌, ◌-◌, ◌*◌, ◌/◌, ◌^◌, ◌<◌, ◌≤◌, ◌==◌, if◌then◌else◌, List, length, slice_index}
use Rattle.rs_field.specs.words.Field.{product, power, log}
use Rattle.rs_field.specs.words.Subspace.{subspace}
use Rattle.rs_field.specs.words.Walsh.{IsWalsh, log_or_zero}

-- the powers of the generator and the logarithms of the words; the entry of 0 in the table of logarithms is
-- 65535
pub record IsExpLog (exp_table log_table : List ℕ) : Type 0 where
  pub exp_length : length exp_table ≡ 65536
  pub log_length : length log_table ≡ 65536
  pub exp_entry : (n : ℕ) → n < 65536 → slice_index exp_table n ≡ power n
  pub log_entry : (z : ℕ) → 0 < z → z < 65536 → slice_index log_table z ≡ log z
  pub log_zero : slice_index log_table 0 ≡ 65535

-- the logarithms of the words alone
pub record IsLog (log_table : List ℕ) : Type 0 where
  pub log_length : length log_table ≡ 65536
  pub log_entry : (z : ℕ) → 0 < z → z < 65536 → slice_index log_table z ≡ log z

-- the logarithm of a factor, or 65535 for the factor zero
unfoldable pub log_or_mark : ℕ → ℕ
log_or_mark z = if z == 0 then 65535 else log z

-- at place j - 1, for j an odd number times 2 ^ d: the logarithm of the subspace polynomial of degree 2 ^ d at j - 2 ^
-- d
pub record IsSkew (skew_table : List ℕ) : Type 0 where
  pub skew_length : length skew_table ≡ 65535
  pub skew_entry : (d u j : ℕ) → j ≡ (2 * u + 1) * 2 ^ d → j < 65536
      → slice_index skew_table (j - 1) ≡ log_or_mark (subspace d (j - 2 ^ d))

-- a word times the factor with this logarithm; 65535 represents the factor zero
abbrev pub times_factor : ℕ → ℕ → ℕ
times_factor log_m w = if log_m == 65535 then 0 else product w (power log_m)

-- the Walsh-Hadamard transform of the logarithms, as residues modulo 65535; the logarithm of 0 counts as 0
pub record IsLogWalsh (log_walsh : List ℕ) : Type 0 where
  pub walsh_length : length log_walsh ≡ 65536
  pub walsh_entry : IsWalsh 65536 log_or_zero (λ w. slice_index log_walsh w)

-- the table for n entries, where n is a power of two: the transform of the logarithms of the words below n, each times
-- 65536 / n; the logarithm of 0 counts as 0
pub record IsLogWalshBelow (n : ℕ) (log_walsh : List ℕ) : Type 0 where
  pub below_length : length log_walsh ≡ n
  pub below_entry : IsWalsh n (λ z. 65536 / n * log_or_zero z) (λ w. slice_index log_walsh w)

-- the tables for all powers of two up to 65536, one after another; the table for n entries begins at entry n - 1
pub record AreLogWalshes (all : List ℕ) : Type 0 where
  pub all_length : length all ≡ 131071
  pub all_entry : (d : ℕ) → d ≤ 16
      → IsWalsh (2 ^ d) (λ z. 65536 / 2 ^ d * log_or_zero z) (λ w. slice_index all (2 ^ d - 1 + w))
