-- The code: recovery shards are values of the polynomial through the originals.
use Rattle.std.specs.Prelude.{◌≡◌, ℕ, ◌/◌, ◌%◌, ◌<◌, ◌≤◌, List, length, slice_index}
use Rattle.rs_field.specs.words.Polynomial.{AreWords, value}
use Rattle.rs_field.specs.code.Column.{Shard, AreShards, columns}
use Rattle.rs_field.specs.code.Counts.{Rate}
use Rattle.rs_field.specs.code.Frame.{frame_of, degree_bound, original_point, recovery_point}
use Rattle.rs_field.specs.code.Configuration.{Configuration}

-- a polynomial codes k words if its degree is below the bound, its values at the points of the originals are these
-- words, and its value at each zero point is zero
pub record Codes (rate : Rate) (k r : ℕ) (words polynomial : List ℕ) : Type 0 where
  pub degree : length polynomial ≡ degree_bound (frame_of rate k r)
  pub coefficients : AreWords polynomial
  pub originals : (j : ℕ) → j < k → value polynomial (original_point (frame_of rate k r) j) ≡ slice_index words j
  pub zeros : (x : ℕ) → (frame_of rate k r).zeros_from ≤ x → x < (frame_of rate k r).zeros_to → value polynomial x ≡ 0

-- recovery words are the values of a polynomial at the points of the recovery shards, if this polynomial codes the
-- words of the originals
abbrev pub AreRecoveryWords : Rate → ℕ → ℕ → List ℕ → List ℕ → Type 0
AreRecoveryWords rate k r words recovery =
    (polynomial : List ℕ) × Codes rate k r words polynomial
    × ((i : ℕ) → i < r → slice_index recovery i ≡ value polynomial (recovery_point (frame_of rate k r) i))

-- shards are the recovery shards of a message if they have its size, and their words in each column are recovery words
pub record AreRecovery (c : Configuration) (message recovery : List Shard) : Type 0 where
  pub shards : AreShards c.recovery_count c.shard_bytes recovery
  pub words : (j : ℕ) → j < c.shard_bytes / 2
      → AreRecoveryWords c.rate c.original_count c.recovery_count (columns j message) (columns j recovery)

-- two polynomials that code the same words are equal
abbrev pub HasOnePolynomial : Type 0
HasOnePolynomial =
    (rate : Rate) (k r : ℕ) (words one other : List ℕ) → k ≤ 65536 → Codes rate k r words one
    → Codes rate k r words other → one ≡ other

-- two lists of recovery shards of one message are equal
abbrev pub HasOneRecovery : Type 0
HasOneRecovery =
    (c : Configuration) (message one other : List Shard) → c.original_count ≤ 65536 → c.shard_bytes % 2 ≡ 0
    → AreRecovery c message one → AreRecovery c message other → one ≡ other
