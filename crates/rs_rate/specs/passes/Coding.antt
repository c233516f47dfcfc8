-- The relation of the words of one column to its recovery words, and a bound on the row steps of the coding.
use Rattle.std.specs.Prelude.{◌≡◌, ℕ, ◌+◌, ◌-◌, ◌*◌, ◌/◌, ◌<◌, nat_lt, if◌then◌else◌}
use Rattle.rs_field.specs.code.Counts.{Rate}
use Rattle.rs_field.specs.words.UpTo.{up_to}
use Rattle.rs_field.specs.code.Code.{AreRecoveryWords}
use Rattle.rs_field.specs.words.Transform.{sum_below, forward}
use Rattle.rs_field.specs.words.StepBounds.{CountsUpTo}
use Rattle.rs_field.specs.code.Bounds.{encode_steps_at}
use Rattle.rs_field.specs.declared.words.steps.Steps.{Steps}

-- the first k words, and 0 at each later index
unfoldable pub zero_padded : ℕ → (ℕ → ℕ) → ℕ → ℕ
zero_padded k words i = if nat_lt i k then words i else 0

-- the first m words are the sum of n combinations of m basis polynomials; the values of combination u at the m points
-- from (u + 1) * m on are the old words from u * m on, and zero after the last of the k old words
abbrev pub SumsBlocks : ℕ → ℕ → ℕ → (ℕ → ℕ) → (ℕ → ℕ) → Type 0
SumsBlocks m n k old sums =
    (combinations : ℕ → ℕ → ℕ)
    × ((u i : ℕ) → u < n → i < m → forward m (u * m + m) (combinations u) i ≡ zero_padded k old (u * m + i))
    × ((q : ℕ) → q < m → sums q ≡ sum_below n (λ u. combinations u q))

-- in one column, the r new words are the recovery words of the k old words
abbrev pub CodesWords : Rate → ℕ → ℕ → (ℕ → ℕ) → (ℕ → ℕ) → Type 0
CodesWords rate k r old new = AreRecoveryWords rate k r (up_to k old) (up_to r new)

-- the number of blocks of m rows after the first block
abbrev pub further_blocks : ℕ → ℕ → ℕ
further_blocks m rows = (rows - m) / m

-- coding counts at most the row steps of an encode without the steps that move tails, of which there is one for each
-- recovery shard
abbrev pub CodingCounts : Rate → ℕ → ℕ → Steps → Steps → Type 0
CodingCounts rate k r old new = CountsUpTo (encode_steps_at rate k r - r) 0 0 old new
