-- Direct sums over a base: the given shards in marked rows.
use Rattle.std.specs.Prelude.{◌≡◌, ℕ, ◌/◌, ◌%◌, ◌<◌, Bool, true, List, length, slice_index, is_some, bit_xor}
use Rattle.std.specs.Prelude.{if◌then◌else◌}
use Rattle.rs_field.specs.words.Field.{log}
use Rattle.rs_field.specs.words.Transform.{sum_below}
use Rattle.rs_field.specs.code.DirectLaws.{given_at}
use Rattle.rs_field.specs.code.Frame.{row_count}
use Rattle.rs_field.specs.code.Given.{Shards}
use Rattle.rs_field.specs.declared.code.frame.Frame.{Frame}
use Rattle.rs_field.specs.rows.MarkedRows.{is_marked}
use Rattle.rs_field.specs.rows.Rows.{Chunks, chunk, symbol}
use Rattle.rs_rate.specs.rows.Marks.{how_many}

-- exactly the rows of given shards are marked
abbrev pub AreMarksOf : Frame → ℕ → ℕ → Shards → Shards → List Bool → Type 0
AreMarksOf frame k r originals recovery marks =
    (x : ℕ) → x < row_count frame → is_marked marks x ≡ is_some (given_at frame k r originals recovery x)

-- a list has the marked rows below n: it has as many entries, each of them is one of these rows, and a sum over the
-- entries is the sum over these rows
pub record ListsMarked (marks : List Bool) (n : ℕ) (rows : List ℕ) : Type 0 where
  pub count : length rows ≡ how_many n (is_marked marks)
  pub entries : (i : ℕ) → i < length rows → (slice_index rows i < n) × (is_marked marks (slice_index rows i) ≡ true)
  pub sums : (f : ℕ → ℕ) → sum_below (length rows) (λ i. f (slice_index rows i))
      ≡ sum_below n (λ x. if is_marked marks x then f x else 0)

-- a locator and logarithms are what the factors of direct sums are made of: all entries of the locator are words, and
-- there is the logarithm, modulo 65535, of the sum of any two different rows
pub record MakeFactors (locator logs : List ℕ) : Type 0 where
  pub within : (x y : ℕ) → x < length locator → y < length locator → bit_xor x y < length logs
  pub located : (x : ℕ) → slice_index locator x < 65536
  pub known : (z : ℕ) → 0 < z → z < length logs → slice_index logs z % 65535 ≡ log z

-- word j of a sum that is kept in chunks
abbrev pub sum_word : Chunks → ℕ → ℕ
sum_word chunks j = symbol (chunk chunks (j / 32)) (j % 32)
