-- Direct sums over a base that is lent: its marks, its rows and its factors.
use Rattle.std.specs.Prelude.{◌≡◌, ◌≢◌, ℕ, ◌+◌, ◌-◌, ◌*◌, ◌<◌, ◌≤◌, Bool, List, length, nat_lt, slice_index}
use Rattle.std.specs.Prelude.{if◌then◌else◌}
use Rattle.rs_field.specs.rows.MarkedRows.{is_marked}
use Rattle.rs_field.specs.rows.Rows.{Chunks, word_in}
use Rattle.rs_field.specs.words.DirectSum.{direct_sum}
use Rattle.rs_rate.specs.declared.passes.sums.SumBase.{SumBase}
use Rattle.rs_rate.specs.rows.Marks.{how_many}

-- the direct sum over the rows of a base at row y, where row x has the word `words x`
abbrev pub base_sum : SumBase → (ℕ → ℕ) → ℕ → ℕ
base_sum base words y =
    direct_sum (length base.locator.now) (is_marked base.marks.now)
    (λ x. slice_index base.locator.now x) words y

-- the base has the first given rows: exactly the given ones up to its last row
pub record AreFirstOf (given : List Bool) (base : SumBase) : Type 0 where
  pub fit : length base.marks.now ≤ length given
  pub same : (x : ℕ) → x < length base.marks.now → is_marked base.marks.now x ≡ is_marked given x
  pub counted : how_many (length base.marks.now) (is_marked given) ≡ length base.rows.now

-- symbol s of chunk k of row p, in the rows of n chunks before row y and in those after it
unfoldable pub word_beside : Chunks → Chunks → ℕ → ℕ → ℕ → ℕ → ℕ → ℕ
word_beside before after y n k s p =
    if nat_lt p y then word_in before n k s p else word_in after n k s (p - (y + 1))

-- row p is among the rows of n chunks before row y or among those after it
pub record IsRowBeside (before after : Chunks) (y n p : ℕ) : Type 0 where
  pub apart : p ≢ y
  pub front : p < y → p * n + n ≤ length before
  pub back : y < p → (p - (y + 1)) * n + n ≤ length after
