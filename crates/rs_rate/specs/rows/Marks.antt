-- The marks of a decoder's rows, and the shards in marked rows.
use Rattle.std.specs.Prelude.{
  ◌≡◌,
  ℕ,
  zero,
  suc,
  ◌+◌,
  ◌<◌,
  ◌≤◌,
  ◌⊎◌,
  nat_lt,
  nat_le,
  ◌&&◌,
  ◌||◌,
  if◌then◌else◌,
  Bool,
  true,
  false,
  not,
}
use Rattle.std.specs.Prelude.{List, [], Some, None, vec_len}
use Rattle.std.specs.Vec.{vec_capacity}
use Rattle.rs_field.specs.code.Column.{IsShard}
use Rattle.rs_field.specs.code.Frame.{original_row, recovery_row}
use Rattle.rs_field.specs.code.Given.{Shards, count_below}
use Rattle.rs_field.specs.code.Column.{Shard}
use Rattle.rs_field.specs.rows.MarkedRows.{is_marked}
use Rattle.rs_field.specs.rows.Rows.{Chunks}
use Rattle.rs_field.specs.declared.code.frame.Frame.{Frame}
use Rattle.rs_rate.specs.declared.values.configuration.Configuration.{Configuration}
use Rattle.rs_rate.specs.declared.rows.marks.Marks.{Marks}
use Rattle.rs_rate.specs.declared.rows.marks.MarkedShards.{MarkedShards}
use Rattle.rs_rate.specs.declared.rows.marks.MarkedShards.TheVariants.{Given, Restored}
use Rattle.rs_rate.specs.declared.values.configuration.Tally.{Tally}
use Rattle.rs_rate.specs.values.Configured.{IsConfigured, rows_to_decode}
use Rattle.rs_rate.specs.rows.ShardRows.{shard_laid_out, shard_in_order}

-- the marks if they are those of given shards, else no marks
abbrev pub marks_of_given : MarkedShards → List Bool → List Bool
marks_of_given Given rows = rows
marks_of_given Restored rows = []

-- the marks if they are those of restored originals, else no marks
abbrev pub marks_of_restored : MarkedShards → List Bool → List Bool
marks_of_restored Given rows = []
marks_of_restored Restored rows = rows

-- the marks of the rows that hold given shards
abbrev pub given_marks : Marks → List Bool
given_marks marks = marks_of_given marks.shards marks.rows.items

-- the marks of the rows that hold restored originals, or will hold them
abbrev pub restored_marks : Marks → List Bool
restored_marks marks = marks_of_restored marks.shards marks.rows.items

-- the number of rows that have a mark
abbrev pub mark_count : Marks → ℕ
mark_count marks = vec_len marks.rows

-- the number of marks for which there is room
abbrev pub mark_room : Marks → ℕ
mark_room marks = vec_capacity marks.rows

-- two vectors of marks are equal, and mark the same kind of shards
abbrev pub AreSameMarks : Marks → Marks → Type 0
AreSameMarks old new = (new.rows.items ≡ old.rows.items) × (new.shards ≡ old.shards)

-- the new marks mark exactly the originals' rows that the old marks do not mark
abbrev pub AreMissing : Configuration → List Bool → List Bool → Type 0
AreMissing c old new =
    (i : ℕ) → i < c.original_count
    → is_marked new (original_row c.frame i) ≡ not (is_marked old (original_row c.frame i))

-- the new marks are those of restored originals: they mark exactly the originals' rows that the old marks do not mark
-- as given
pub record WantsMissing (c : Configuration) (old new : Marks) : Type 0 where
  pub shards : new.shards ≡ Restored
  pub missing : AreMissing c (given_marks old) (restored_marks new)
  pub others : (p : ℕ) → (p < c.frame.originals_from) ⊎ (original_row c.frame c.original_count ≤ p)
      → is_marked (restored_marks new) p ≡ false
  pub length : mark_count new ≡ mark_count old
  pub room : mark_room new ≡ mark_room old

-- how many of the numbers below n have a property
unfoldable pub how_many : ℕ → (ℕ → Bool) → ℕ
how_many zero has = 0
how_many (suc n) has = how_many n has + (if has n then 1 else 0)

-- the conditions of a decode: the configuration is valid, each row has a mark of given shards, the tally counts these
-- marks, all originals are given if none is missing, and there are at most as many surplus shards as rows
pub record CanBeRestored (tally : Tally) (marks : Marks) : Type 0 where
  pub configured : IsConfigured tally.configuration
  pub marked : mark_count marks ≡ rows_to_decode tally.configuration
  pub shards : marks.shards ≡ Given
  pub given : how_many (rows_to_decode tally.configuration) (is_marked (given_marks marks))
      ≡ tally.configuration.original_count + tally.surplus
  pub missing : how_many tally.configuration.original_count
      (λ i. not (is_marked (given_marks marks) (original_row tally.configuration.frame i)))
      ≡ tally.missing
  pub none_missing : tally.missing ≡ 0 → (i : ℕ) → i < tally.configuration.original_count
      → is_marked (given_marks marks) (original_row tally.configuration.frame i) ≡ true
  pub few_surplus : tally.surplus ≤ rows_to_decode tally.configuration

-- the shards of marked rows, by their rows
abbrev pub marked_shards : List Bool → (ℕ → Shard) → Shards
marked_shards marks shards p = if is_marked marks p then Some (shards p) else None

-- the given shards, by their rows
abbrev pub shards_by_row : List Bool → Chunks → ℕ → Shards
shards_by_row marks chunks size = marked_shards marks (shard_laid_out chunks size)

-- the restored originals, by their rows
abbrev pub restored_by_row : List Bool → Chunks → ℕ → Shards
restored_by_row marks chunks size = marked_shards marks (shard_in_order chunks size)

-- the shards in the n rows from row `from` on, by their indexes
unfoldable pub part : Shards → ℕ → ℕ → Shards
part rows from n i = if nat_lt i n then rows (from + i) else None

-- the originals among shards in rows
abbrev pub originals_in : Configuration → Shards → Shards
originals_in c rows = part rows c.frame.originals_from c.original_count

-- the recovery shards among shards in rows
abbrev pub recovery_in : Configuration → Shards → Shards
recovery_in c rows = part rows c.frame.recovery_from c.recovery_count

-- these numbers of originals and of recovery shards are given, in their rows; they have the shard size, and no other
-- row holds a shard
pub record HoldGiven (c : Configuration) (originals recovery : ℕ) (rows : Shards) : Type 0 where
  pub originals_counted : originals ≡ count_below c.original_count (originals_in c rows)
  pub recovery_counted : recovery ≡ count_below c.recovery_count (recovery_in c rows)
  pub placed : (p : ℕ) → (p < c.frame.originals_from) ⊎ (original_row c.frame c.original_count ≤ p)
      → (p < c.frame.recovery_from) ⊎ (recovery_row c.frame c.recovery_count ≤ p) → rows p ≡ None
  pub sized : (p : ℕ) (shard : Shard) → rows p ≡ Some shard → IsShard c.shard_bytes shard

-- 1 if a row is erased, else 0; a row is erased if it is not known to be zero and holds no given shard
abbrev pub erasure : Frame → List Bool → ℕ → ℕ
erasure frame marks y =
    if (nat_le frame.zeros_from y && nat_lt y frame.zeros_to) || is_marked marks y then 0 else 1
