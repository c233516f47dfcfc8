-- The shards in the rows of a decoder, and the originals and the recovery shards among them.
use Rattle.std.proofs.Common.{rules, ◌≡◌, ◌≢◌, ℕ, ◌+◌, ◌<◌, ◌≤◌, Bool, true, false, List, cond, refl, ap, ◌∙◌, arith}
use Rattle.std.proofs.Common.{inl, inr}
use Rattle.std.specs.Prelude.{Some, None, is_some}
use Rattle.std.proofs.lemmas.Bool.{lt-ltb, le-ltb}
use Rattle.rs_field.specs.code.Column.{Shard, IsShard}
use Rattle.rs_field.specs.code.Counts.{Rate}
use Rattle.rs_field.specs.code.Frame.{original_row, recovery_row}
use Rattle.rs_field.specs.code.Decoder.{fresh_decoder}
use Rattle.rs_field.specs.code.Given.{Shards, nothing, with_entry}
use Rattle.rs_field.proofs.code_lemmas.Given.{entered_cases}
use Rattle.rs_field.proofs.code_lemmas.Entries.{count-nothing, count-entered, count_most}
use Rattle.rs_rate.specs.declared.values.configuration.Configuration.{Configuration}
use Rattle.rs_rate.specs.declared.rows.marks.Marks.{Marks}
use Rattle.rs_rate.specs.declared.rows.marks.MarkedShards.TheVariants.{Given, Restored}
use Rattle.rs_rate.specs.values.Configured.{configuration_at}
use Rattle.rs_rate.specs.rows.DecoderView.{state_over}
use Rattle.rs_field.specs.rows.MarkedRows.{is_marked}
use Rattle.rs_rate.specs.rows.Marks.{marks_of_given, given_marks, marked_shards, part, originals_in, recovery_in}
use Rattle.rs_rate.specs.rows.Marks.{HoldGiven}
use Rattle.rs_field.proofs.code_lemmas.Frame.{HasDistinctRows}

-- ---- marked rows

-- A row holds a shard exactly if it is marked.
pub some-marked : (marks : List Bool) (shards : ℕ → Shard) (p : ℕ)
    → is_some (marked_shards marks shards p) ≡ is_marked marks p
some-marked marks shards p = search rules

pub marked-at : (marks : List Bool) (shards : ℕ → Shard) (p : ℕ) (b : Bool) → is_marked marks p ≡ b
    → marked_shards marks shards p ≡ cond b (Some (shards p)) None
marked-at marks shards p b is = ap (λ c. cond c (Some (shards p)) None) is

-- If a row holds a shard, the row is marked, and the shard is the one that belongs to the row.
pub marked-some : (marks : List Bool) (shards : ℕ → Shard) (p : ℕ) (shard : Shard)
    → marked_shards marks shards p ≡ Some shard → (is_marked marks p ≡ true) × (shards p ≡ shard)
marked-some marks shards p shard is = search rules

-- Rows without marks hold no shards.
pub none-marked : (marks : List Bool) (shards : ℕ → Shard) → ((p : ℕ) → is_marked marks p ≡ false)
    → (p : ℕ) → marked_shards marks shards p ≡ None
none-marked marks shards empty p = marked-at marks shards p false (empty p)

-- Marking a row that holds a shard enters the shard in the row.
pub rows-entered : (old new : List Bool) (before after : ℕ → Shard) (row : ℕ) (shard : Shard)
    → is_marked new row ≡ true → ((p : ℕ) → p ≢ row → is_marked new p ≡ is_marked old p)
    → after row ≡ shard → ((p : ℕ) → p ≢ row → after p ≡ before p)
    → marked_shards new after ≡ with_entry (marked_shards old before) row shard
rows-entered old new before after row shard mark others here kept = search (rules, entered_cases)

-- The marks of restored originals mark no given shard.
pub none_told : (marks : Marks) → marks.shards ≡ Restored → (p : ℕ) → is_marked (given_marks marks) p ≡ false
none_told marks told p = ap (λ t. is_marked (marks_of_given t marks.rows.items) p) told

-- ---- parts of a map

pub part-in : (rows : Shards) (from n i : ℕ) → i < n → part rows from n i ≡ rows (from + i)
unfolding part
part-in rows from n i inside = rw (lt-ltb i n inside) refl

pub part-out : (rows : Shards) (from n i : ℕ) → n ≤ i → part rows from n i ≡ None
unfolding part
part-out rows from n i outside = rw (le-ltb i n outside) refl

-- A shard in a part of the rows has an index below the count, and is in its row.
pub part-some : (rows : Shards) (from n i : ℕ) (shard : Shard) → part rows from n i ≡ Some shard
    → (i < n) × (rows (from + i) ≡ Some shard)
part-some rows from n i shard is = search (rules, part-in, part-out)

-- A part of the rows holds a shard at an index below the count exactly if the row of the index is marked.
pub part-marked : (marks : List Bool) (shards : ℕ → Shard) (from n i : ℕ) → i < n
    → is_some (part (marked_shards marks shards) from n i) ≡ is_marked marks (from + i)
part-marked marks shards from n i inside =
    ap is_some (part-in (marked_shards marks shards) from n i inside) ∙ some-marked marks shards (from + i)

-- Maps that are equal in the rows of a part have equal parts.
part-kept : (one other : Shards) (from n : ℕ) → ((i : ℕ) → i < n → one (from + i) ≡ other (from + i))
    → part one from n ≡ part other from n
part-kept one other from n same = search (rules, part-in, part-out)

pub part-nothing : (rows : Shards) (from n : ℕ) → ((p : ℕ) → rows p ≡ None) → part rows from n ≡ nothing
part-nothing rows from n empty = search (rules, part-in, part-out)

-- A shard that is entered in a row of a part is entered in the part.
part-entered : (rows : Shards) (from n index : ℕ) (shard : Shard) → index < n
    → part (with_entry rows (from + index) shard) from n ≡ with_entry (part rows from n) index shard
part-entered rows from n index shard inside = search (rules, entered_cases, part-in, part-out)

-- A shard that is entered in another row does not change a part.
part-apart : (rows : Shards) (from n row : ℕ) (shard : Shard) → ((i : ℕ) → i < n → from + i ≢ row)
    → part (with_entry rows row shard) from n ≡ part rows from n
part-apart rows from n row shard apart =
    part-kept (with_entry rows row shard) rows from n (λ i inside.
    elim (entered_cases rows row (from + i) shard)
    [ inl here ↦ absurd (apart i inside here.0) | inr other ↦ other.1 ])

-- ---- given shards

-- Rows without shards hold zero originals and zero recovery shards.
pub hold_nothing : (c : Configuration) (rows : Shards) → ((p : ℕ) → rows p ≡ None) → HoldGiven c 0 0 rows
hold_nothing c rows empty = search (rules, part-nothing, count-nothing)

-- A decoder whose rows hold no shards is a fresh decoder.
pub nothing-given : (rate : Rate) (c : Configuration) (rows : Shards) → ((p : ℕ) → rows p ≡ None)
    → state_over rate c rows ≡ fresh_decoder (configuration_at rate c)
nothing-given rate c rows empty = search (rules, part-nothing)

-- There are at most as many given shards as a message has.
pub hold-most : {c : Configuration} {originals recovery : ℕ} {rows : Shards} → HoldGiven c originals recovery rows
    → (originals ≤ c.original_count) × (recovery ≤ c.recovery_count)
hold-most {c} {originals} {recovery} {rows} given = (
  omega (arith, given.originals_counted, count_most c.original_count (originals_in c rows)),
  omega (arith, given.recovery_counted, count_most c.recovery_count (recovery_in c rows)),
)

-- If some shard is given, the marks are those of given shards.
pub given_if_some : (c : Configuration) (originals recovery : ℕ) (marks : Marks) (shards : ℕ → Shard)
    → 0 < originals + recovery → HoldGiven c originals recovery (marked_shards (given_marks marks) shards)
    → marks.shards ≡ Given
given_if_some c originals recovery marks shards some given = search (rules, hold_nothing)

-- The row of an original is never that of a recovery shard.
apart : (c : Configuration) (i j : ℕ) → HasDistinctRows c.frame c.original_count c.recovery_count → i < c.original_count
    → j < c.recovery_count → original_row c.frame i ≢ recovery_row c.frame j
apart c i j is own coded same = search rules

module _ {c : Configuration} (is : HasDistinctRows c.frame c.original_count c.recovery_count) {originals recovery : ℕ}
    {rows : Shards} (given : HoldGiven c originals recovery rows) (index : ℕ) (shard : Shard)
    (sized : IsShard c.shard_bytes shard) where
  -- After an original is entered in a free row of originals, there is one more.
  pub hold-original : index < c.original_count → rows (original_row c.frame index) ≡ None
      → HoldGiven c (originals + 1) recovery (with_entry rows (original_row c.frame index) shard)
  hold-original inside free = search (rules, part-entered, count-entered, part-in, part-apart, entered_cases)

  -- After a recovery shard is entered in a free row of recovery shards, there is one more.
  pub hold-recovery : index < c.recovery_count → rows (recovery_row c.frame index) ≡ None
      → HoldGiven c originals (recovery + 1) (with_entry rows (recovery_row c.frame index) shard)
  hold-recovery inside free = search (rules, part-apart, part-entered, count-entered, part-in, entered_cases)

-- ---- adding a shard

module _ (rate : Rate) (c : Configuration) (is : HasDistinctRows c.frame c.original_count c.recovery_count)
    (rows : Shards) (index : ℕ) (shard : Shard) where
  -- Entering a shard in a row of originals changes the originals alone.
  pub original-entered : index < c.original_count
      → state_over rate c (with_entry rows (original_row c.frame index) shard)
      ≡ record (state_over rate c rows) { originals = with_entry (originals_in c rows) index shard }
  original-entered inside = search (rules, part-entered, part-apart)

  -- Entering a shard in a row of recovery shards changes the recovery shards alone.
  pub recovery-entered : index < c.recovery_count
      → state_over rate c (with_entry rows (recovery_row c.frame index) shard)
      ≡ record (state_over rate c rows) { recovery = with_entry (recovery_in c rows) index shard }
  recovery-entered inside = search (rules, part-apart, part-entered)
