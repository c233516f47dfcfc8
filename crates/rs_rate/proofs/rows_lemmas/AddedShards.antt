-- Adding an original or a recovery shard to a decoder: the outcome of the tests, and the state after the addition.
use Rattle.std.proofs.Common.{rules, ◌≡◌, ℕ, ◌<◌, Bool, true, false, cond, length, refl, sym, ap}
use Rattle.std.specs.Prelude.{Option, Some, None, Result, Ok, Err, is_some, not, ◌==◌}
use Rattle.std.specs.Result.{result_map_both}
use Rattle.std.proofs.lemmas.Bool.{lt-leb, eq-eqb}
use Rattle.rs_field.specs.declared.code.error.Error.{Error}
use Rattle.rs_field.specs.declared.code.error.Error.TheVariants.{DifferentShardSize, DuplicateOriginalShardIndex}
use Rattle.rs_field.specs.declared.code.error.Error.TheVariants.{DuplicateRecoveryShardIndex}
use Rattle.rs_field.specs.code.Column.{Shard}
use Rattle.rs_field.specs.code.Counts.{Rate}
use Rattle.rs_field.specs.code.Frame.{original_row, recovery_row}
use Rattle.rs_field.specs.code.Decoder.{DecoderState, with_original, with_recovery}
use Rattle.rs_field.specs.code.Given.{Shards, with_entry}
use Rattle.rs_field.specs.code.Outcome.{answer_of, state_after}
use Rattle.rs_rate.specs.declared.values.configuration.Configuration.{Configuration}
use Rattle.rs_rate.specs.rows.DecoderView.{state_over}
use Rattle.rs_rate.specs.rows.Entering.{entry_outcome}
use Rattle.rs_rate.specs.rows.Marks.{originals_in, recovery_in}
use Rattle.rs_rate.proofs.rows_lemmas.RowMaps.{part-in, original-entered, recovery-entered}
use Rattle.rs_field.proofs.code_lemmas.Frame.{HasDistinctRows}

-- An outcome for shards in rows, as an outcome for the state of a decoder over the rows.
abbrev over : Rate → Configuration → Result Shards Error → Result DecoderState Error
over rate c outcome = result_map_both (state_over rate c) (λ e. e) outcome

-- The two tests of an entry have the same outcome for rows and for a state.
by_tests : (rate : Rate) (c : Configuration) (rows : Shards) (state : DecoderState) (repeated sized : Error)
    → state_over rate c rows ≡ state → (taken fits : Bool)
    → cond taken (Err repeated) (cond fits (Err sized) (Ok state))
    ≡ over rate c (cond taken (Err repeated) (cond fits (Err sized) (Ok rows)))
by_tests rate c rows state repeated sized same true fits = refl
by_tests rate c rows state repeated sized same false true = refl
by_tests rate c rows state repeated sized same false false = ap Ok (sym same)

-- An optional shard that is not there is `None`.
pub none_of : (o : Option Shard) → is_some o ≡ false → o ≡ None
none_of None is = refl
none_of (Some shard) is = cc

-- Adding a shard to a decoder has the answer and the next state of entering it in the rows.
pub record IsEntered (rate : Rate) (c : Configuration) (rows : Shards) (entered : Result Shards Error)
    (added : Result DecoderState Error) : Type 0 where
  pub answer : answer_of entered ≡ answer_of added
  pub state : state_over rate c (state_after rows entered) ≡ state_after (state_over rate c rows) added

-- The outcome of adding a shard is that of entering it.
is_entered : (rate : Rate) (c : Configuration) (rows : Shards) (entered : Result Shards Error)
    (added : Result DecoderState Error) → added ≡ over rate c entered → IsEntered rate c rows entered added
is_entered rate c rows (Ok new) added is =
    record { answer = sym (ap answer_of is); state = sym (ap (state_after (state_over rate c rows)) is) }
is_entered rate c rows (Err e) added is =
    record { answer = sym (ap answer_of is); state = sym (ap (state_after (state_over rate c rows)) is) }

module _ (rate : Rate) (c : Configuration) (is : HasDistinctRows c.frame c.original_count c.recovery_count)
    (rows : Shards) (index : ℕ) (shard : Shard) where
  -- The outcome of adding an original is that of entering it in its row.
  pub original-added : (row : ℕ) → row ≡ original_row c.frame index → index < c.original_count
      → IsEntered rate c rows (entry_outcome rows row c.shard_bytes (DuplicateOriginalShardIndex index) shard)
      (with_original (state_over rate c rows) index shard)
  original-added row at inside = is_entered rate c rows _ _
      (rw (
        at,
        lt-leb c.original_count index inside,
        part-in rows c.frame.originals_from c.original_count index inside,
      )
      (by_tests rate c (with_entry rows (original_row c.frame index) shard)
      (record (state_over rate c rows) { originals = with_entry (originals_in c rows) index shard })
      (DuplicateOriginalShardIndex index) (DifferentShardSize c.shard_bytes (length shard))
      (original-entered rate c is rows index shard inside) (is_some (rows (original_row c.frame index)))
      (not (length shard == c.shard_bytes))))

  -- The outcome of adding a recovery shard is that of entering it in its row.
  pub recovery-added : (row : ℕ) → row ≡ recovery_row c.frame index → index < c.recovery_count
      → IsEntered rate c rows (entry_outcome rows row c.shard_bytes (DuplicateRecoveryShardIndex index) shard)
      (with_recovery (state_over rate c rows) index shard)
  recovery-added row at inside = is_entered rate c rows _ _
      (rw (
        at,
        lt-leb c.recovery_count index inside,
        part-in rows c.frame.recovery_from c.recovery_count index inside,
      )
      (by_tests rate c (with_entry rows (recovery_row c.frame index) shard)
      (record (state_over rate c rows) { recovery = with_entry (recovery_in c rows) index shard })
      (DuplicateRecoveryShardIndex index) (DifferentShardSize c.shard_bytes (length shard))
      (recovery-entered rate c is rows index shard inside) (is_some (rows (recovery_row c.frame index)))
      (not (length shard == c.shard_bytes))))

-- If a call fails, the state stays as it is.
pub unchanged : {S : Type 0} (s : S) (outcome : Result S Error) (e : Error) → Err e ≡ answer_of outcome
    → s ≡ state_after s outcome
unchanged s (Ok t) e told = cc
unchanged s (Err f) e told = refl

-- A decoder accepts an original only if its index is below k, it was not added before, and it has the size.
pub accepted-original : (s : DecoderState) (index : ℕ) (shard : Shard)
    → answer_of (with_original s index shard) ≡ Ok tt
    → (index < s.configuration.original_count) × (s.originals index ≡ None)
    × (length shard ≡ s.configuration.shard_bytes)
accepted-original s index shard accepted = search (rules, none_of)

-- A decoder accepts a recovery shard only if its index is below r, it was not added before, and it has the size.
pub accepted-recovery : (s : DecoderState) (index : ℕ) (shard : Shard)
    → answer_of (with_recovery s index shard) ≡ Ok tt
    → (index < s.configuration.recovery_count) × (s.recovery index ≡ None)
    × (length shard ≡ s.configuration.shard_bytes)
accepted-recovery s index shard accepted = search (rules, none_of)

module _ (rows : Shards) (row size : ℕ) (repeated : Error) (shard : Shard) where
  -- A shard of the size is entered in a free row.
  pub entry-free : is_some (rows row) ≡ false → length shard ≡ size
      → entry_outcome rows row size repeated shard ≡ Ok (with_entry rows row shard)
  entry-free free same = rw (free, eq-eqb (length shard) size same) refl
