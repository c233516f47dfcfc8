-- The shards of a result that an iterator has not lent yet.
use Rattle.std.proofs.Common.{rules, ◌≡◌, ℕ, zero, suc, ◌+◌, ◌-◌, ◌^◌, ◌<◌, ◌≤◌, List, [], ◌∷◌, length, drop, Bool}
use Rattle.std.proofs.Common.{true, false, cond, refl, sym, ap, ap₂, ◌∙◌, arith}
use Rattle.std.proofs.Math.Nat.{sub-zero}
use Rattle.std.proofs.Math.Seq.{drop-cons}
use Rattle.std.proofs.lemmas.List.{length-drop, drop_all}
use Rattle.std.specs.Borrow.{Bor}
use Rattle.std.specs.Prelude.{Option, Some, None, MatchOption, is_some, not, option_copied}
use Rattle.rs_field.specs.code.Column.{Shard, shard_at}
use Rattle.rs_field.specs.code.Given.{Lists, items_below, items_from, count_below, Shards}
use Rattle.rs_field.specs.rows.Rows.{Chunks}
use Rattle.rs_field.specs.rows.MarkedRows.{is_marked}
use Rattle.rs_field.specs.words.UpTo.{up_to}
use Rattle.rs_field.proofs.code_lemmas.Given.{count_below-zero, count_below-suc}
use Rattle.rs_field.proofs.words_lemmas.UpTo.{length-up_to, get-up_to}
use Rattle.rs_field.proofs.code_lemmas.Listed.{items_from-none, items_from-some, items_from-past, length-listed}
use Rattle.rs_rate.specs.declared.rows.decoder_work.DecoderRows.{DecoderRows}
use Rattle.rs_rate.specs.declared.rows.encoder_work.EncoderRows.{EncoderRows}
use Rattle.rs_rate.specs.rows.DecoderView.{restored_by_rows, restored_from}
use Rattle.rs_rate.specs.rows.EncoderView.{lent_shards}
use Rattle.rs_field.proofs.code_lemmas.Entries.{count_most}
use Rattle.rs_rate.specs.values.Configured.{rows_to_encode}
use Rattle.rs_rate.specs.rows.Marks.{restored_marks, part, shards_by_row, restored_by_row}
use Rattle.rs_rate.specs.rows.ShardRows.{shard_in_order}
use Rattle.rs_rate.proofs.rows_lemmas.RowMaps.{part-in, part-out, some-marked}
use Rattle.rs_rate.proofs.rows_lemmas.ShardRowsLemmas.{count-few}

-- The number of recovery shards from an index on.
pub length-left : (rows : EncoderRows) (i : ℕ)
    → length (drop i (lent_shards rows)) ≡ rows.configuration.recovery_count - i
length-left rows i =
    length-drop i (lent_shards rows)
    ∙ ap (λ n. n - i) (length-up_to rows.configuration.recovery_count
    (shard_in_order rows.chunks.items rows.configuration.shard_bytes))

pub left-past : (rows : EncoderRows) (i : ℕ) → rows.configuration.recovery_count ≤ i
    → drop i (lent_shards rows) ≡ []
left-past rows i past =
    let count = length-up_to rows.configuration.recovery_count
    (shard_in_order rows.chunks.items rows.configuration.shard_bytes) in
    drop_all i (lent_shards rows) (omega arith)

-- The recovery shards from an index on begin with the shard of this index.
pub lends_next : (rows : EncoderRows) (i : ℕ) (shard : Shard) → i < rows.configuration.recovery_count
    → shard ≡ shard_in_order rows.chunks.items rows.configuration.shard_bytes i
    → drop i (lent_shards rows) ≡ shard ∷ drop (i + 1) (lent_shards rows)
lends_next rows i shard inside lends =
    let f = shard_in_order rows.chunks.items rows.configuration.shard_bytes in
    let count = length-up_to rows.configuration.recovery_count f in
    drop-cons (lent_shards rows) i [] (omega arith)
    ∙ ap₂ (λ x n. x ∷ drop n (lent_shards rows))
    (get-up_to rows.configuration.recovery_count f i [] inside ∙ sym lends)
    (let n : suc i ≡ i + 1 = omega arith in n)

-- From the count on, there are no restored originals.
pub restored_from-past : (rows : DecoderRows) (i : ℕ) → rows.configuration.original_count ≤ i
    → restored_from rows i ≡ []
restored_from-past rows i past = items_from-past i rows.configuration.original_count (restored_by_rows rows) past

pub restored_from-none : (rows : DecoderRows) (i : ℕ) (r : Option (Bor Shard))
    → i < rows.configuration.original_count → r ≡ None → option_copied r ≡ restored_by_rows rows i
    → restored_from rows i ≡ restored_from rows (i + 1)
restored_from-none rows i r inside none lends =
    items_from-none i rows.configuration.original_count (restored_by_rows rows) inside
    (sym lends ∙ ap option_copied none)

pub restored_from-some : (rows : DecoderRows) (i : ℕ) (r : Option (Bor Shard)) (shard : Bor Shard)
    → i < rows.configuration.original_count → r ≡ Some shard
    → option_copied r ≡ restored_by_rows rows i → restored_from rows i ≡ (i, shard.now) ∷ restored_from rows (i + 1)
restored_from-some rows i r shard inside some lends =
    items_from-some i rows.configuration.original_count (restored_by_rows rows) shard.now inside
    (sym lends ∙ ap option_copied some)

-- The restored originals from index 0 on are all restored originals.
restored_from-all : (rows : DecoderRows)
    → restored_from rows 0 ≡ items_below rows.configuration.original_count (restored_by_rows rows)
restored_from-all rows =
    ap (λ n. items_from 0 n (restored_by_rows rows)) (sub-zero rows.configuration.original_count)

pub lists-restored : (rows : DecoderRows) → Lists (restored_by_rows rows) (restored_from rows 0)
lists-restored rows = record {
  count = rows.configuration.original_count;
  none_past = part-out (restored_by_row (restored_marks rows.memory.marks) rows.memory.chunks.items
      rows.configuration.shard_bytes) rows.configuration.frame.originals_from rows.configuration.original_count;
  in_order = restored_from-all rows;
}

-- If each index has a shard in exactly one of two maps, their numbers of shards add up to the number of indexes.
count-apart : (n : ℕ) (one other : Shards) → ((i : ℕ) → i < n → is_some (one i) ≡ not (is_some (other i)))
    → count_below n one + count_below n other ≡ n
count-apart zero one other apart = omega (arith, count_below-zero one, count_below-zero other)
count-apart (suc n) one other apart =
    let before = count-apart n one other (λ i inside. apart i (omega arith)) in
    let here = ap {B = ℕ} (λ b. cond b 1 0) (apart n (omega arith)) in
    omega (arith, before, count_below-suc n one, count_below-suc n other, here, by_test (is_some (other n)))
  where
    by_test : (b : Bool) → cond (not b) 1 0 + cond b 1 0 ≡ 1
    by_test true = refl
    by_test false = refl

-- The number of restored originals is the number of originals that were not given.
pub length-restored : (old new : List Bool) (before after : Chunks) (size from n : ℕ)
    → ((i : ℕ) → i < n → is_marked new (from + i) ≡ not (is_marked old (from + i)))
    → length (items_below n (part (restored_by_row new after size) from n))
    + count_below n (part (shards_by_row old before size) from n) ≡ n
length-restored old new before after size from n marked =
    search (rules, length-listed, count-apart, part-in, some-marked)

-- The number of restored originals fits a `usize`.
pub restored-few : (rows : DecoderRows) → length (restored_from rows 0) < 2 ^ 64
restored-few rows = search (rules, length-listed, count_most)

-- The number of recovery shards of an encoder's configuration fits a `usize`.
pub recovery_count-few : (rows : EncoderRows) → rows.configuration.recovery_count < 2 ^ 64
recovery_count-few rows =
    omega (
      arith,
      rows.configured.recovery,
      count-few (rows_to_encode rows.configuration) rows.configuration.shard_bytes
          rows.configured.positive rows.sized,
    )

-- The number of recovery shards that an encoder lends fits a `usize`.
pub recovery-few : (rows : EncoderRows) → length (lent_shards rows) < 2 ^ 64
recovery-few rows =
    let made = length-up_to rows.configuration.recovery_count
    (shard_in_order rows.chunks.items rows.configuration.shard_bytes) in
    omega (arith, made, recovery_count-few rows)

-- The shard with an index below the count is the shard in the list at this index.
pub listed-shard : (n index : ℕ) (f : ℕ → Shard) (result : Option (Bor Shard))
    → MatchOption result (n ≤ index) (λ shard. (index < n) × (shard.now ≡ f index))
    → MatchOption result (length (up_to n f) ≤ index)
    (λ shard. (index < length (up_to n f)) × (shard.now ≡ shard_at (up_to n f) index))
listed-shard n index f None h = let same = length-up_to n f in omega (arith, h, same)
listed-shard n index f (Some shard) (inside, is) = let same = length-up_to n f in
    (omega (arith, inside, same), is ∙ sym (get-up_to n f index [] inside))
