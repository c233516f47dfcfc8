-- Facts about the configuration of an object that was set up: it uses the low or the high rate, and its rows and its
-- frame have room for its shards.
use Rattle.std.proofs.Common.{rules, ◌^◌, ◌≡◌, ℕ, ◌+◌, ◌%◌, ◌<◌, ◌≤◌, Bool, true, false, sym, subst, arith}
use Rattle.std.specs.Prelude.{cond, Result, Ok, Err, OnOk, OnErr}
use Rattle.rs_field.specs.declared.code.error.Error.{Error}
use Rattle.rs_field.specs.declared.code.frame.Frame.{Frame}
use Rattle.rs_field.specs.code.Configuration.{Configuration as AsDefined, validation_outcome, start_outcome}
use Rattle.rs_field.specs.code.Counts.{Rate, next_power, supports}
use Rattle.rs_field.specs.code.Frame.{encoder_rows, next_multiple, row_count}
use Rattle.rs_field.proofs.code_lemmas.Frame.{HasDistinctRows}
use Rattle.rs_field.proofs.code_lemmas.RateFrames.{distinct_rows}
use Rattle.rs_rate.specs.declared.values.configuration.Configuration.{Configuration}
use Rattle.rs_rate.specs.values.Configured.{with_frame, low_or_high, block_of, rows_to_encode, rate_of, IsConfigured}
use Rattle.rs_rate.specs.values.ChunkCounts.{memory_outcome, chunk_count}
use Rattle.rs_rate.specs.values.SetUp.{IsSetUp, IsMadeFor, rows_of}
use Rattle.rs_rate.proofs.values_lemmas.HighCounts.{rows-fit}
use Rattle.rs_rate.proofs.values_lemmas.PowerLemmas.{next_multiple-by}
use Rattle.rs_rate.proofs.values_lemmas.RateLemmas.{chooses, chosen, frame_block-is, frame_alike, frame-low}

-- An encoder has rows for its originals and for its recovery shards.
coded-fit : (low : Bool) (k r : ℕ) → supports (low_or_high low) k r ≡ true
    → (k ≤ encoder_rows (low_or_high low) k r) × (r ≤ encoder_rows (low_or_high low) k r)
coded-fit true k r is = let rows = rows-fit true k r is in (omega (arith, rows.block, rows.some), rows.enough)
coded-fit false k r is = let rows = rows-fit false k r is in (rows.enough, omega (arith, rows.block, rows.some))

-- The configuration of a rate, for supported counts and a positive even size, is valid.
pub with_frame-is : (asked : AsDefined) → supports asked.rate asked.original_count asked.recovery_count ≡ true
    → 0 < asked.shard_bytes → asked.shard_bytes % 2 ≡ 0 → IsConfigured (with_frame asked)
with_frame-is asked is some even = search (rules, chosen, frame-low, frame_alike, chooses, distinct_rows, coded-fit)

-- A valid configuration is valid for another size that is positive and even.
pub narrowed : {c : Configuration} → IsConfigured c → (bytes : ℕ) → 0 < bytes → bytes % 2 ≡ 0
    → IsConfigured (record c { shard_bytes = bytes })
narrowed own bytes some even = record {
  positive = some;
  even = even;
  supported = own.supported;
  framed = own.framed;
  rows = own.rows;
  few = own.few;
  own_rows = own.own_rows;
  other_rows = own.other_rows;
  originals = own.originals;
  recovery = own.recovery;
}

-- The frame of a valid configuration has the facts of a frame.
pub places-known : {c : Configuration} → IsConfigured c → HasDistinctRows c.frame c.original_count c.recovery_count
places-known {c} is = subst (λ (f : Frame). HasDistinctRows f c.original_count c.recovery_count) (sym is.framed)
    (distinct_rows (rate_of c) c.original_count c.recovery_count is.supported)

-- The low rate or the high rate supports the counts of a configuration, and a block has the next power of two of the
-- originals or the recovery shards.
pub configuration-by : {c : Configuration} {low : Bool} → IsConfigured c → c.frame.is_low ≡ low
    → (supports (low_or_high low) c.original_count c.recovery_count ≡ true)
    × (block_of c ≡ next_power (cond low c.original_count c.recovery_count))
configuration-by {c} {low} is choice = search (rules, frame_block-is)

-- The blocks that an encoder codes have places for all shards and fit the field.
pub record HasBlocks (c : Configuration) (coded : ℕ) : Type 0 where
  pub power : (d : ℕ) × (block_of c ≡ 2 ^ d)
  pub few : block_of c + coded ≤ 65536
  pub rows : next_multiple coded (block_of c) ≡ rows_to_encode c

pub blocks-known : {c : Configuration} {low : Bool} → IsConfigured c → c.frame.is_low ≡ low
    → HasBlocks c (cond low c.recovery_count c.original_count)
blocks-known {c} {low} is choice = search (rules, configuration-by, rows-fit, next_multiple-by)

-- The outcome of setting up a valid configuration is the outcome of allocating its chunks.
pub start_outcome-by : (rows : ℕ) (c : AsDefined) (chunks : ℕ) → validation_outcome c ≡ Ok tt
    → chunks ≡ chunk_count rows c.shard_bytes → start_outcome rows c ≡ memory_outcome chunks
unfolding chunk_count
start_outcome-by rows c chunks valid is = search rules

-- The rows of a configuration that was made, and the outcome of allocating them, are those of the configuration that
-- was asked for.
pub record HasAskedRows (row_count : Rate → ℕ → ℕ → ℕ) (asked : AsDefined) (c : Configuration) : Type 0 where
  pub count : rows_of row_count c ≡ row_count asked.rate asked.original_count asked.recovery_count
  pub bytes : c.shard_bytes ≡ asked.shard_bytes
  pub answer : start_outcome (row_count asked.rate asked.original_count asked.recovery_count) asked
      ≡ memory_outcome (chunk_count (row_count asked.rate asked.original_count asked.recovery_count) asked.shard_bytes)

pub asked_rows : (row_count : Rate → ℕ → ℕ → ℕ)
    → ((rate : Rate) (c : Configuration) → IsSetUp rate c
    → rows_of row_count c ≡ row_count rate c.original_count c.recovery_count)
    → {asked : AsDefined} {c : Configuration} → IsMadeFor asked c → HasAskedRows row_count asked c
asked_rows row_count rows {asked} {c} made = search (rules, start_outcome-by)

-- A property that holds after a success and after an error always holds.
pub either_way : {Made Kept P : Type 0} (result : Result (Unit {0}) Error) → OnOk result Made → OnErr result Kept
    → (Made → P) → (Kept → P) → P
either_way (Ok tt) made kept by_made by_kept = by_made made
either_way (Err e) made kept by_made by_kept = by_kept kept
