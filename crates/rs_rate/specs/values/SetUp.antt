-- The configuration for which rows are set up, and the outcome of allocating the rows.
use Rattle.std.specs.Prelude.{◌≡◌, ℕ, Result, Ok}
use Rattle.rs_field.specs.declared.code.error.Error.{Error}
use Rattle.rs_field.specs.code.Configuration.{Configuration as AsDefined, validation_outcome}
use Rattle.rs_field.specs.code.Counts.{Rate, is_low}
use Rattle.rs_rate.specs.declared.values.configuration.Configuration.{Configuration}
use Rattle.rs_rate.specs.values.Configured.{configuration_at, with_frame, rate_of, IsConfigured}
use Rattle.rs_rate.specs.values.ChunkCounts.{memory_outcome, chunk_count}

-- a configuration is valid for a rate, which chooses for its counts the low or the high rate that the configuration
-- names
pub record IsSetUp (rate : Rate) (c : Configuration) : Type 0 where
  pub valid : validation_outcome (configuration_at rate c) ≡ Ok tt
  pub chosen : c ≡ with_frame (configuration_at rate c)
  pub alike : is_low (rate_of c) c.original_count c.recovery_count ≡ is_low rate c.original_count c.recovery_count
  pub configured : IsConfigured c

-- a configuration has the rate, the counts and the size that were asked for, and is valid for this rate
pub record IsMadeFor (asked : AsDefined) (c : Configuration) : Type 0 where
  pub same : configuration_at asked.rate c ≡ asked
  pub set_up : IsSetUp asked.rate c

-- the number of rows of a configuration, from the function that gives the number of rows for a rate and two counts
abbrev pub rows_of : (Rate → ℕ → ℕ → ℕ) → Configuration → ℕ
rows_of row_count c = row_count (rate_of c) c.original_count c.recovery_count

-- the result of setting rows up: success or an error
abbrev pub Answer : Type 0
Answer = Result (Unit {0}) Error

-- the outcome of allocating the rows of a configuration
abbrev pub set_up_outcome : (Rate → ℕ → ℕ → ℕ) → Configuration → Answer
set_up_outcome row_count c = memory_outcome (chunk_count (rows_of row_count c) c.shard_bytes)
