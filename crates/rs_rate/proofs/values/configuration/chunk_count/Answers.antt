use Rattle.std.proofs.Common.{rules, ◌≡◌, ℕ, ◌*◌, refl}
use Rattle.rs_field.specs.rows.Layout.{row_len}
use Rattle.rs_rate.specs.values.ChunkCounts.{chunk_count}
use Rattle.rs_rate.proofs.values.configuration.chunk_count.Goals as goal

chunk_count-is : (rows size : ℕ) → chunk_count rows size ≡ rows * row_len size
unfolding chunk_count
chunk_count-is rows size = refl

pub returns-in_default : goal.returns-in_default
returns-in_default c = search (rules, chunk_count-is)

pub returns-in-Some-checked_mul : goal.returns-in-Some-checked_mul
returns-in-Some-checked_mul c = search (rules, chunk_count-is)

pub returns-in-None : goal.returns-in-None
returns-in-None c = search (rules, chunk_count-is)
