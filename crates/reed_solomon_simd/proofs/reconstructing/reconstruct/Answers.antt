use Rattle.std.proofs.Common.{rules, ℕ, List, map, Bor, Result, Ok}
use Rattle.rs_field.specs.code.Column.{Shard}
use Rattle.rs_field.specs.code.OneCall.{Items}
use Rattle.reed_solomon_simd.specs.declared.reconstruct_error.ReconstructError.{ReconstructError}
use Rattle.reed_solomon_simd.proofs.reconstructing.reconstruct.Goals as goal

-- The shards of borrowed items, with their indexes.
abbrev lent : List (ℕ × Bor Shard) → Items
lent items = map (λ item. (item.0, item.1.now)) items

-- There are no rooms to check.
abbrev no_rooms : ℕ → Result (Unit {0}) ReconstructError
no_rooms size = Ok tt

pub returns-in_err-counts : goal.returns-in_err-counts
returns-in_err-counts g c = search rules

pub returns-in_err-received : goal.returns-in_err-received
returns-in_err-received g c = search rules

pub returns-in_err-check_enough : goal.returns-in_err-check_enough
returns-in_err-check_enough g c = search rules

pub returns-in_err-check_wanted : goal.returns-in_err-check_wanted
returns-in_err-check_wanted g c = search rules

pub returns-in_err-vectors : goal.returns-in_err-vectors
returns-in_err-vectors g c = search rules

pub returns : goal.returns
returns g c = search rules
