use Rattle.std.proofs.Common.{rules, ◌≡◌, ◌+◌, ◌*◌, arith}
use Rattle.rs_field.specs.rows.View.{cell}
use Rattle.rs_field.proofs.rows_lemmas.RowOffsets.{row_within, rows_end}
use Rattle.rs_field.proofs.rows.sums.xor_within.Goals as goal

pub xor_runs-requires-clause-apart : goal.xor_runs-requires-clause-apart
xor_runs-requires-clause-apart c = search (rules, rows_end)

pub xor_runs-requires-clause-a_in : goal.xor_runs-requires-clause-a_in
xor_runs-requires-clause-a_in c = omega (arith, rows_end _ _ _ c.args.data.now.shard_len_64 c.requires.x_in)

pub xor_runs-requires-clause-b_in : goal.xor_runs-requires-clause-b_in
xor_runs-requires-clause-b_in c = omega (arith, rows_end _ _ _ c.args.data.now.shard_len_64 c.requires.y_in)

pub returns-clause-sums : goal.returns-clause-sums
unfolding cell
returns-clause-sums c i k s hi hk hs =
    let n = c.args.data.now.shard_len_64 in
    let x : c.args.x * n + (i * n + k) ≡ (c.args.x + i) * n + k = omega arith in
    let y : c.args.y * n + (i * n + k) ≡ (c.args.y + i) * n + k = omega arith in
    let sum = c.xor_runs.ensures.sums (i * n + k) s (row_within i c.args.count k n hi hk) hs in
    rw (x, y) at sum
