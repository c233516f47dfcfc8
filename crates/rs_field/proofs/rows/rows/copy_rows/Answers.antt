use Rattle.std.proofs.Common.{◌≡◌, ◌+◌, ◌-◌, ◌*◌, [], arith}
use Rattle.rs_field.specs.rows.View.{cell}
use Rattle.rs_field.proofs.rows_lemmas.RowOffsets.{row_within, rows_end}
use Rattle.rs_field.proofs.rows.rows.copy_rows.Goals as goal

pub copy_within-requires-clause-in_bounds : goal.copy_within-requires-clause-in_bounds
copy_within-requires-clause-in_bounds c =
    let apart = rows_end _ _ _ c.args.rows.now.shard_len_64 c.requires.apart in
    omega (arith, rows_end _ _ _ c.args.rows.now.shard_len_64 c.requires.within)

pub copy_within-requires-clause-dest_in_bounds : goal.copy_within-requires-clause-dest_in_bounds
copy_within-requires-clause-dest_in_bounds c =
    omega (arith, rows_end _ _ _ c.args.rows.now.shard_len_64 c.requires.within)

pub returns-clause-copied : goal.returns-clause-copied
unfolding cell
returns-clause-copied c i k hk hi =
    let n = c.args.rows.now.shard_len_64 in
    let to : c.args.to * n + (i * n + k) ≡ (c.args.to + i) * n + k = omega arith in
    let from : c.args.from * n + (c.args.to * n + (i * n + k) - c.args.to * n) ≡ (c.args.from + i) * n + k =
    omega arith in
    let inside = row_within i c.args.count k n hi hk in
    let copied = c.copy_within.ensures.by_index.0 (c.args.to * n + (i * n + k)) [] (omega arith) (omega arith) in
    rw (from, to) at copied
