use Rattle.std.proofs.Common.{rules, ◌≡◌, ℕ, ◌+◌, ◌-◌, ◌*◌, ◌≤◌, length, refl, ap, arith}
use Rattle.rs_field.specs.rows.Layout.{row_len}
use Rattle.rs_rate.proofs.rows_lemmas.ByteSums.{added-here, added-other}
use Rattle.rs_rate.proofs.rows_lemmas.ShardRowsLemmas.{row_end, part_length}
use Rattle.rs_rate.proofs.rows.shard_rows.add_at.Goals as goal

pub returns-clause-here : goal.returns-clause-here
returns-clause-here c =
    let len : ℕ = c.row_len-len.result in
    let size : ℕ = length c.args.shard.now in
    let start : ℕ = c.args.index * len in
    let n : ℕ = start + len - start in
    let width : c.row_len-len.result ≡ row_len (length c.args.shard.now) = search rules in
    let at = ap (λ m. c.args.index * m) width in
    let end = row_end c.args.index size in
    let fits : start + n ≤ length c.args.chunks.now = omega (arith, at, width, end, c.requires.room) in
    added-here c.args.chunks.now c.add_bytes.new.row size c.args.index start n c.args.shard.now at
    (omega (arith, width)) fits (part_length c.args.chunks.now c.add_bytes.new.row start n fits (search rules)) refl
    c.add_bytes.ensures

pub returns-clause-others : goal.returns-clause-others
returns-clause-others c = search (rules, row_end, added-other, part_length)
