use Rattle.std.proofs.Common.{rules, ◌≡◌, ◌+◌, ◌∙◌, arith, ap, ◌/◌, ◌%◌, get_or, drop}
use Rattle.std.proofs.lemmas.List.{get_or-take, get_or-drop}
use Rattle.rs_field.specs.rows.Rows.{chunk}
use Rattle.rs_field.proofs.rows_lemmas.LayoutLemmas.{in_order-is}
use Rattle.rs_field.proofs.rows.layout.undo_last_chunk_encoding.Goals as goal

pub returns-then-half-gt0 : goal.returns-then-half-gt0
returns-then-half-gt0 c =
    let old = chunk c.args.row.now (c.args.shard_bytes / 64) in
    in_order-is c.args.shard_bytes c.requires.even (λ k hk. search rules) (λ b hb. search rules)
    (λ b hb.
    let moved : get_or c.put_32.new.chunk (c.args.shard_bytes % 64 / 2 + b) 0 ≡ get_or old (32 + b) 0 =
    c.put_32.ensures.here b (omega arith) ∙ ap (λ bytes. get_or bytes b 0) c.load_32-high.ensures
    ∙ get_or-take 32 (drop 32 old) b 0 (omega arith) ∙ get_or-drop 32 old b 0 in
    search rules)

pub returns-else-half-gt0 : goal.returns-else-half-gt0
returns-else-half-gt0 c = search (rules, in_order-is)
