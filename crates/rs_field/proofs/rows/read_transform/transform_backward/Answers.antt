use Rattle.std.proofs.Common.{rules, ◌≡◌, ◌+◌, ◌*◌, ◌≤◌, ap, ap₂, sym, ◌∙◌, zero-add, arith}
use Rattle.std.proofs.Math.Nat.{mul-le-mul_right}
use Rattle.rs_field.specs.rows.Rows.{Chunks, chunk}
use Rattle.rs_field.specs.rows.View.{cell, word}
use Rattle.rs_field.proofs.rows_lemmas.RowOffsets.{row_within, word_of}
use Rattle.rs_field.proofs.words_lemmas.Combination.{forward-same}
use Rattle.rs_field.proofs.rows.read_transform.transform_backward.Goals as goal

pub ifft-requires-clause-zeros : goal.ifft-requires-clause-zeros
unfolding cell
ifft-requires-clause-zeros g c i k inside past few =
    let n = c.args.len in
    let len : c.new-rows.result.shard_len_64 ≡ c.args.len = c.new-rows.ensures.len_64 in
    let after : c.args.used * c.args.len ≤ i * c.args.len = mul-le-mul_right c.args.len (omega (arith, past)) in
    let row = row_within i c.args.count k c.args.len (omega (arith, few)) (omega (arith, inside, len)) in
    ap₂ (λ (chunks : Chunks) m. chunk chunks (i * m + k)) c.new-rows.ensures.chunks len
    ∙ c.requires.zeros (i * n + k) (omega (arith, after)) (omega (arith, row, c.requires.room))

pub returns-clause-values : goal.returns-clause-values
returns-clause-values g c k s inside symbols i few =
    let n = c.args.len in
    let old = c.new-rows.result in
    let new = c.ifft.new.data in
    word_of old _ n k s i c.new-rows.ensures.len_64 (sym c.new-rows.ensures.chunks)
    ∙ ap (word old k s) (sym (zero-add i))
    ∙ c.ifft.ensures.values k s i (omega (arith, inside, c.new-rows.ensures.len_64)) symbols few
    ∙ forward-same _ _ _ _ i (λ q hq. ap (word new k s) (zero-add q)
    ∙ sym (word_of new _ n k s q (c.ifft.ensures.extent.len_64 ∙ c.new-rows.ensures.len_64) (search rules)))
