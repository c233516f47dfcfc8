use Rattle.std.proofs.Common.{rules, ◌≡◌, ℕ, ◌∙◌, inl}
use Rattle.rs_field.specs.rows.Layout.{row_len}
use Rattle.rs_rate.specs.rows.Marks.{given_marks}
use Rattle.rs_rate.proofs.passes_lemmas.RestoredRows.{found_read}
use Rattle.rs_rate.proofs.passes.decoding.find_words.Goals as goal

pub returns-clause-words : goal.returns-clause-words
returns-clause-words g c =
    let s = c.args.tally.configuration in
    let n : ℕ = row_len s.shard_bytes in
    let len : c.new-rows.result.shard_len_64 ≡ n = c.new-rows.ensures.len_64 ∙ c.row_len-len.ensures in
    found_read s (given_marks c.args.marks.now) c.args.tally.surplus n c.args.chunks.now _ c.new-rows.result
    c.restore_rows-agrees.new.rows c.restore_rows-agrees.result len (c.restore_rows-agrees.ensures.extent.len_64 ∙ len)
    (search rules) (search rules)
    (inl (c.make_locator_once.new.entries, search rules, search rules))
