use Rattle.std.proofs.Common.{rules, ◌≡◌, ◌<◌, length, bit_xor, sym, ap, ◌∙◌, arith}
use Rattle.rs_field.specs.code.Column.{column}
use Rattle.rs_field.specs.words.Field.{product, power}
use Rattle.rs_rate.proofs.passes_lemmas.SumLemmas.{one_row, first-sum, column-sum}
use Rattle.rs_rate.proofs.passes.changes.add_to_tail.Goals as goal

pub insert_at-requires-clause-room : goal.insert_at-requires-clause-room
insert_at-requires-clause-room g c =
    let some : 0 < length c.args.tail.now = search rules in
    one_row (length c.args.tail.now) 1 (omega (arith, some, c.requires.short))

pub finish_sums-requires-clause-room : goal.finish_sums-requires-clause-room
finish_sums-requires-clause-room g c =
    let some : 0 < length c.args.tail.now = search rules in
    let one : length c.add_tail_times.new.sum ≡ 1 = search rules in
    omega (arith, one, some, c.requires.short)

pub summed_piece-requires : goal.summed_piece-requires
summed_piece-requires g c =
    let some : 0 < length c.args.tail.now = search rules in
    let one : length c.finish_sums.new.x ≡ 1 = search rules in
    omega (arith, one, some, c.requires.short)

pub returns-clause-words : goal.returns-clause-words
returns-clause-words g c j inside =
    ap (column j) (c.copy_from_slice.ensures.after ∙ c.summed_piece.ensures)
    ∙ c.finish_sums.ensures.words 0 j (omega arith) inside
    ∙ first-sum c.add_tail_times.new.sum 1 j
    ∙ c.add_tail_times.ensures.words j (omega (arith, inside, c.requires.same))
    ∙ ap (λ w. bit_xor w (product (column j c.args.change.now) (power c.args.log_m)))
    (sym (column-sum c.insert_at.new.chunks (length c.args.tail.now) j c.requires.even inside)
    ∙ ap (column j) c.insert_at.ensures.here)
