use Rattle.std.proofs.Common.{◌≡◌, ◌+◌, ◌*◌, ◌/◌, ◌%◌, ◌<◌, rules, bit_and, bit_xor, get_or, ap, ◌∙◌, arith}
use Rattle.std.proofs.lemmas.List.{places}
use Rattle.std.proofs.lemmas.Nat.{and_mask}
use Rattle.rs_field.specs.rows.Rows.{symbol}
use Rattle.rs_field.proofs.words_lemmas.Packed.{sum_of_bytes}
use Rattle.rs_field.proofs.rows.symbols.add_symbol.Goals as goal

pub returns-clause-sum : goal.returns-clause-sum
returns-clause-sum c =
    let old = c.args.c.now in
    let w = c.args.word in
    let s = c.args.s in
    let mask : bit_and w 255 ≡ w % 256 = and_mask w 8 in
    let small : get_or old s 0 < 256 = search (rules, places) in
    let whole : bit_and w 255 + 256 * (w / 256) ≡ w = omega arith in
    search (rules, places)
    ∙ sum_of_bytes (get_or old s 0) (get_or old (s + 32) 0) (bit_and w 255) (w / 256) small (omega arith)
    ∙ ap (bit_xor (symbol old s)) whole
