use Rattle.std.proofs.Common.{◌*◌, ap, arith}
use Rattle.std.specs.Int.Bits.{xor_lt}
use Rattle.rs_field.proofs.words_lemmas.Packed.{spread_bytes}
use Rattle.rs_field.proofs.words.mul128.spread.Goals as goal

pub returns : goal.returns
returns c i h =
    let ea = c.from-first.ensures in
    let eb = c.from-second.ensures in
    let ec = c.from-third.ensures in
    spread_bytes c.args.a c.args.b c.args.c c.args.d
    (72058693566333184 * c.from-first.result) (72339069031481344 * c.from-second.result)
    (72340172821233664 * c.from-third.result) (72340172838076673 * c.from-fourth.result)
    c.joined.result i c.ranges.a.fits c.ranges.b.fits c.ranges.c.fits c.ranges.d.fits
    (ap (λ v. 72058693566333184 * v) ea) (ap (λ v. 72339069031481344 * v) eb) (ap (λ v. 72340172821233664 * v) ec)
    (ap (λ v. 72340172838076673 * v) c.from-fourth.ensures)
    (xor_lt 64 _ _ (xor_lt 64 (72058693566333184 * c.from-first.result) (72339069031481344 * c.from-second.result)
    (omega arith) (omega arith)) (omega arith))
    c.joined.ensures h
