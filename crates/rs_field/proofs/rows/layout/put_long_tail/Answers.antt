use Rattle.std.proofs.Common.{◌≡◌, ℕ, ◌∙◌, ◌+◌, ◌-◌, ◌*◌, ◌<◌, arith, ap, sym, inr, get_or, length-take-le}
use Rattle.std.proofs.lemmas.List.{get_or-take}
use Rattle.rs_field.proofs.rows_lemmas.LayoutLemmas.{get-rest}
use Rattle.rs_field.proofs.rows.layout.put_long_tail.Goals as goal

pub slice_bounds-load_32-end : goal.slice_bounds-load_32-end
slice_bounds-load_32-end c = sym (length-take-le 32 c.args.tail.now (omega (arith, c.requires.long, c.requires.length)))

pub load_32-first-requires : goal.load_32-first-requires
load_32-first-requires c = length-take-le 32 c.args.tail.now (omega (arith, c.requires.long, c.requires.length))

pub returns-clause-low : goal.returns-clause-low
returns-clause-low c b h =
    let at : b ≡ 0 + b = omega arith in
    let lt : b < 32 = omega (arith, h, c.requires.half) in
    ap (λ k. get_or c.put_32-2.new.chunk k 0) at
    ∙ c.put_32-2.ensures.here b lt
    ∙ ap (λ bytes. get_or bytes b 0) c.load_32-first.ensures
    ∙ get_or-take 32 c.args.tail.now b 0 lt

pub returns-clause-high : goal.returns-clause-high
returns-clause-high c b h =
    let tail = c.args.tail.now in
    let half = c.args.half in
    let start : ℕ = 2 * half - 32 in
    let i : ℕ = 32 - half + b in
    let at : 32 + b ≡ half + i = omega (arith, c.requires.half) in
    let from : start + i ≡ half + b = omega (arith, c.requires.half, c.requires.long) in
    c.put_32-2.ensures.others (32 + b) (inr (omega arith))
    ∙ ap (λ k. get_or c.put_32.new.chunk k 0) at
    ∙ c.put_32.ensures.here i (omega (arith, h, c.requires.half))
    ∙ ap (λ bytes. get_or bytes i 0) c.load_32-last.ensures
    ∙ get-rest tail start i (omega (arith, h, c.requires.half, c.requires.long, c.requires.length))
    ∙ ap (λ k. get_or tail k 0) from
