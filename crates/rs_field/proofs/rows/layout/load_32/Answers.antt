use Rattle.std.proofs.Common.{◌≡◌, ◌+◌, get_or, ap, ◌∙◌, sym, arith}
use Rattle.std.proofs.lemmas.Simd.{get_or-chunk, length-chunk}
use Rattle.std.proofs.lemmas.List.{ext_get_or}
use Rattle.rs_field.proofs.rows.layout.load_32.Goals as goal

pub returns : goal.returns
returns c =
    let len = length-chunk 0 32 c.args.bytes.now (omega (arith, c.requires)) in
    ext_get_or 0 _ c.args.bytes.now (len ∙ sym c.requires) (λ i h.
    let z : 0 + i ≡ i = omega arith in
    get_or-chunk 0 32 c.args.bytes.now i 0 (omega (arith, h, len)) ∙ ap (λ k. get_or c.args.bytes.now k 0) z)
