use Rattle.std.proofs.Common.{◌≡◌, ◌+◌, false, length, sym, ap, ◌∙◌, arith, inl, inr}
use Rattle.std.proofs.lemmas.Bool.{cases_lt, true≢false}
use Rattle.std.proofs.lemmas.List.{get_or_past}
use Rattle.rs_field.specs.rows.View.{word}
use Rattle.rs_examples.proofs.surface.back_and_forth.Goals as goal

pub returns : goal.returns
returns g c k s i hk hs marked =
    let at : 0 + i ≡ i = omega arith in
    let len = c.ifft_given.ensures.extent.len_64 in
    elim (cases_lt i (length c.args.marks.now)) [
      | inl inside ↦
          ap (word c.fft_wanted.new.data k s) (sym at)
          ∙ c.fft_wanted.ensures.values k s i (omega (arith, hk, len)) hs marked
          ∙ sym (c.ifft_given.ensures.values k s i hk hs inside)
          ∙ ap (word c.args.rows.now k s) at
      | inr past ↦ absurd (true≢false (sym marked ∙ get_or_past c.args.marks.now i false past))
    ]
