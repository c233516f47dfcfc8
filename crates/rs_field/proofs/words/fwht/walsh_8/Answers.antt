-- One layer after the transforms of both halves makes the transform of the whole.
use Rattle.std.proofs.Common.{◌≡◌, ◌∙◌, length, refl, arith}
use Rattle.rs_field.proofs.words_lemmas.Halving.{walsh-two}
use Rattle.rs_field.proofs.words.fwht.walsh_8.Goals as goal

pub returns-clause-values : goal.returns-clause-values
returns-clause-values c =
    let size : length c.walsh_4.new.entries ≡ 4 = c.walsh_4.auto.entries ∙ c.split_at_mut-low.ensures.front_len in
    walsh-two 4 _ _ _ _ _ (2, refl) c.split_at_mut-low.ensures.front c.split_at_mut-low.ensures.back
    (c.half_sums.auto.x0 ∙ size) c.walsh_4.ensures.values c.walsh_4-2.ensures.values
    (λ i hi. (c.half_sums.ensures.sums i (omega arith), c.half_sums.ensures.differences i (omega arith)))
