-- One layer after the transforms of both halves makes the transform of the whole.
use Rattle.std.proofs.Common.{◌≡◌, ◌∙◌, length, refl, arith}
use Rattle.rs_field.proofs.words_lemmas.Halving.{walsh-two}
use Rattle.rs_field.proofs.words.fwht.walsh_128.Goals as goal

pub returns-clause-values : goal.returns-clause-values
returns-clause-values c =
    let size : length c.walsh_64.new.entries ≡ 64 = c.walsh_64.auto.entries ∙ c.split_at_mut-low.ensures.front_len in
    walsh-two 64 _ _ _ _ _ (6, refl) c.split_at_mut-low.ensures.front c.split_at_mut-low.ensures.back
    (c.half_sums.auto.x0 ∙ size) c.walsh_64.ensures.values c.walsh_64-2.ensures.values
    (λ i hi. (c.half_sums.ensures.sums i (omega arith), c.half_sums.ensures.differences i (omega arith)))
