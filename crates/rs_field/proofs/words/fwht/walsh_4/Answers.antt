-- Two layers after the transforms of the quarters, which are single entries, make the whole transform.
use Rattle.std.proofs.Common.{refl, ◌∙◌, arith}
use Rattle.rs_field.proofs.words_lemmas.Halving.{cut_in_quarters, walsh-at, walsh-joined, walsh-one}
use Rattle.rs_field.proofs.words.fwht.walsh_4.Goals as goal

pub returns-clause-values : goal.returns-clause-values
returns-clause-values c =
    let cut = cut_in_quarters {half = 2} {q = 1} {old = c.args.entries.now} (0, refl) refl c.requires
    c.split_at_mut-low.ensures.front c.split_at_mut-low.ensures.back c.split_at_mut-x0.ensures.front
    c.split_at_mut-x0.ensures.back c.split_at_mut-x2.ensures.front c.split_at_mut-x2.ensures.back in
    walsh-at _ _ c.requires (walsh-joined cut (record {
      size0 = c.quarter_sums.auto.x0 ∙ cut.part0.size;
      size1 = c.quarter_sums.auto.x1 ∙ cut.part1.size;
      size2 = c.quarter_sums.auto.x2 ∙ cut.part2.size;
      done0 = walsh-one _ refl;
      done1 = walsh-one _ refl;
      done2 = walsh-one _ refl;
      done3 = walsh-one _ refl;
      sums = λ i hi. c.quarter_sums.ensures.sums i (omega (arith, hi, cut.part0.size));
    }))
