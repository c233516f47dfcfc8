-- Two layers after the transforms of four vectors make the transform of the whole.
use Rattle.std.proofs.Common.{◌∙◌, refl, arith}
use Rattle.rs_field.proofs.words_lemmas.Halving.{cut_in_quarters, walsh-joined, walsh-same, walsh-at}
use Rattle.rs_field.proofs.words.walsh_lanes.walsh_64.Goals as goal

pub returns-clause-values : goal.returns-clause-values
returns-clause-values c =
    let cut =
    cut_in_quarters (4, refl) refl c.requires c.split_at_mut-low.ensures.front c.split_at_mut-low.ensures.back
    c.split_at_mut-x0.ensures.front c.split_at_mut-x0.ensures.back c.split_at_mut-x2.ensures.front
    c.split_at_mut-x2.ensures.back in
    walsh-at _ _ c.requires (walsh-joined cut (record {
      size0 = c.put_lanes.auto.entries ∙ cut.part0.size;
      size1 = c.put_lanes-2.auto.entries ∙ cut.part1.size;
      size2 = c.put_lanes-3.auto.entries ∙ cut.part2.size;
      done0 = walsh-same _ c.lanes_of.ensures c.walsh_16-v0.ensures;
      done1 = walsh-same _ c.lanes_of-2.ensures c.walsh_16-v1.ensures;
      done2 = walsh-same _ c.lanes_of-3.ensures c.walsh_16-v2.ensures;
      done3 = walsh-same _ c.lanes_of-4.ensures c.walsh_16-v3.ensures;
      sums = λ i hi.
          omega (
            arith,
            c.vector_sums.ensures i hi,
            c.put_lanes.ensures i hi,
            c.put_lanes-2.ensures i hi,
            c.put_lanes-3.ensures i hi,
            c.put_lanes-4.ensures i hi,
          );
    }))
