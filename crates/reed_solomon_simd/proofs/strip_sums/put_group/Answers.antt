use Rattle.std.proofs.Common.{rules, ◌≡◌, ◌+◌, ◌-◌, ◌≤◌, length, ap, ◌∙◌, inr, arith}
use Rattle.std.proofs.Math.Nat.{mul-le-mul_right}
use Rattle.rs_field.proofs.rows_lemmas.LayoutLemmas.{length-in_order}
use Rattle.reed_solomon_simd.specs.StripSums.{sum_stride, sum_at}
use Rattle.reed_solomon_simd.proofs.PutPieces.{put-next}
use Rattle.reed_solomon_simd.proofs.strip_sums.put_group.Given.{Over}
use Rattle.reed_solomon_simd.proofs.strip_sums.put_group.Goals.{After-sum_at}
use Rattle.reed_solomon_simd.proofs.strip_sums.put_group.Goals as goal

-- The piece has its size.
long : (g : Over) (c : After-sum_at g) → length c.sum_at.result.now ≡ c.args.piece_len
long g c = search (rules, length-in_order)

pub sum_at-requires : goal.sum_at-requires
sum_at-requires g c =
    let rise = mul-le-mul_right (sum_stride c.args.piece_len)
    (let e : c.loop-index.index - c.args.indexes.start + 1 ≤ c.args.indexes.end - c.args.indexes.start =
    omega (arith, c.loop-index-test.true) in e) in
    omega (arith, rise, c.requires.pieces)

pub put-requires-clause-fits : goal.put-requires-clause-fits
put-requires-clause-fits g c =
    let (size, inside, rooms) = c.requires.rooms in
    let own = long g (goal.at.put-requires-clause-fits g c).After-sum_at in (
      size,
      omega (arith, inside, own),
      ap length (c.loop-index.invariant.put.others c.loop-index.index (inr (omega arith)))
          ∙ rooms c.loop-index.index (omega arith) (omega (arith, c.loop-index-test.true)),
    )

pub loop-index-preserved : goal.loop-index-preserved
loop-index-preserved g c =
    let own = long g (goal.at.loop-index-preserved g c).After-sum_at in
    record {
      number = c.in_ok-put.ensures.number ∙ c.loop-index.invariant.number;
      put = put-next c.args.start c.args.piece_len c.args.indexes.start c.loop-index.index
          (λ d. sum_at c.args.x.now c.args.piece_len d)
          (g.S.Rooms.held c.args.store.now) (g.S.Rooms.held c.loop-index.store) (g.S.Rooms.held c.put.new.self)
          c.sum_at.result.now (omega arith) c.loop-index.invariant.put c.in_ok-put.ensures.here
          c.in_ok-put.ensures.others c.sum_at.ensures own;
      places = c.in_ok-put.ensures.places ∙ c.loop-index.invariant.places;
      loan = c.in_ok-put.ensures.loan ∙ c.loop-index.invariant.loan;
    }
