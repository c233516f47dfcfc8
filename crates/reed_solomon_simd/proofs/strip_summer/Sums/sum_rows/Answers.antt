use Rattle.std.proofs.Common.{refl, sym, inl, inr, ◌∙◌, arith}
use Rattle.std.specs.Prelude.{slice_index}
use Rattle.rs_field.specs.code.PieceStates.{state_of_pieces}
use Rattle.reed_solomon_simd.proofs.BaseLemmas.{base-pieces, some-pieces, sum-same}
use Rattle.reed_solomon_simd.proofs.ConsistentStrips.{even-strip}
use Rattle.reed_solomon_simd.proofs.strip_summer.Sums.sum_rows.Goals as goal

pub invariant_of-sums : goal.invariant_of-sums
invariant_of-sums g c =
    let s = g.P.Pieces.received c.args.received.now in
    let ready = c.requires.ready in
    record {
      size = refl;
      even = even-strip s ready.set_up c.args.start c.args.end ready.strip;
      there = λ x inside is. record {
        set_up = ready.set_up;
        order = ready.strip.order;
        inside = ready.strip.inside;
        begins = ready.strip.begins;
        ends = λ not. elim ready.strip.ends [ inl whole ↦ absurd (not whole) | inr last ↦ last ];
        there = ready.based.marked.received x is;
      };
      outside = c.requires.outside;
      within = λ d few. omega (arith, c.requires.inside d few, ready.based.located.entries);
    }

pub returns : goal.returns
returns g c d few =
    let s = g.P.Pieces.received c.args.received.now in
    let t = state_of_pieces c.args.start c.args.end s in
    let based = c.requires.ready.based in
    let base = c.args.self.now.base in
    let sum = c.make_sums.ensures d few in
    record {
      is_shard = sum.is_shard;
      words = λ j inside.
          sum.words j inside
          ∙ sum-same t base j (slice_index c.args.rows.now d) (record {
            marked = base-pieces c.args.start c.args.end base.marks.now s based.marked;
            exact = λ x inside. based.exact x inside ∙ sym (some-pieces c.args.start c.args.end s x);
            located = based.located;
          }) (c.requires.inside d few);
    }
