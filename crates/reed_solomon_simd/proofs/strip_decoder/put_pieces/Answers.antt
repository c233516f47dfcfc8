use Rattle.std.proofs.Common.{rules, ◌≡◌, ℕ, ◌+◌, ◌<◌, [], ◌∷◌, ◌++◌, length, take, drop, get_or, sym, ap, ap₂, ◌∙◌}
use Rattle.std.proofs.Common.{inl, inr, arith}
use Rattle.std.proofs.lemmas.Bool.{cases_eq}
use Rattle.std.proofs.lemmas.List.{length-map}
use Rattle.rs_field.specs.code.Column.{Shard}
use Rattle.rs_field.specs.code.PieceStates.{shards_listed}
use Rattle.reed_solomon_simd.proofs.StripDecodeLemmas.{left-next, left-none}
use Rattle.reed_solomon_simd.proofs.strip_decoder.put_pieces.Given.{Over}
use Rattle.reed_solomon_simd.proofs.strip_decoder.put_pieces.Goals.{In-Some}
use Rattle.reed_solomon_simd.proofs.strip_decoder.put_pieces.Goals as goal

-- The piece is that of the next item, and has the length of the strip.
next : (g : Over) (c : In-Some g)
    → (c.loop-piece.room < length c.loop-piece.invariant.items)
    × (get_or (shards_listed c.loop-piece.invariant.items) c.loop-piece.room [] ≡ c.in-Some.piece.now)
    × (drop (c.loop-piece.room + 1) c.loop-piece.invariant.items ≡ c.next.new.self)
    × (c.args.start + length c.in-Some.piece.now ≡ c.args.end)
next g c =
    let held = c.loop-piece.invariant in
    let begins : c.loop-piece.piece-iterator ≡ (c.in-Some.field-0-0, c.in-Some.piece.now) ∷ c.next.new.self =
    search rules in
    let next = left-next _ held.items _ _ held.most (held.left ∙ begins) in
    let long = ap length (sym next.1)
    ∙ (c.requires.pieces held.items held.listed).1 c.loop-piece.room []
    (omega (arith, length-map held.items (λ (x : ℕ × Shard). x.1), next.0)) in
    (next.0, next.1, next.2, omega (arith, long, c.requires.order))

pub put-requires-clause-fits : goal.put-requires-clause-fits
put-requires-clause-fits g c =
    let held = c.loop-piece.invariant in
    let (inside, _, _, ends) = next g (goal.at.put-requires-clause-fits g c).In-Some in (
      c.requires.fit.0,
      omega (arith, ends, c.requires.fit.1),
      ap length (held.others c.loop-piece.room (omega arith))
          ∙ c.requires.fit.2 c.loop-piece.room []
          (omega (arith, inside, (c.requires.pieces held.items held.listed).0)),
    )

pub loop-piece-preserved : goal.loop-piece-preserved
loop-piece-preserved g c =
    let held = c.loop-piece.invariant in
    let n : ℕ = c.loop-piece.room in
    let (inside, piece, left, ends) = next g (goal.at.loop-piece-preserved g c).In-Some in
    let same : get_or (g.R.Rooms.held c.loop-piece.rooms) c.loop-piece.room []
    ≡ get_or (g.R.Rooms.held c.args.rooms.now) c.loop-piece.room [] =
    held.others n (omega arith) in
    record {
      items = held.items;
      listed = held.listed;
      left = left;
      most = omega (arith, inside);
      number = c.in_ok-put.ensures.number ∙ held.number;
      put = λ i h. elim (cases_eq i n) [
        | inl here ↦
            ap (λ (m : ℕ). get_or (g.R.Rooms.held c.put.new.self) m []) here
            ∙ c.in_ok-put.ensures.here
            ∙ ap₂ (λ (old : Shard) (m : ℕ). take c.args.start old ++ (c.in-Some.piece.now ++ drop m old)) same ends
            ∙ ap (λ (p : Shard).
            take c.args.start (get_or (g.R.Rooms.held c.args.rooms.now) n [])
            ++ (p ++ drop c.args.end (get_or (g.R.Rooms.held c.args.rooms.now) n []))) (sym piece)
            ∙ ap (λ (m : ℕ). take c.args.start (get_or (g.R.Rooms.held c.args.rooms.now) m [])
            ++ (get_or (shards_listed held.items) m []
            ++ drop c.args.end (get_or (g.R.Rooms.held c.args.rooms.now) m []))) (sym here)
        | inr other ↦ c.in_ok-put.ensures.others i other ∙ held.put i (omega (arith, h, other))
      ];
      others = λ i h. c.in_ok-put.ensures.others i (λ here. let e : i ≡ n = here in omega (arith, h, e))
          ∙ held.others i (omega (arith, h));
      places = c.in_ok-put.ensures.places ∙ held.places;
      loan = c.in_ok-put.ensures.loan ∙ held.loan;
    }

pub returns-clause-put : goal.returns-clause-put
returns-clause-put g c = search (rules, left-none)
