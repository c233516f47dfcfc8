use Rattle.std.proofs.Common.{rules, ◌≡◌, ℕ, ◌+◌, ◌-◌, ◌<◌, ◌≤◌, [], length, take, drop, get_or, ap, ◌∙◌, subst, arith}
use Rattle.std.proofs.lemmas.List.{get_or-take, get_or-drop}
use Rattle.rs_field.specs.code.Decoder.{DecoderState}
use Rattle.reed_solomon_simd.specs.StripSums.{sum_at}
use Rattle.reed_solomon_simd.specs.declared.shard_index.ShardIndex.{ShardIndex}
use Rattle.reed_solomon_simd.specs.declared.shard_index.ShardIndex.TheVariants.{Original}
use Rattle.reed_solomon_simd.specs.StripSums.{IsPieceOf, PutBelow}
use Rattle.reed_solomon_simd.proofs.PutPieces.{put-group, piece-named, all-put}
use Rattle.reed_solomon_simd.proofs.RebuiltStrips.{named_shards}
use Rattle.reed_solomon_simd.proofs.strip_sums.put_sums.Given.{Over}
use Rattle.reed_solomon_simd.proofs.strip_sums.put_sums.Goals.{After-sum_pieces}
use Rattle.reed_solomon_simd.proofs.strip_sums.put_sums.Goals as goal

-- The sums are the pieces of the wanted shards of the group.
pieces : (g : Over) (c : After-sum_pieces g) (i : ℕ) → c.loop-at.at ≤ i → i < c.min-next.result
    → IsPieceOf (g.S.Pieces.received c.args.store.now) c.args.start c.args.end
    (get_or c.args.wanted.now i (Original 0))
    (sum_at c.sum_pieces.new.x (c.args.end - c.args.start) (i - c.loop-at.at))
pieces g c i from below =
    let wanted = c.args.wanted.now in
    let at : ℕ = c.loop-at.at in
    let next : ℕ = c.min-next.result in
    let d : ℕ = i - c.loop-at.at in
    let place : c.loop-at.at + (i - c.loop-at.at) ≡ i = omega (arith, from) in
    let many : length (take (c.min-next.result - c.loop-at.at) (drop c.loop-at.at c.args.wanted.now))
    ≡ c.min-next.result - c.loop-at.at = search rules in
    let few : i - c.loop-at.at < c.min-next.result - c.loop-at.at = omega (arith, from, below) in
    let named : get_or (take (c.min-next.result - c.loop-at.at) (drop c.loop-at.at c.args.wanted.now))
    (i - c.loop-at.at) (Original 0) ≡ get_or c.args.wanted.now i (Original 0) =
    get_or-take (next - at) (drop at wanted) d (Original 0) few
    ∙ get_or-drop at wanted d (Original 0)
    ∙ ap (λ (j : ℕ). get_or c.args.wanted.now j (Original 0)) place in
    subst (λ (s : DecoderState). IsPieceOf s c.args.start c.args.end (get_or c.args.wanted.now i (Original 0))
    (sum_at c.sum_pieces.new.x (c.args.end - c.args.start) (i - c.loop-at.at))) c.loop-at.invariant.received
    (subst (λ (w : ShardIndex). IsPieceOf (g.S.Pieces.received c.loop-at.store) c.args.start c.args.end w
    (sum_at c.sum_pieces.new.x (c.args.end - c.args.start) (i - c.loop-at.at))) named
    (c.sum_pieces.ensures d (omega (arith, few, many))))

pub put_group-requires-clause-rooms : goal.put_group-requires-clause-rooms
put_group-requires-clause-rooms g c =
    let (message, agrees) = c.requires.consistent in
    let strip = c.requires.strip in
    let most : c.min-next.result ≤ length c.args.wanted.now = search rules in (
      (g.S.Pieces.received c.args.store.now).configuration.shard_bytes,
      omega (arith, strip.inside, strip.order),
      λ i from below.
          ap length ((c.loop-at.invariant.put message agrees).others i from)
          ∙ c.requires.rooms.fit i [] (omega (arith, below, most, c.requires.rooms.number)),
    )

pub loop-at-preserved : goal.loop-at-preserved
loop-at-preserved g c =
    let s : DecoderState = g.S.Pieces.received c.args.store.now in
    let held = c.loop-at.invariant in
    let most : c.min-next.result ≤ length c.args.wanted.now = search rules in
    let here = pieces g (goal.at.loop-at-preserved g c).After-sum_pieces in
    record {
      inside = most;
      memory = search rules;
      received = g.met.S.Store.kept c.put_group.new.store c.loop-at.store c.in_ok-put_group.ensures.places
          ∙ held.received;
      number = c.in_ok-put_group.ensures.number ∙ held.number;
      put = λ message agrees.
          put-group c.args.start (c.args.end - c.args.start) c.args.end c.loop-at.at c.min-next.result
          (λ d. sum_at c.sum_pieces.new.x (c.args.end - c.args.start) d)
          (named_shards message agrees.coded.0 c.args.wanted.now) (g.S.Rooms.held c.args.store.now)
          (g.S.Rooms.held c.loop-at.store) (g.S.Rooms.held c.put_group.new.store)
          (let e : c.loop-at.at ≤ c.min-next.result = search rules in e)
          (omega (arith, c.requires.strip.order)) (held.put message agrees) c.in_ok-put_group.ensures.put
          (λ i from below. piece-named s c.args.start c.args.end c.requires.strip c.args.wanted.now i
          (sum_at c.sum_pieces.new.x (c.args.end - c.args.start) (i - c.loop-at.at))
          (omega (arith, below, most)) (here i from below) message agrees);
      places = c.in_ok-put_group.ensures.places ∙ held.places;
      loan = c.in_ok-put_group.ensures.loan ∙ held.loan;
    }

pub returns-clause-put : goal.returns-clause-put
returns-clause-put g c =
    let s : DecoderState = g.S.Pieces.received c.args.store.now in
    let all : c.loop-at.at ≡ length c.args.wanted.now =
    omega (arith, c.loop-at.invariant.inside, c.loop-at-test.false) in
    all-put s c.args.start c.args.end c.requires.strip c.args.wanted.now c.requires.can c.requires.consistent
    (g.S.Rooms.held c.args.store.now) (g.S.Rooms.held c.loop-at.store) c.loop-at.invariant.number
    c.requires.rooms.number
    (λ message agrees. subst (λ (m : ℕ). PutBelow c.args.start c.args.end
    (named_shards message agrees.coded.0 c.args.wanted.now) (g.S.Rooms.held c.args.store.now)
    (g.S.Rooms.held c.loop-at.store) m) all (c.loop-at.invariant.put message agrees))
