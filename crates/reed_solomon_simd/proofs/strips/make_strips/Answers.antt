use Rattle.std.proofs.Common.{rules, ◌≡◌, ◌+◌, ◌-◌, Err, min, refl, sym, ap, ◌∙◌, subst, arith}
use Rattle.rs_field.specs.code.Decoder.{DecoderState}
use Rattle.rs_field.specs.code.Pieces.{IsStrip}
use Rattle.reed_solomon_simd.proofs.ConsistentStrips.{checked-none}
use Rattle.reed_solomon_simd.proofs.Making.{still-can, still-rooms, made-further, refused-all}
use Rattle.reed_solomon_simd.proofs.RebuiltStrips.{rebuilt-all}
use Rattle.reed_solomon_simd.proofs.StripLoops.{IsNext, strip-next, cut-first, cut-last}
use Rattle.reed_solomon_simd.proofs.strips.make_strips.Given.{Over}
use Rattle.reed_solomon_simd.proofs.strips.make_strips.Goals.{After-min}
use Rattle.reed_solomon_simd.proofs.strips.make_strips.Goals as goal

pub loop-start-init : goal.loop-start-init
loop-start-init g c = record {
  received = refl;
  wanted = λ s. refl;
  cut = cut-first c.shard_bytes-shard_bytes.result;
  ready = (
    min c.args.most (g.S.Pieces.received c.args.store.now).configuration.shard_bytes,
    omega (arith, c.min-width.ensures, c.shard_bytes-shard_bytes.ensures),
    c.requires.ready,
  );
  done = record {
    checked = checked-none (g.S.Pieces.received c.args.store.now);
    number = c.requires.rooms.number;
    fit = c.requires.rooms.fit;
    held = λ message agrees i h. refl;
  };
  places = refl;
  loan = refl;
}

-- The next strip.
next : (g : Over) (c : After-min g)
    → IsNext c.loop-start.start c.min.result c.min-width.result c.shard_bytes-shard_bytes.result
    (g.S.Pieces.received c.args.store.now).configuration.shard_bytes
next g c =
    strip-next c.args.most c.min-width.ensures c.min.ensures c.requires.chunks c.loop-start.invariant.cut
    c.loop-start-test.true c.shard_bytes-shard_bytes.ensures

-- The names of the wanted shards are the same in each strip.
names : (g : Over) (c : After-min g)
    → g.W.Way.wanted c.loop-start.way (g.S.Pieces.received c.loop-start.store)
    ≡ g.W.Way.wanted c.args.way.now (g.S.Pieces.received c.args.store.now)
names g c =
    c.loop-start.invariant.wanted (g.S.Pieces.received c.loop-start.store)
    ∙ ap (g.W.Way.wanted c.args.way.now) c.loop-start.invariant.received

pub strip-requires-clause-ready : goal.strip-requires-clause-ready
strip-requires-clause-ready g c =
    let held = c.loop-start.invariant in (
      held.ready.0,
      omega (arith, c.min.ensures, held.ready.1),
      subst (λ (s : DecoderState). g.W.Way.ready c.loop-start.way s held.ready.0) (sym held.received) held.ready.2,
    )

pub strip-requires-clause-can : goal.strip-requires-clause-can
strip-requires-clause-can g c =
    let after = (goal.at.strip-requires-clause-can g c).After-min in
    still-can (g.S.Pieces.received c.args.store.now) (g.S.Pieces.received c.loop-start.store) _ _
    c.loop-start.invariant.received (names g after) c.requires.can

pub strip-requires-clause-strip : goal.strip-requires-clause-strip
strip-requires-clause-strip g c =
    subst (λ (s : DecoderState). IsStrip c.loop-start.start (c.loop-start.start + c.min.result)
    s.configuration.shard_bytes) (sym c.loop-start.invariant.received)
    (next g (goal.at.strip-requires-clause-strip g c).After-min).strip

pub strip-requires-clause-some : goal.strip-requires-clause-some
strip-requires-clause-some g c =
    omega (arith, c.min.ensures, c.min-width.ensures, c.requires.some, c.loop-start-test.true)

pub strip-requires-clause-rooms : goal.strip-requires-clause-rooms
strip-requires-clause-rooms g c =
    let after = (goal.at.strip-requires-clause-rooms g c).After-min in
    still-rooms (g.S.Pieces.received c.args.store.now) (g.S.Pieces.received c.loop-start.store) _ _
    c.loop-start.invariant.received (names g after) g.S.Rooms.grows c.loop-start.start
    (g.S.Rooms.held c.loop-start.store) c.loop-start.invariant.done

pub returns-in_err-strip-clause-made : goal.returns-in_err-strip-clause-made
returns-in_err-strip-clause-made g c =
    let after = (goal.at.returns-in_err-strip-clause-made g c).After-min in
    let refused : c.from_residual.result ≡ Err c.in_err-strip.field-0.0 = search rules in
    rw refused
    (refused-all (g.S.Pieces.received c.args.store.now) (g.S.Pieces.received c.loop-start.store) g.S.Rooms.grows _ _
    (g.S.Rooms.held c.args.store.now) (g.S.Rooms.held c.strip.new.store) c.loop-start.invariant.received
    (next g after).strip c.in_err-strip.field-0.0 c.in_err-strip.ensures.made)

pub loop-start-preserved : goal.loop-start-preserved
loop-start-preserved g c =
    let after = (goal.at.loop-start-preserved g c).After-min in
    let held = c.loop-start.invariant in
    let now = c.in_ok-strip.ensures in
    let x : DecoderState = g.S.Pieces.received c.args.store.now in
    record {
      received = g.met.S.Store.kept c.strip.new.store c.loop-start.store now.places ∙ held.received;
      wanted = λ s. now.wanted s ∙ held.wanted s;
      cut = (next g after).cut;
      ready = (
        c.loop-start.start + c.min.result - c.loop-start.start,
        omega (arith, c.min.ensures),
        subst (λ (s : DecoderState). g.W.Way.ready c.strip.new.self s
            (c.loop-start.start + c.min.result - c.loop-start.start)) held.received now.ready,
      );
      done = made-further x (g.S.Pieces.received c.loop-start.store) _ _ held.received (names g after) g.S.Rooms.grows
          _ _ (g.S.Rooms.held c.loop-start.store) (g.S.Rooms.held c.strip.new.store) (next g after).strip
          c.requires.can now.made held.done;
      places = now.places ∙ held.places;
      loan = now.loan ∙ held.loan;
    }

pub returns-clause-made : goal.returns-clause-made
returns-clause-made g c =
    let held = c.loop-start.invariant in
    let can = c.requires.can in
    rebuilt-all (g.S.Pieces.received c.args.store.now) _ g.S.Rooms.grows (g.S.Rooms.held c.loop-start.store) can.set_up
    can.enough can.can
    (rw (cut-last held.cut c.loop-start-test.false c.shard_bytes-shard_bytes.ensures) at held.done)
