use Rattle.std.proofs.Common.{◌+◌, ◌-◌, ◌∙◌, min, refl, sym, arith}
use Rattle.rs_field.proofs.code_lemmas.Pieces.{done-none, done-further, done-all}
use Rattle.reed_solomon_simd.proofs.SetUp.{valid-even}
use Rattle.reed_solomon_simd.proofs.StripLoops.{IsNext, cut-first, strip-next, cut-last, strip-even, strip-whole}
use Rattle.reed_solomon_simd.proofs.strip_encoder.encode_strips_with.Given.{Over}
use Rattle.reed_solomon_simd.proofs.strip_encoder.encode_strips_with.Goals.{After-min}
use Rattle.reed_solomon_simd.proofs.strip_encoder.encode_strips_with.Goals as goal

pub loop-start-init : goal.loop-start-init
loop-start-init g c =
    record {
      cut = cut-first c.args.shard_bytes;
      code = (min 4096 c.args.shard_bytes, omega (arith, c.min-width.ensures), c.requires.code);
      reads = refl;
      done = done-none refl c.requires.fit;
      places = refl;
      loan = refl;
    }

-- The next strip.
next : (g : Over) (c : After-min g)
    → IsNext c.loop-start.start c.min.result c.min-width.result c.args.shard_bytes c.args.shard_bytes
next g c =
    strip-next 4096 c.min-width.ensures c.min.ensures refl c.loop-start.invariant.cut c.loop-start-test.true refl

pub encode_strip-requires-clause-code : goal.encode_strip-requires-clause-code
encode_strip-requires-clause-code g c =
    let held = c.loop-start.invariant in (
      held.code.0,
      omega (arith, held.code.1, c.min.ensures),
      rw held.done.number held.code.2,
    )

pub encode_strip-requires-clause-whole : goal.encode_strip-requires-clause-whole
encode_strip-requires-clause-whole g c reads =
    strip-whole (next g (goal.at.encode_strip-requires-clause-whole g c).After-min).strip
    (c.requires.whole (sym c.loop-start.invariant.reads ∙ reads))

pub encode_strip-requires-clause-some : goal.encode_strip-requires-clause-some
encode_strip-requires-clause-some g c =
    omega (arith, c.min.ensures, c.min-width.ensures, c.loop-start-test.true)

pub encode_strip-requires-clause-even : goal.encode_strip-requires-clause-even
encode_strip-requires-clause-even g c =
    strip-even (next g (goal.at.encode_strip-requires-clause-even g c).After-min).strip (valid-even _ c.requires.valid)

pub encode_strip-requires-clause-fit : goal.encode_strip-requires-clause-fit
encode_strip-requires-clause-fit g c = (
  c.args.shard_bytes,
  (next g (goal.at.encode_strip-requires-clause-fit g c).After-min).strip.inside,
  c.loop-start.invariant.done.fit,
)

pub loop-start-preserved : goal.loop-start-preserved
loop-start-preserved g c =
    let held = c.loop-start.invariant in
    let next = next g (goal.at.loop-start-preserved g c).After-min in
    let now = c.in_ok-encode_strip.ensures in
    record {
      cut = next.cut;
      code = (
        c.loop-start.start + c.min.result - c.loop-start.start,
        omega (arith, c.min.ensures),
        rw held.done.number at now.code,
      );
      reads = now.reads ∙ held.reads;
      done = done-further (g.R.Rooms.held c.encode_strip.new.rooms) next.strip c.requires.sized
          held.done (rw held.done.number at now.coded.1) now.coded.2;
      places = now.places ∙ held.places;
      loan = now.loan ∙ held.loan;
    }

pub returns-clause-coded : goal.returns-clause-coded
returns-clause-coded g c =
    let held = c.loop-start.invariant in
    done-all (rw (cut-last held.cut c.loop-start-test.false refl) at held.done)
