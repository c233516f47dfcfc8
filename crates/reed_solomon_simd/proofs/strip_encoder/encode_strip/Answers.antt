use Rattle.std.proofs.Common.{◌≡◌, ◌-◌, length, sym, ap, subst, ◌∙◌, arith}
use Rattle.std.proofs.lemmas.Result.{on_ok_weaker}
use Rattle.rs_field.specs.code.Code.{AreRecovery}
use Rattle.rs_field.specs.code.Configuration.{Configuration}
use Rattle.rs_field.specs.code.OneCall.{default_of}
use Rattle.rs_field.specs.code.Pieces.{pieces}
use Rattle.rs_field.proofs.code_lemmas.Pieces.{pieces-count, pieces-sized}
use Rattle.rs_rate.specs.objects.StripView.{code_of, coded_shards}
use Rattle.reed_solomon_simd.proofs.strip_encoder.encode_strip.Given.{Over}
use Rattle.reed_solomon_simd.proofs.strip_encoder.encode_strip.Goals.{After-encode}
use Rattle.reed_solomon_simd.proofs.strip_encoder.encode_strip.Goals as goal

-- The encoder is set up for the strip.
now : (g : Over) (c : After-encode g) → code_of c.encode.new.self
    ≡ default_of (length (g.O.Originals.shards c.args.originals.now)) (length (g.R.Rooms.held c.args.rooms.now))
    (c.args.end - c.args.start)
now g c =
    let (n, most, code) = c.requires.code in
    c.encode.ensures.code
    ∙ ap (λ (d : Configuration). default_of d.original_count d.recovery_count (c.args.end - c.args.start)) code

-- The encoder has the recovery pieces of the strip.
recoded : (g : Over) (c : After-encode g)
    → AreRecovery (default_of (length (g.O.Originals.shards c.args.originals.now))
    (length (g.R.Rooms.held c.args.rooms.now)) (c.args.end - c.args.start))
    (pieces c.args.start c.args.end (g.O.Originals.shards c.args.originals.now))
    (coded_shards c.encode.new.self)
recoded g c =
    subst (λ (d : Configuration). AreRecovery d
    (pieces c.args.start c.args.end (g.O.Originals.shards c.args.originals.now)) (coded_shards c.encode.new.self))
    (now g c) c.encode.ensures.coded

pub encode-requires : goal.encode-requires
encode-requires g c =
    let (n, most, code) = c.requires.code in
    let originals = g.O.Originals.shards c.args.originals.now in
    let own = ap (λ (d : Configuration). d.shard_bytes) code in
    record {
      shorter = omega (arith, most, own);
      some = omega (arith, c.requires.some);
      even = c.requires.even;
      whole = c.requires.whole;
      number = pieces-count c.args.start c.args.end originals
          ∙ sym (ap (λ (d : Configuration). d.original_count) code);
      sized = pieces-sized c.args.start c.args.end originals (omega (arith, c.requires.some)) c.requires.originals;
    }

pub put_pieces-requires-clause-number : goal.put_pieces-requires-clause-number
put_pieces-requires-clause-number g c =
    let coded = recoded g (goal.at.put_pieces-requires-clause-number g c).After-encode in
    coded.shards.length_is

pub put_pieces-requires-clause-sized : goal.put_pieces-requires-clause-sized
put_pieces-requires-clause-sized g c =
    let coded = recoded g (goal.at.put_pieces-requires-clause-sized g c).After-encode in
    λ i d h. (coded.shards.each i d h).length_is

pub returns-clause-code : goal.returns-clause-code
returns-clause-code g c = now g (goal.at.returns-clause-code g c).After-encode

pub returns-clause-coded : goal.returns-clause-coded
returns-clause-coded g c =
    let coded = recoded g (goal.at.returns-clause-coded g c).After-encode in
    on_ok_weaker c.put_pieces.result (λ put. (coded_shards c.encode.new.self, coded, put)) c.put_pieces.ensures.put
