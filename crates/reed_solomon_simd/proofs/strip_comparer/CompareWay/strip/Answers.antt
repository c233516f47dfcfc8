use Rattle.std.proofs.Common.{rules, [], sym, ap₂, ◌∙◌, inl, arith}
use Rattle.rs_field.specs.code.Decoder.{DecoderState}
use Rattle.rs_field.specs.declared.code.error.Error.TheVariants.{InconsistentShards}
use Rattle.rs_field.proofs.code_lemmas.MissingShards.{count-pieces}
use Rattle.reed_solomon_simd.proofs.ComparedStrips.{made-nothing, put-nothing}
use Rattle.reed_solomon_simd.proofs.strip_comparer.CompareWay.strip.Goals as goal

pub returns-then-not-agree_in_strip-clause-made : goal.returns-then-not-agree_in_strip-clause-made
returns-then-not-agree_in_strip-clause-made g c =
    let x : DecoderState = g.S.Pieces.received c.args.store.now in
    let (n, most, held) = c.requires.ready in
    let own = count-pieces c.args.start c.args.end x.configuration.original_count x.originals in
    let other = count-pieces c.args.start c.args.end x.configuration.recovery_count x.recovery in
    inl (record {
      refusal = c.inconsistent.ensures ∙ ap₂ InconsistentShards (sym own) (sym other);
      surplus = omega (arith, held.all, held.some, own, other);
      none = λ some.
          let agree = c.agree_in_strip.ensures.answer.1 some in
          let other = c.if-not-agree_in_strip.true in
          let no : ⊥ = cc in no;
    })

pub returns-clause-made : goal.returns-clause-made
returns-clause-made g c =
    let x : DecoderState = g.S.Pieces.received c.args.store.now in
    let (n, most, held) = c.requires.ready in (
      [],
      made-nothing x c.requires.can.set_up held.all c.args.start c.args.end c.requires.strip
          (c.agree_in_strip.ensures.answer.0 (search rules)),
      put-nothing c.args.start c.args.end (g.S.Rooms.held c.args.store.now) c.requires.rooms.number,
    )
