use Rattle.std.proofs.Common.{◌+◌, ◌<◌, inl, inr, sym, ap₂, ◌∙◌, arith}
use Rattle.std.proofs.lemmas.Bool.{cases_lt}
use Rattle.rs_field.specs.code.Decoder.{DecoderState, IsConsistent, originals_given, recovery_given}
use Rattle.rs_field.specs.code.PieceStates.{state_of_pieces}
use Rattle.rs_field.specs.declared.code.error.Error.TheVariants.{InconsistentShards}
use Rattle.rs_field.proofs.code_lemmas.MissingShards.{count-pieces}
use Rattle.rs_rate.proofs.rows_lemmas.DecoderRows.{enough-least}
use Rattle.reed_solomon_simd.proofs.ConsistentStrips.{exact-consistent, consistent-cut}
use Rattle.reed_solomon_simd.proofs.strip_sums.sum_strip.Goals as goal

-- With as many shards as there are originals, some message agrees with them.
pub returns-then-not-agree_in_strip-clause-made : goal.returns-then-not-agree_in_strip-clause-made
returns-then-not-agree_in_strip-clause-made g c =
    let s : DecoderState = g.S.Pieces.received c.args.store.now in
    let own = count-pieces c.args.start c.args.end s.configuration.original_count s.originals in
    let coded = count-pieces c.args.start c.args.end s.configuration.recovery_count s.recovery in
    let none : IsConsistent (state_of_pieces c.args.start c.args.end (g.S.Pieces.received c.args.store.now)) → ⊥ =
    λ is. (let agrees = c.agree_in_strip.ensures.1 is in let not = c.if-not-agree_in_strip.true in cc (agrees, not)) in
    let enough = enough-least s (sym c.requires.can.enough) in
    let surplus : (g.S.Pieces.received c.args.store.now).configuration.original_count
    < originals_given (g.S.Pieces.received c.args.store.now)
    + recovery_given (g.S.Pieces.received c.args.store.now) =
    elim (cases_lt s.configuration.original_count (originals_given s + recovery_given s)) [
      | inl more ↦ more
      | inr few ↦
          absurd (none (consistent-cut s c.args.start c.args.end c.requires.strip
          (exact-consistent s c.requires.can.set_up (omega (arith, few, enough)))))
    ] in
    inl (record {
      refusal = c.inconsistent.ensures ∙ ap₂ InconsistentShards (sym own) (sym coded);
      surplus = omega (arith, surplus, own, coded);
      none = none;
    })
