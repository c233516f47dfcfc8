use Rattle.std.proofs.Common.{rules, ℕ, refl, sym, ap, ◌∙◌, arith, below_more, true≢false}
use Rattle.std.specs.Prelude.{false, is_some}
use Rattle.std.proofs.lemmas.List.{get_or_past}
use Rattle.reed_solomon_simd.proofs.BaseLemmas.{some-pieces}
use Rattle.rs_field.specs.code.PieceStates.{state_of_pieces}
use Rattle.reed_solomon_simd.specs.Base.{AgreesInRow}
use Rattle.reed_solomon_simd.proofs.BaseSums.{consistent-agrees, agrees-consistent}
use Rattle.reed_solomon_simd.proofs.ConsistentStrips.{exact-consistent, consistent-cut}
use Rattle.reed_solomon_simd.proofs.strip_summer.SumsStripSums.agree_in_strip.Goals as goal

-- Without surplus shards, some message agrees with all received shards.
pub returns-then-self-eq0 : goal.returns-then-self-eq0
returns-then-self-eq0 g c =
    let s = g.P.Pieces.received c.args.received.now in
    let ready = c.requires.ready in (
      λ is.
          consistent-cut s c.args.start c.args.end ready.strip
          (exact-consistent s ready.set_up (omega (arith, ready.surplus_is, c.if-self-eq0.true))),
      λ consistent. refl,
    )

pub loop-row-init : goal.loop-row-init
loop-row-init g c =
    let s = g.P.Pieces.received c.args.received.now in
    let based = c.requires.ready.based in
    record {
      room = search rules;
      agree = λ x few shard there not.
          absurd (true≢false (sym (ap is_some there) ∙ some-pieces c.args.start c.args.end s x
          ∙ sym (based.exact x (omega (arith, few))) ∙ not));
    }

pub agrees_in_row-requires-clause-outside : goal.agrees_in_row-requires-clause-outside
agrees_in_row-requires-clause-outside g c =
    get_or_past c.args.self.now.base.marks.now c.loop-row.row false c.loop-row.auto.row

pub returns-then-not-agrees_in_row : goal.returns-then-not-agrees_in_row
returns-then-not-agrees_in_row g c =
    let ready = c.requires.ready in (
      λ is. absurd (let no : ⊥ = cc is in no),
      λ consistent.
          c.if-not-agrees_in_row.ensures.1 (consistent-agrees (g.P.Pieces.received c.args.received.now) ready.set_up
          c.args.start c.args.end ready.strip c.args.self.now.base.marks.now ready.based.marked consistent
          c.loop-row.row),
    )

pub returns : goal.returns
returns g c =
    let ready = c.requires.ready in (
      λ is.
          agrees-consistent (g.P.Pieces.received c.args.received.now) ready.set_up c.args.start c.args.end ready.strip
          c.args.self.now.base.marks.now ready.based.marked
          (λ x inside. c.loop-row.invariant.agree x (omega (arith, inside, ready.based.located.entries))),
      λ consistent. refl,
    )

pub loop-row-preserved : goal.loop-row-preserved
loop-row-preserved g c = record {
  room = search rules;
  agree = below_more (λ (x : ℕ). AgreesInRow c.args.self.now.base.marks.now
      (state_of_pieces c.args.start c.args.end (g.P.Pieces.received c.args.received.now)) x) c.loop-row.row
      c.loop-row.invariant.agree (c.if-not-agrees_in_row.ensures.0 refl);
}
