use Rattle.std.proofs.Common.{rules, ◌≡◌, length, sym, ◌∙◌, subst, arith}
use Rattle.std.specs.Prelude.{Option, Some, ◌↔◌, IsTrue}
use Rattle.rs_field.specs.code.Column.{Shard}
use Rattle.rs_field.specs.code.PieceStates.{state_of_pieces}
use Rattle.reed_solomon_simd.specs.Base.{IsBaseSum}
use Rattle.reed_solomon_simd.proofs.BaseSums.{sums-same}
use Rattle.reed_solomon_simd.proofs.strip_summer.Sums.agrees_in_row.Goals as goal

pub returns : goal.returns
returns g c =
    let ready = c.requires.ready in
    let marks = c.args.self.now.base.marks.now in
    let equal : IsTrue c.eq.result ↔ (c.sum_at.result.now ≡ c.in-Some.piece.now) = search rules in (
      λ is shard there not.
          let same : ◌≡◌ {A = Option Shard} (Some c.in-Some.piece.now) (Some shard) = c.in-Some.ensures ∙ there in
          let one : ◌≡◌ {A = Shard} c.in-Some.piece.now shard = cc same in
          subst (λ (p : Shard). IsBaseSum c.args.self.now.base.marks.now
          (state_of_pieces c.args.start c.args.end (g.P.Pieces.received c.args.received.now)) c.args.row p)
          (sym c.sum_at.ensures ∙ equal.0 is ∙ one) (c.sum_rows.ensures 0 (omega arith)),
      λ agrees.
          equal.1 (c.sum_at.ensures
          ∙ sums-same (g.P.Pieces.received c.args.received.now) ready.set_up c.args.start c.args.end ready.strip
          marks ready.based.marked c.args.row _ c.in-Some.piece.now (c.sum_rows.ensures 0 (omega arith))
          (agrees c.in-Some.piece.now (sym c.in-Some.ensures) c.requires.outside)),
    )

pub sum_at-requires : goal.sum_at-requires
sum_at-requires g c =
    let same : length c.sum_rows.new.x ≡ length c.args.x.now = search rules in
    omega (arith, same, c.requires.room)
