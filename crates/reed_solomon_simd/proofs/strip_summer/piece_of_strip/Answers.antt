use Rattle.std.proofs.Common.{Bor, ◌≡◌, refl, sym, ap, ◌∙◌, true}
use Rattle.std.specs.Prelude.{Option, Some, None, is_some, option_copied, unwrap_or}
use Rattle.rs_field.specs.code.Column.{Shard}
use Rattle.reed_solomon_simd.proofs.BaseLemmas.{some-pieces}
use Rattle.reed_solomon_simd.proofs.strip_summer.piece_of_strip.Goals as goal

-- A piece that is there does not depend on the other slice.
there : (piece : Option (Bor Shard)) (other : Bor Shard) → is_some (option_copied piece) ≡ true
    → option_copied piece ≡ Some (unwrap_or piece other).now
there None other is = absurd (let no : ⊥ = cc is in no)
there (Some piece) other is = refl

pub returns : goal.returns
returns g c =
    let s = g.P.Pieces.received c.args.received.now in
    sym c.piece_in_row.ensures
    ∙ there c.piece_in_row.result _
    (ap is_some c.piece_in_row.ensures ∙ some-pieces c.args.start c.args.end s c.args.row ∙ c.requires.there)
    ∙ ap (λ (piece : Bor Shard). Some piece.now) (sym c.unwrap_or.ensures)
