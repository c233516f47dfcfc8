-- Facts that have one proof at most.
use mathlib.Core.HLevel.{collapsible→set}
use Rattle.std.proofs.Common.{◌≡◌, refl, sym, ap, ◌∙◌}
use Rattle.std.specs.Ordering.{Ordering-set}
use Rattle.std.specs.declared.cmp.Ordering.{Ordering}
use Rattle.std.specs.declared.cmp.Ordering.TheVariants.{Less, Equal, Greater}
use Rattle.rs_field.specs.code.Counts.{Rate, low_rate, high_rate, default_rate}

-- An equation of two rates has one proof at most: a rate is one of three, as an ordering is.
pub Rate-set : IsSet Rate
Rate-set = collapsible→set (λ x y p. sym (back x) ∙ ap from (ap to p) ∙ back y)
    (λ x y p q. ap (λ z. sym (back x) ∙ ap from z ∙ back y) (Ordering-set (to x) (to y) (ap to p) (ap to q)))
  where
    to : Rate → Ordering
    to = elim [ low_rate ↦ Less | high_rate ↦ Equal | default_rate ↦ Greater ]

    from : Ordering → Rate
    from = elim [ Less ↦ low_rate | Equal ↦ high_rate | Greater ↦ default_rate ]

    back : (x : Rate) → from (to x) ≡ x
    back = elim [ low_rate ↦ refl | high_rate ↦ refl | default_rate ↦ refl ]
