use Rattle.std.proofs.Common.{◌≡◌, ◌≢◌, ℕ, List, get_or, subst, sym, ◌∙◌}
use Rattle.rs.proofs.NumberLemmas.{number_of-parsed, no_plus_in-empty}
use Rattle.rs.proofs.number.number.Goals.{else-not-is_empty-via-then-not-is_empty+else-bytes-eq43}
use Rattle.rs.proofs.number.number.Goals.{else-not-is_empty-via-else-not-is_empty}
use Rattle.rs.proofs.number.number.Goals as goal

pub returns : goal.returns
returns c =
    let text = c.args.text.now in
    let same : c.as_bytes-bytes.result.now ≡ text = c.as_bytes-bytes.ensures.value in
    let no_plus : get_or c.as_bytes-bytes.result.now 0 0 ≢ 43 = elim c.else-not-is_empty.branch [
      | else-not-is_empty-via-then-not-is_empty+else-bytes-eq43 w ↦ w.if-bytes-eq43.false
      | else-not-is_empty-via-else-not-is_empty w ↦ no_plus_in-empty _ (sym (w.if-not-is_empty.ensures))
    ] in
    c.ok.ensures.value ∙ number_of-parsed text c.parse.result c.parse.ensures.value.0
    (subst (λ (t : List ℕ). get_or t 0 0 ≢ 43) same no_plus)
