-- Lemmas about words of a command line that are read one after the other.
use Rattle.std.proofs.Common.{◌≡◌, ◌≢◌, ℕ, ◌==◌, List, [], ◌∷◌, Option, None, refl, ap, arith}
use Rattle.std.specs.Prelude.{if◌then◌else◌}
use Rattle.std.proofs.lemmas.Bool.Decides.{nat_tests}
use Rattle.rs.specs.CommandLine.{item_of}

by_letter : {T : Type 0} (letter : ℕ) (original recovery : Option T) → letter ≢ 111 → letter ≢ 114
    → (if letter == 111 then original else if letter == 114 then recovery else None) ≡ None
by_letter letter original recovery no_original no_recovery = grind (arith, nat_tests)

-- A word that begins with neither `o` nor `r` is no ITEM.
pub item_of-other : (text : List ℕ) → ((rest : List ℕ) → text ≢ 111 ∷ rest) → ((rest : List ℕ) → text ≢ 114 ∷ rest)
    → item_of text ≡ None
item_of-other [] no_original no_recovery = refl
item_of-other (letter ∷ rest) no_original no_recovery =
    by_letter letter _ _ (λ e. no_original rest (ap (λ first. first ∷ rest) e))
    (λ e. no_recovery rest (ap (λ first. first ∷ rest) e))
