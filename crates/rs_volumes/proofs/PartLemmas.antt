-- The bytes from which a part of a description is read are its spelling, and a part is read again from its spelling.
use Rattle.std.proofs.Common.{rules, ◌≡◌, ℕ, ◌<◌, ◌≤◌, Bool, true, false, cond, eqb, ltb, List, ◌++◌, length, Result}
use Rattle.std.proofs.Common.{Ok, Err, refl, ap, subst, ◌∙◌, arith}
use Rattle.std.specs.Prelude.{IfOk}
use Rattle.std.specs.Str.{bytes_eq}
use Rattle.std.proofs.lemmas.Bool.{ltb-false, le-ltb}
use Rattle.std.proofs.lemmas.Slice.Eq.{bytes_eq-Decides}
use Rattle.sha2.specs.Sha256.{sha256}
use Rattle.sha2.proofs.Facts256.{length-sha256}
use Rattle.rs_volumes.specs.declared.fault.Fault.{Fault}
use Rattle.rs_volumes.specs.declared.fault.Fault.TheVariants.{Short, Trailing, Check}
use Rattle.rs_volumes.specs.Parts.{DescriptionPart, PartFits, length_at, rest_spelling, part_spelling, rest_in, part_in}
use Rattle.rs_volumes.specs.Reading.{Reads}
use Rattle.rs_volumes.proofs.Fields.{IsBytes, guard_ok, ok_is, wide64, number_first, number_again, taken_first}
use Rattle.rs_volumes.proofs.Fields.{taken_again}

-- If a step fails whenever a test is false, and the step succeeds, the test is true.
guard_holds : {A : Type 0} {b : Bool} (d : Fault) {x : Result A Fault} {y : A} → cond b x (Err d) ≡ Ok y → (b ≡ true)
    × (x ≡ Ok y)
guard_holds {b = true} d e = (refl, e)
guard_holds {b = false} d e = absurd cc

is_some : (n : ℕ) → eqb n 0 ≡ false → 0 < n
is_some n h = search (rules, h)

same_of : (a b : ℕ) → a ≤ b → b ≤ a → b ≡ a
same_of a b low high = omega (arith, low, high)

rest_takes : (index : ℕ) {rest : List ℕ} {p : DescriptionPart} → IsBytes rest → rest_in index rest ≡ Ok p
    → PartFits index p × (rest ≡ rest_spelling p)
unfolding rest_in
rest_takes index {rest = rest} fits e =
    let n = number_first wide64 fits e in
    let some = guard_ok Short n.3 in
    let least = guard_ok Short some.1 in
    let most = guard_ok Trailing least.1 in
    let low : length_at index n.0.0 ≤ length n.0.1 = ltb-false _ _ least.0 in
    let high : length n.0.1 ≤ length_at index n.0.0 = ltb-false _ _ most.0 in
    subst (λ (v : DescriptionPart). PartFits index v × (rest ≡ rest_spelling v)) (ok_is most.1) (
      record {
        total = n.2;
        some = is_some (length n.0.1) some.0;
        same = same_of (length_at index n.0.0) (length n.0.1) low high;
      },
      n.1.parts,
    )

rest_again : (index : ℕ) (p : DescriptionPart) → PartFits index p → rest_in index (rest_spelling p) ≡ Ok p
unfolding rest_in
rest_again index p fits =
    let some : eqb (length p.bytes) 0 ≡ false = search (rules, fits.some) in
    let least : ltb (length p.bytes) (length_at index p.total) ≡ false = le-ltb _ _ (omega (arith, fits.same)) in
    let most : ltb (length_at index p.total) (length p.bytes) ≡ false = le-ltb _ _ (omega (arith, fits.same)) in
    rw (number_again wide64 fits.total p.bytes, some, least, most) refl

part_takes : (index : ℕ) {body : List ℕ} {p : DescriptionPart} → IsBytes body → part_in index body ≡ Ok p
    → PartFits index p × (body ≡ part_spelling p)
unfolding part_in
part_takes index {body = body} {p = p} fits e =
    let d = taken_first fits e in
    let g = guard_holds Check d.3 in
    let rest = rest_takes index d.1.rest_fits g.1 in
    let digest : d.0.0 ≡ sha256 d.0.1 = (bytes_eq-Decides d.0.0 (sha256 d.0.1)).0 g.0 in
    let whole : body ≡ part_spelling p =
    d.1.parts ∙ ap (λ (t : List ℕ). t ++ d.0.1) digest ∙ ap (λ (t : List ℕ). sha256 t ++ t) rest.1 in
    (rest.0, whole)

-- A part whose numbers fit is read from its spelling.
pub part_again : (index : ℕ) (p : DescriptionPart) → PartFits index p → part_in index (part_spelling p) ≡ Ok p
unfolding part_in
part_again index p fits =
    let text : List ℕ = rest_spelling p in
    let same : bytes_eq (sha256 text) (sha256 text) ≡ true =
    (bytes_eq-Decides (sha256 text) (sha256 text)).1 refl in
    rw (taken_again (sha256 text) text 32 (length-sha256 text), same) (rest_again index p fits)

-- The bytes from which a function reads a part are the spelling of this part, which has the right length.
pub part_found : {X : Type 0} (view : X → DescriptionPart) (index : ℕ) (body : List ℕ) (r : Result X Fault)
    → IsBytes body → Reads view r (part_in index body)
    → IfOk r (λ x. PartFits index (view x) × (body ≡ part_spelling (view x)))
part_found view index body (Ok x) fits given = part_takes index fits given
part_found view index body (Err e) fits given = tt
