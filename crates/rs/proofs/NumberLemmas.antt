-- Lemmas about the number that `parse` returns for a text.
use Rattle.std.proofs.Common.{◌≡◌, ◌≢◌, ℕ, suc, ◌==◌, ◌^◌, ◌<◌, Bool, true, false, List, [], ◌∷◌, length, get_or, Some}
use Rattle.std.proofs.Common.{None, Result, Ok, Err, refl, arith}
use Rattle.std.specs.Prelude.{nat_lt, ◌&&◌, if◌then◌else◌}
use Rattle.std.specs.Result.{OkIff, result_ok}
use Rattle.std.specs.Str.{all_ascii_digits}
use Rattle.std.specs.Str.Parse.{ParsesUnsigned, digits_value}
use Rattle.std.proofs.lemmas.Bool.{lt-ltb, ltb-true, eqb-true}
use Rattle.std.proofs.lemmas.Str.Parse.{IsNumeralModel, numerals_by_value, tells_all_ascii_digits, parse_plain}
use Rattle.rs.specs.Number.{number_of}

model : IsNumeralModel (λ ds. all_ascii_digits ds ≡ true) (digits_value 10)
model = numerals_by_value _ tells_all_ascii_digits

by_tests : (n : ℕ) (digits some few : Bool) {E : Type 0} (r : Result ℕ E)
    → OkIff r ((digits ≡ true) × (some ≡ true) × (few ≡ true)) n
    → result_ok r ≡ (if digits && some && few then Some n else None)
by_tests n digits some few (Ok x) q = rw (q.0.0, q.0.1, q.0.2, q.1) refl
by_tests n true true true (Err e) q = absurd (q (refl, refl, refl))
by_tests n true true false (Err e) q = refl
by_tests n true false few (Err e) q = refl
by_tests n false true few (Err e) q = refl
by_tests n false false few (Err e) q = refl

tested : (text : List ℕ) {E : Type 0} (r : Result ℕ E)
    → OkIff r ((all_ascii_digits text ≡ true) × (0 < length text) × (digits_value 10 text < 2 ^ 64))
    (digits_value 10 text)
    → OkIff r ((all_ascii_digits text ≡ true) × (nat_lt 0 (length text) ≡ true)
    × (nat_lt (digits_value 10 text) (2 ^ 64) ≡ true)) (digits_value 10 text)
tested text (Ok x) q = ((q.0.0, lt-ltb 0 (length text) q.0.1, lt-ltb (digits_value 10 text) (2 ^ 64) q.0.2), q.1)
tested text (Err e) q = λ p. q (p.0, ltb-true 0 (length text) p.1, ltb-true (digits_value 10 text) (2 ^ 64) p.2)

-- If a text does not begin with a plus sign, `parse` returns the number that the text represents.
pub number_of-parsed : (text : List ℕ) {E : Type 0} (r : Result ℕ E) → ParsesUnsigned 64 10 text r
    → get_or text 0 0 ≢ 43 → result_ok r ≡ number_of text
number_of-parsed text r parsed no_plus =
    by_tests (digits_value 10 text) (all_ascii_digits text) (nat_lt 0 (length text))
    (nat_lt (digits_value 10 text) (2 ^ 64)) r (tested text r (parse_plain model 64 text r parsed no_plus))

-- An empty text does not begin with a plus sign.
pub no_plus_in-empty : (text : List ℕ) → (length text == 0) ≡ true → get_or text 0 0 ≢ 43
no_plus_in-empty [] empty = λ e. omega arith
no_plus_in-empty (c ∷ rest) empty = absurd (let e : suc (length rest) ≡ 0 = eqb-true _ _ empty in omega arith)
