-- Lemmas that the functions of the crate `hex` read hexadecimal digits as the definitions of `specs/` say.
use Rattle.std.proofs.Common.{◌≡◌, ℕ, ◌+◌, ◌*◌, ◌/◌, ◌%◌, ◌==◌, Bool, true, false, cond, List, [], ◌∷◌, length, Option}
use Rattle.std.proofs.Common.{Some, None, Result, Ok, Err, refl, ap, ap₂, ◌∙◌, arith, subst}
use Rattle.std.specs.Prelude.{MatchResult}
use Rattle.std.proofs.lemmas.Bool.{eqb-true}
use Rattle.std.proofs.lemmas.Bool.Decides.{nat_tests}
use Rattle.hex.specs.Hex.{decode_of, decode_pairs, digit_or_error, hex_digit_value, encode_lower, encode_with, ◌>>=◌}
use Rattle.hex.specs.declared.error.FromHexError.{FromHexError}
use Rattle.hex.specs.declared.error.FromHexError.TheVariants.{OddLength}
use Rattle.rs.specs.Hex.{bytes_of_hex, hex_of, digit_value, byte_before, digit_of}

pub hex_of-same : (bytes : List ℕ) → encode_lower bytes ≡ hex_of bytes
unfolding encode_with hex_of
hex_of-same [] = refl
hex_of-same (b ∷ rest) = ap (λ t. digit_of (b / 16) ∷ digit_of (b % 16) ∷ t) (hex_of-same rest)

digit_value-same : (c : ℕ) → hex_digit_value c ≡ digit_value c
digit_value-same c = grind (arith, nat_tests)

-- a result of the crate `hex` agrees with the bytes that the definitions give for a text
abbrev Reads : Result (List ℕ) FromHexError → Option (List ℕ) → Type 0
Reads r o = MatchResult r (λ bytes. o ≡ Some bytes) (λ e. o ≡ None)

reads_pair : (h l i : ℕ) (dh dl : Option ℕ) (r : Result (List ℕ) FromHexError) (o : Option (List ℕ)) → Reads r o
    → Reads ((digit_or_error h i dh >>= λ a. digit_or_error l (i + 1) dl >>= λ b. Ok (a * 16 + b)) >>= λ byte.
    r >>= λ bytes. Ok (byte ∷ bytes)) (byte_before dh dl o)
reads_pair h l i (Some a) (Some b) (Ok bytes) o e = ap (λ p. byte_before (Some a) (Some b) p) e
reads_pair h l i (Some a) (Some b) (Err x) o e = ap (λ p. byte_before (Some a) (Some b) p) e
reads_pair h l i (Some a) None r o e = refl
reads_pair h l i None dl r o e = refl

reads_pairs : (i : ℕ) (text : List ℕ) → Reads (decode_pairs i text) (bytes_of_hex text)
unfolding decode_pairs bytes_of_hex
reads_pairs i [] = refl
reads_pairs i (c ∷ []) = refl
reads_pairs i (h ∷ l ∷ rest) =
    subst
    (λ o. Reads (decode_pairs i (h ∷ l ∷ rest)) o)
    (ap₂ (λ a b. byte_before a b (bytes_of_hex rest)) (digit_value-same h) (digit_value-same l))
    (reads_pair h l i (hex_digit_value h) (hex_digit_value l) (decode_pairs (i + 2) rest) (bytes_of_hex rest)
    (reads_pairs (i + 2) rest))

none_before : (a b : Option ℕ) → byte_before a b None ≡ None
none_before (Some a) (Some b) = refl
none_before (Some a) None = refl
none_before None b = refl

-- A text with an odd number of digits is no HEX.
odd_none : (text : List ℕ) → length text % 2 ≡ 1 → bytes_of_hex text ≡ None
unfolding bytes_of_hex
odd_none [] h = absurd (omega arith)
odd_none (c ∷ []) h = refl
odd_none (a ∷ b ∷ rest) h =
    ap (byte_before (digit_value a) (digit_value b)) (odd_none rest (omega arith))
    ∙ none_before (digit_value a) (digit_value b)

reads_tested : (text : List ℕ) (t : Bool) → (t ≡ true → length text % 2 ≡ 1)
    → Reads (cond t (Err OddLength) (decode_pairs 0 text)) (bytes_of_hex text)
reads_tested text true odd = odd_none text (odd refl)
reads_tested text false odd = reads_pairs 0 text

reads : (text : List ℕ) → Reads (decode_of text) (bytes_of_hex text)
reads text = reads_tested text (length text % 2 == 1) (eqb-true (length text % 2) 1)

-- If the crate `hex` decodes a text, it returns the bytes that the text represents.
pub reads_ok : (text bytes : List ℕ) → decode_of text ≡ Ok bytes → bytes_of_hex text ≡ Some bytes
reads_ok text bytes e = subst (λ r. Reads r (bytes_of_hex text)) e (reads text)

-- If the crate `hex` fails to decode a text, the text is no HEX.
pub reads_err : (text : List ℕ) (x : FromHexError) → decode_of text ≡ Err x → bytes_of_hex text ≡ None
reads_err text x e = subst (λ r. Reads r (bytes_of_hex text)) e (reads text)
