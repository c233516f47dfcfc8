-- Bytes as hexadecimal digits.
use Rattle.std.specs.Prelude.{ℕ, ◌+◌, ◌-◌, ◌*◌, ◌/◌, ◌%◌, ◌&&◌, nat_le, if◌then◌else◌, List, [], ◌∷◌, Option, Some}
use Rattle.std.specs.Prelude.{None, codes, slice_index}

-- the value of a hexadecimal digit of either case: `0` to `9` are 48 to 57, `A` to `F` are 65 to 70, and `a` to `f` are
-- 97 to 102
abbrev pub digit_value : ℕ → Option ℕ
digit_value c =
    if nat_le 48 c && nat_le c 57 then Some (c - 48)
    else if nat_le 65 c && nat_le c 70 then Some (c - 65 + 10)
    else if nat_le 97 c && nat_le c 102 then Some (c - 97 + 10)
    else None

-- bytes with one more byte before them, which two digits represent; or None if one of the three arguments is None
abbrev pub byte_before : Option ℕ → Option ℕ → Option (List ℕ) → Option (List ℕ)
byte_before (Some high) (Some low) (Some bytes) = Some ((high * 16 + low) ∷ bytes)
byte_before _ _ _ = None

-- the bytes that a text of pairs of hexadecimal digits represents, the higher digit of each byte first; or None for any
-- other text
unfoldable pub bytes_of_hex : List ℕ → Option (List ℕ)
bytes_of_hex [] = Some []
bytes_of_hex (high ∷ []) = None
bytes_of_hex (high ∷ low ∷ rest) = byte_before (digit_value high) (digit_value low) (bytes_of_hex rest)

-- the lower-case digit of a value below 16
abbrev pub digit_of : ℕ → ℕ
digit_of value = slice_index (codes "0123456789abcdef") value

-- each byte as two lower-case digits
unfoldable pub hex_of : List ℕ → List ℕ
hex_of [] = []
hex_of (b ∷ rest) = digit_of (b / 16) ∷ digit_of (b % 16) ∷ hex_of rest
