-- Numbers in decimal digits.
use Rattle.std.specs.Prelude.{ℕ, ◌^◌, ◌&&◌, nat_lt, List, length, Option, Some, None, if◌then◌else◌}
use Rattle.std.specs.Str.{all_ascii_digits}
use Rattle.std.specs.Str.Parse.{digits_value}

-- the number that a text of one or more ASCII decimal digits represents if it is below 2 ^ 64, or None for any other
-- text
abbrev pub number_of : List ℕ → Option ℕ
number_of text =
    if all_ascii_digits text && nat_lt 0 (length text) && nat_lt (digits_value 10 text) (2 ^ 64) then Some
    (digits_value 10 text)
    else None
