-- Which names are allowed, and their order.
use Rattle.std.specs.Prelude.{◌≡◌, ℕ, ◌+◌, Bool, true, false, ◌&&◌, not, ◌==◌, nat_lt, List, [], ◌∷◌, ◌++◌, length}
use Rattle.std.specs.Prelude.{◌<◌, get_or, if◌then◌else◌}
use Rattle.std.specs.Str.{bytes_eq}
use Rattle.rs_volumes.specs.Description.{SetEntry}

-- whether a part of a name may be between two slashes: it is not empty, not `.` and not `..`
unfoldable pub is_part : List ℕ → Bool
is_part part = not (length part == 0) && (not (bytes_eq part (46 ∷ [])) && not (bytes_eq part (46 ∷ 46 ∷ [])))

-- whether the parts of a name may be used, where `part` is what precedes the bytes in the first part; a zero byte is
-- not allowed
unfoldable pub has_parts : List ℕ → List ℕ → Bool
has_parts part [] = is_part part
has_parts part (b ∷ bs) =
    if b == 0 then false else if b == 47 then is_part part && has_parts [] bs else has_parts (part ++ b ∷ []) bs

-- the place of a byte in the order of bytes, in which `/` is the smallest one
unfoldable pub rank : ℕ → ℕ
rank b = if b == 47 then 0 else b + 1

-- whether a name comes before another one
unfoldable pub is_before : List ℕ → List ℕ → Bool
is_before [] [] = false
is_before [] (y ∷ ys) = true
is_before (x ∷ xs) [] = false
is_before (x ∷ xs) (y ∷ ys) = if x == y then is_before xs ys else nat_lt (rank x) (rank y)

-- whether a name is a folder of another one, which then is the name, `/`, and more or nothing
unfoldable pub is_folder_of : List ℕ → List ℕ → Bool
is_folder_of [] [] = false
is_folder_of [] (y ∷ ys) = y == 47
is_folder_of (x ∷ xs) [] = false
is_folder_of (x ∷ xs) (y ∷ ys) = x == y && is_folder_of xs ys

-- no name of an entry is a folder of another one
abbrev pub NoneInside : List SetEntry → Type 0
NoneInside entries = (i j : ℕ) (d : SetEntry) → i < length entries → j < length entries
    → is_folder_of (get_or entries i d).name (get_or entries j d).name ≡ false
