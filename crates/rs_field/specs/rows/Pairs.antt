-- What a butterfly of two rows makes of a chunk of each, and a butterfly of two words.
use Rattle.std.specs.Prelude.{◌≡◌, ℕ, List, ◌<◌, bit_xor}
use Rattle.rs_field.specs.rows.Rows.{symbol}
use Rattle.rs_field.specs.words.Tables.{times_factor}

-- a relation of two old words and the two new ones
abbrev pub OnTwoWords : Type 1
OnTwoWords = ℕ → ℕ → ℕ → ℕ → Type 0

-- a relation of two old chunks and the two new ones
abbrev pub OnTwoChunks : Type 1
OnTwoChunks = List ℕ → List ℕ → List ℕ → List ℕ → Type 0

-- y times the factor was added to x, and then the new x to y
abbrev pub IsForwardTwo : ℕ → OnTwoWords
IsForwardTwo log_m x y x' y' = (x' ≡ bit_xor x (times_factor log_m y)) × (y' ≡ bit_xor y x')

-- x was added to y, and then the new y times the factor to x
abbrev pub IsBackwardTwo : ℕ → OnTwoWords
IsBackwardTwo log_m x y x' y' = (x' ≡ bit_xor x (times_factor log_m y')) × (y' ≡ bit_xor y x)

-- a relation of symbol s of two old chunks and of the two new ones
abbrev pub at_two_symbols : ℕ → OnTwoWords → OnTwoChunks
at_two_symbols s R x y x' y' = R (symbol x s) (symbol y s) (symbol x' s) (symbol y' s)

-- the forward butterfly on each symbol of two chunks
abbrev pub IsForwardButterfly : ℕ → OnTwoChunks
IsForwardButterfly log_m x y x' y' = (s : ℕ) → s < 32 → at_two_symbols s (IsForwardTwo log_m) x y x' y'

-- the backward one
abbrev pub IsBackwardButterfly : ℕ → OnTwoChunks
IsBackwardButterfly log_m x y x' y' = (s : ℕ) → s < 32 → at_two_symbols s (IsBackwardTwo log_m) x y x' y'

-- a relation of symbol s of two chunks x and y, and of the words that were written to symbol s of the chunks a and b:
-- base gives the word to which each was added
abbrev pub at_two_added : ℕ → OnTwoWords → (ℕ → ℕ) → List ℕ → List ℕ → OnTwoChunks
at_two_added s R base x y a b a' b' =
    R (symbol x s) (symbol y s) (bit_xor (base (symbol a s)) (symbol a' s)) (bit_xor (base (symbol b s)) (symbol b' s))
