-- Butterflies of two words, and two layers of butterflies of one chunk of each of four rows.
use Rattle.std.specs.Prelude.{◌≡◌, ℕ, List, ◌<◌, bit_xor}
use Rattle.rs_field.specs.rows.Rows.{symbol}
use Rattle.rs_field.specs.words.Tables.{times_factor}

-- the first word after a forward butterfly
abbrev pub forward_first : ℕ → ℕ → ℕ → ℕ
forward_first log_m x y = bit_xor x (times_factor log_m y)

-- the second word after a forward butterfly
abbrev pub forward_second : ℕ → ℕ → ℕ → ℕ
forward_second log_m x y = bit_xor y (forward_first log_m x y)

-- the second word after a backward butterfly
abbrev pub backward_second : ℕ → ℕ → ℕ
backward_second x y = bit_xor y x

-- the first word after a backward butterfly
abbrev pub backward_first : ℕ → ℕ → ℕ → ℕ
backward_first log_m x y = bit_xor x (times_factor log_m (backward_second x y))

-- a relation of four old words and the four new ones
abbrev pub OnFourWords : Type 1
OnFourWords = ℕ → ℕ → ℕ → ℕ → ℕ → ℕ → ℕ → ℕ → Type 0

-- a relation of four old chunks and the four new ones
abbrev pub OnFourChunks : Type 1
OnFourChunks = List ℕ → List ℕ → List ℕ → List ℕ → List ℕ → List ℕ → List ℕ → List ℕ → Type 0

-- forward butterflies of words 0 and 2 and of 1 and 3, and then of 0 and 1 and of 2 and 3
abbrev pub IsForwardFour : ℕ → ℕ → ℕ → OnFourWords
IsForwardFour log_m02 log_m01 log_m23 x0 x1 x2 x3 y0 y1 y2 y3 =
    let z0 = forward_first log_m02 x0 x2 in
    let z1 = forward_first log_m02 x1 x3 in
    let z2 = forward_second log_m02 x0 x2 in
    let z3 = forward_second log_m02 x1 x3 in
    (y0 ≡ forward_first log_m01 z0 z1) × (y1 ≡ forward_second log_m01 z0 z1) × (y2 ≡ forward_first log_m23 z2 z3)
    × (y3 ≡ forward_second log_m23 z2 z3)

-- backward butterflies of words 0 and 1 and of 2 and 3, and then of 0 and 2 and of 1 and 3
abbrev pub IsBackwardFour : ℕ → ℕ → ℕ → OnFourWords
IsBackwardFour log_m02 log_m01 log_m23 x0 x1 x2 x3 y0 y1 y2 y3 =
    let z0 = backward_first log_m01 x0 x1 in
    let z1 = backward_second x0 x1 in
    let z2 = backward_first log_m23 x2 x3 in
    let z3 = backward_second x2 x3 in
    (y0 ≡ backward_first log_m02 z0 z2) × (y1 ≡ backward_first log_m02 z1 z3) × (y2 ≡ backward_second z0 z2)
    × (y3 ≡ backward_second z1 z3)

-- a relation of symbol s of four old chunks and of the four new ones
abbrev pub at_four_symbols : ℕ → OnFourWords → OnFourChunks
at_four_symbols s R x0 x1 x2 x3 y0 y1 y2 y3 =
    R (symbol x0 s) (symbol x1 s) (symbol x2 s) (symbol x3 s) (symbol y0 s) (symbol y1 s) (symbol y2 s) (symbol y3 s)

-- two layers of forward butterflies on each symbol of four chunks
abbrev pub IsForwardTwoLayers : ℕ → ℕ → ℕ → OnFourChunks
IsForwardTwoLayers log_m02 log_m01 log_m23 x0 x1 x2 x3 y0 y1 y2 y3 =
    (s : ℕ) → s < 32 → at_four_symbols s (IsForwardFour log_m02 log_m01 log_m23) x0 x1 x2 x3 y0 y1 y2 y3

-- two layers of backward butterflies on each symbol of four chunks
abbrev pub IsBackwardTwoLayers : ℕ → ℕ → ℕ → OnFourChunks
IsBackwardTwoLayers log_m02 log_m01 log_m23 x0 x1 x2 x3 y0 y1 y2 y3 =
    (s : ℕ) → s < 32 → at_four_symbols s (IsBackwardFour log_m02 log_m01 log_m23) x0 x1 x2 x3 y0 y1 y2 y3

-- a relation of symbol s of four chunks x0 to x3, and of the words that were written to symbol s of the chunks y0 to
-- y3: base gives the word to which each was added
abbrev pub at_four_added : ℕ → OnFourWords → (ℕ → ℕ) → List ℕ → List ℕ → List ℕ → List ℕ → OnFourChunks
at_four_added s R base x0 x1 x2 x3 y0 y1 y2 y3 z0 z1 z2 z3 =
    R (symbol x0 s) (symbol x1 s) (symbol x2 s) (symbol x3 s)
    (bit_xor (base (symbol y0 s)) (symbol z0 s)) (bit_xor (base (symbol y1 s)) (symbol z1 s))
    (bit_xor (base (symbol y2 s)) (symbol z2 s)) (bit_xor (base (symbol y3 s)) (symbol z3 s))
