-- Rows of chunks of 64 bytes, and the symbols in them.
use Rattle.std.specs.Prelude.{◌≡◌, ℕ, List, [], ◌+◌, ◌*◌, ◌≤◌, ◌<◌, ◌⊎◌, slice_index_or, slice_index}

-- a list of chunks, each a list of 64 bytes
abbrev pub Chunks : Type 0
Chunks = List (List ℕ)

-- chunk k of a list
abbrev pub chunk : Chunks → ℕ → List ℕ
chunk chunks k = slice_index_or chunks k []

-- symbol s of a chunk, for s below 32: its low byte is byte s, and its high byte is byte s + 32
abbrev pub symbol : List ℕ → ℕ → ℕ
symbol c s = slice_index c s + 256 * slice_index c (s + 32)

-- symbol s of chunk k of row i, in rows of n chunks that lie end to end
abbrev pub word_in : Chunks → ℕ → ℕ → ℕ → ℕ → ℕ
word_in chunks n k s i = symbol (chunk chunks (i * n + k)) s

-- symbol s of chunk k of bytes, whose chunks lie end to end
abbrev pub byte_symbol : List ℕ → ℕ → ℕ → ℕ
byte_symbol bytes k s = slice_index bytes (k * 64 + s) + 256 * slice_index bytes (k * 64 + (s + 32))

-- the chunks before the a-th and from the b-th on are the same in both lists
abbrev pub SameOutside : ℕ → ℕ → Chunks → Chunks → Type 0
SameOutside a b old new = (k : ℕ) → (k < a) ⊎ (b ≤ k) → chunk new k ≡ chunk old k
