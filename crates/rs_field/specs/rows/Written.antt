-- What is written to rows: rows that replace them, or that are added to them.
use Rattle.std.specs.Prelude.{ℕ, ◌+◌, ◌*◌, ◌<◌, bit_xor}
use Rattle.rs_field.specs.declared.rows.reading.Writing.{Writing}
use Rattle.rs_field.specs.rows.Rows.{Chunks, word_in}
use Rattle.rs_field.specs.words.StepBounds.{transform_steps}
use Rattle.rs_field.specs.words.Transform.{IsBackward}

-- the word to which a word is added: the old word, or 0 where the new word replaces it
unfoldable pub held : Writing → ℕ → ℕ
held Writing.Replacing w = 0
held Writing.Adding w = w

-- in symbol s of chunk k of `size` rows of n chunks, the backward transform of some words was written to the rows
abbrev pub AreWritten : Writing → ℕ → ℕ → ℕ → ℕ → ℕ → (ℕ → ℕ) → Chunks → Chunks → Type 0
AreWritten writing size shift n k s words old new =
    IsBackward size shift words (λ q. bit_xor (held writing (word_in old n k s q)) (word_in new n k s q))

-- the steps before some rows are written: a transform of the n old rows if the new ones are added
unfoldable pub steps_before : Writing → ℕ → ℕ
steps_before Writing.Replacing n = 0
steps_before Writing.Adding n = transform_steps n

-- what writing the backward transform of n rows may count: the steps before, a step for each row, and a transform
abbrev pub written_steps : Writing → ℕ → ℕ
written_steps writing n = steps_before writing n + (n + transform_steps n)

-- each of n groups of four new words is the backward transform of the same four old words
abbrev pub AreGroupsWritten : ℕ → ℕ → (ℕ → ℕ) → (ℕ → ℕ) → Type 0
AreGroupsWritten n shift old new =
    (g : ℕ) → g < n → IsBackward 4 (shift + g * 4) (λ i. old (g * 4 + i)) (λ i. new (g * 4 + i))
