-- The layers of a transform that are done at once, and the parts whose transforms are still to be done after them.
use Rattle.std.specs.Prelude.{◌≡◌, ℕ, ◌+◌, ◌*◌, ◌/◌, ◌<◌, Bool, ◌||◌, ◌==◌, if◌then◌else◌}
use Rattle.rs_field.specs.words.Transform.{forward}

-- whether one layer between the halves of this many rows is done next, instead of two layers between their quarters
unfoldable pub is_halved : ℕ → Bool
is_halved size = size == 2 || (size == 8 || size == 32)

-- the number of rows of a part: after one layer there are two parts, and after two layers there are four
unfoldable pub rows_of_part : ℕ → ℕ
rows_of_part size = if is_halved size then size / 2 else size / 4

-- the row steps of the layers that are done next: half of the number of rows for each layer
unfoldable pub layer_steps : ℕ → ℕ
layer_steps size = if is_halved size then size / 2 else size

-- the transform of each part of n words of g is the same part of the transform of all words of f
abbrev pub ArePartsOf : ℕ → ℕ → ℕ → (ℕ → ℕ) → (ℕ → ℕ) → Type 0
ArePartsOf size n shift f g =
    (j i : ℕ) → j * n < size → i < n
    → forward n (shift + j * n) (λ q. g (j * n + q)) i ≡ forward size shift f (j * n + i)
