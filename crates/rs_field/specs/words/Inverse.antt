-- The forward and the backward transform undo each other.
use Rattle.std.specs.Prelude.{◌≡◌, ℕ, ◌+◌, ◌%◌, ◌^◌, ◌<◌, ◌≤◌}
use Rattle.rs_field.specs.words.Transform.{IsForward, IsBackward}

-- a forward and then a backward transform at the same shift, or the other way round, gives the words that were there
-- before
pub record TransformsAreInverse : Type 0 where
  pub forward_last : (n shift : ℕ) (f g h : ℕ → ℕ) → IsBackward n shift f g → IsForward n n shift g h → (i : ℕ) → i < n
      → h i ≡ f i
  pub backward_last : (d shift : ℕ) (f g h : ℕ → ℕ) → shift % 2 ^ d ≡ 0 → shift + 2 ^ d ≤ 65536
      → ((i : ℕ) → i < 2 ^ d → f i < 65536) → ((i : ℕ) → i < 2 ^ d → h i < 65536)
      → IsForward (2 ^ d) (2 ^ d) shift f g → IsBackward (2 ^ d) shift g h → (i : ℕ) → i < 2 ^ d → h i ≡ f i
