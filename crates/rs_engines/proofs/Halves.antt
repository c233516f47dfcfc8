-- The 32 words of a chunk, if a step changes the first 16 of them and a second step the other 16.
use Rattle.std.proofs.Common.{◌≡◌, ℕ, ◌+◌, ◌-◌, ◌<◌, ◌≤◌, ◌⊎◌, inl, inr, ap, ◌∙◌, arith}
use Rattle.std.proofs.lemmas.Bool.{cases_lt}

-- If each step changes the words of its half as `f` says, and no word of the other half, each word is changed once.
pub in_halves : (f : ℕ → ℕ → ℕ) (n : ℕ) (old mid new : ℕ → ℕ) → n ≡ 16
    → ((i s : ℕ) → i < n → s ≡ 0 + i → mid s ≡ f s (old s))
    → ((s : ℕ) → s < 32 → (s < 0) ⊎ (0 + n ≤ s) → mid s ≡ old s)
    → ((i s : ℕ) → i < n → s ≡ 16 + i → new s ≡ f s (mid s))
    → ((s : ℕ) → s < 32 → (s < 16) ⊎ (16 + n ≤ s) → new s ≡ mid s)
    → (s : ℕ) → s < 32 → new s ≡ f s (old s)
in_halves f n old mid new half first first_kept second second_kept s h =
    elim (cases_lt s 16) [
      | inl low ↦ second_kept s h (inl low) ∙ first s s (omega arith) (omega arith)
      | inr high ↦ second (s - 16) s (omega arith) (omega arith) ∙ ap (f s) (first_kept s h (inr (omega arith)))
    ]
