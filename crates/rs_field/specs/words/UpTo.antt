-- Lists of a function's first values.
use Rattle.std.specs.Prelude.{ℕ, zero, suc, List, [], ◌∷◌, ◌++◌}

-- f 0, f 1, .., f (n - 1)
abbrev pub up_to : {A : Type 0} → ℕ → (ℕ → A) → List A
up_to zero f = []
up_to (suc n) f = up_to n f ++ f n ∷ []
