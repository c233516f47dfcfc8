-- The state of an object after the loan of its result.
use Rattle.std.specs.Prelude.{⊤}
use Rattle.std.specs.Borrow.{MutBor, Fml, RattleType, follows_so}
use mathlib.Core.Option.{none}

-- once the loan ends, whether the result was dropped or forgotten, the object has the property P
abbrev pub AfterLoan : (R : RattleType) → MutBor R.Denot → (R.Denot → Type 0) → Fml
AfterLoan R object P = follows_so R R object.ghost_name none (λ _ _. ⊤) P
