-- The items that chains of iterators lend.
use Rattle.std.proofs.Common.{◌≡◌, Bool, List, Option, sym, subst, Bor}
use Rattle.std.specs.List.{enumerate_from, filter}
use Rattle.std.specs.Fn.{Mut, CalledAt}
use Rattle.std.specs.declared.iter.Enumerate.{Enumerate}
use Rattle.std.specs.declared.iter.Filter.{Filter}
use Rattle.std.specs.Iterator.Adapters.{enumerate_source, enumerate_count, enumerate_steps, filter_source}
use Rattle.std.specs.Iterator.Adapters.{filter_callee, filter_steps}
use Rattle.std.proofs.lemmas.Iterator.{YieldsList}
use Rattle.std.proofs.lemmas.Iterator.Consumers.{YieldsList-from_enumerate, YieldsList-from_filter}

-- `enumerate` numbers the items of another iterator from 0 on.
pub numbered : {S A B : Type 0} {steps : S → Option A → S → Type 0} {v : A → B} {ys : List B} {s : S} (e : Enumerate S)
    → YieldsList steps v s ys
    → enumerate_source e ≡ s → enumerate_count e ≡ 0
    → YieldsList (enumerate_steps steps) (λ p. (p.0, v p.1)) e (enumerate_from 0 ys)
numbered {steps = steps} {v = v} {ys = ys} e runs source count =
    YieldsList-from_enumerate (subst (λ t. YieldsList steps v t ys) (sym source) runs) count

-- `filter` gives the items of another iterator that pass a test.
pub filtered : {S A B F : Type 0} {steps : S → Option A → S → Type 0} {v : A → B} {ys : List B} {s : S} (e : Filter S F)
    (g : Mut F (Bor A × Unit {0}) Bool) (test : B → Bool) (f : F)
    → YieldsList steps v s ys → filter_source e ≡ s → filter_callee e ≡ f
    → ((x : A) (b : Bool) (q : F) → CalledAt g f x b q → (q ≡ f) × (b ≡ test (v x)))
    → YieldsList (filter_steps steps g) v e (filter test ys)
filtered {steps = steps} {v = v} {ys = ys} e g test f runs source callee called =
    YieldsList-from_filter g test (subst (λ t. YieldsList steps v t ys) (sym source) runs) callee called
