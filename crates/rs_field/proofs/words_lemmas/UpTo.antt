-- The elements of a list of the first values of a function.
use Rattle.std.proofs.Common.{◌≡◌, ℕ, zero, suc, ◌+◌, ◌<◌, List, [], ◌∷◌, ◌++◌, length, get_or, sym, ap, ap₂, ◌∙◌, refl}
use Rattle.std.proofs.Common.{subst, arith, inl, inr, add-one, length-append}
use Rattle.std.specs.Prelude.{All}
use Rattle.std.proofs.Math.Seq.{get_or-append_seam}
use Rattle.std.proofs.lemmas.Bool.{cases_lt}
use Rattle.std.proofs.lemmas.List.{ext_get_or, get_or_append_left}
use Rattle.rs_field.specs.words.UpTo.{up_to}

pub length-up_to : {A : Type 0} (n : ℕ) (f : ℕ → A) → length (up_to n f) ≡ n
length-up_to zero f = refl
length-up_to (suc n) f = length-append (up_to n f) (f n ∷ []) ∙ ap (λ k. k + 1) (length-up_to n f) ∙ add-one n

pub get-up_to : {A : Type 0} (n : ℕ) (f : ℕ → A) (i : ℕ) (d : A) → i < n → get_or (up_to n f) i d ≡ f i
get-up_to zero f i d h = absurd (omega arith)
get-up_to (suc n) f i d h =
    elim (cases_lt i n) [
      | inl low ↦
          get_or_append_left (up_to n f) (f n ∷ []) d i (subst (λ k. i < k) (sym (length-up_to n f)) low)
          ∙ get-up_to n f i d low
      | inr high ↦
          let last : i ≡ n = omega arith in
          let seam = get_or-append_seam (up_to n f) (f n) [] d in
          ap (λ k. get_or (up_to n f ++ f n ∷ []) k d) (last ∙ sym (length-up_to n f)) ∙ seam ∙ ap f (sym last)
    ]

-- A property of each of the first n values holds for all elements of their list.
pub all-up_to : {A : Type 0} (P : A → Type 0) (n : ℕ) (f : ℕ → A) → ((i : ℕ) → i < n → P (f i)) → All P (up_to n f)
all-up_to P n f each i d h =
    let inside : i < n = subst (λ (m : ℕ). i < m) (length-up_to n f) h in
    subst P (sym (get-up_to n f i d inside)) (each i inside)

pub up_to-same : {A : Type 0} (n : ℕ) (f g : ℕ → A) → ((i : ℕ) → i < n → f i ≡ g i) → up_to n f ≡ up_to n g
up_to-same zero f g same = refl
up_to-same (suc n) f g same =
    ap₂ (λ xs x. xs ++ x ∷ []) (up_to-same n f g (λ i h. same i (omega arith))) (same n (omega arith))

-- A list of n elements that are the first n values of f is `up_to n f`.
pub up_to-is : {A : Type 0} (d : A) (n : ℕ) (f : ℕ → A) (s : List A) → length s ≡ n
    → ((i : ℕ) → i < n → f i ≡ get_or s i d) → up_to n f ≡ s
up_to-is d n f s len same =
    ext_get_or d (up_to n f) s (length-up_to n f ∙ sym len) (λ i h.
    let lt : i < n = subst (λ k. i < k) (length-up_to n f) h in get-up_to n f i d lt ∙ same i lt)
