-- Reading items one after the other, as a loop does.
use Rattle.std.proofs.Common.{rules, ◌≡◌, ℕ, zero, suc, ◌-◌, ◌+◌, ◌≤◌, ◌<◌, List, [], ◌∷◌, ◌++◌, length, Result, Ok}
use Rattle.std.proofs.Common.{Err}
use Rattle.std.proofs.Common.{refl, sym, ap, subst, ◌∙◌, append_assoc, arith}
use Rattle.std.specs.List.{flat_map, AllByRecursion}
use Rattle.std.proofs.lemmas.List.Concat.{flat_map-cons}
use Rattle.rs_volumes.specs.declared.fault.Fault.{Fault}
use Rattle.rs_volumes.specs.declared.fault.ReadError.{ReadError}
use Rattle.rs_volumes.specs.declared.fault.ReadError.TheVariants as errors
use Rattle.rs_volumes.specs.Reading.{◌>>=◌, Fails, items_at}
use Rattle.rs_volumes.proofs.Fields.{IsBytes, bind_ok, ok_is, Takes, Takes-then}

-- what was read before, and what is still read
abbrev pub with_front : {X : Type 0} → List X → Result (List X × List ℕ) Fault → Result (List X × List ℕ) Fault
with_front front read = read >>= λ x. Ok (front ++ x.0, x.1)

regroup : {X : Type 0} (front : List X) (n : X) (read : Result (List X × List ℕ) Fault)
    → with_front front (read >>= λ x. Ok (n ∷ x.0, x.1)) ≡ with_front (front ++ n ∷ []) read
regroup {X = X} front n (Ok x) = ap (λ (fs : List X). Ok (fs, x.1)) (simp append_assoc)
regroup front n (Err f) = refl

-- Some items were read, and the outcome of reading all items is known from the outcome for the bytes that are left.
module _ {X : Type 0} (item_at : List ℕ → Result (X × List ℕ) Fault) (front : List X) (count i : ℕ) (bytes : List ℕ)
    {total : Result (List X × List ℕ) Fault}
    (so_far : with_front front (items_at item_at (count - i) bytes) ≡ total) where
  -- The next item is read.
  pub goes_on : {n : X} {after : List ℕ} → i < count → item_at bytes ≡ Ok (n, after)
      → with_front (front ++ n ∷ []) (items_at item_at (count - (i + 1)) after) ≡ total
  unfolding items_at
  goes_on {n = n} {after = after} lt h =
      let k : count - i ≡ suc (count - (i + 1)) = omega arith in
      let one : with_front front (items_at item_at (count - i) bytes)
      ≡ with_front (front ++ n ∷ []) (items_at item_at (count - (i + 1)) after) =
      rw (k, h) (regroup front n (items_at item_at (count - (i + 1)) after)) in
      sym one ∙ so_far

  -- The next item cannot be read.
  pub ends : (e : ReadError) → i < count → Fails e (item_at bytes) → Fails e total
  unfolding items_at
  ends errors.Memory lt h = tt
  ends (errors.Fault f) lt h =
      let k : count - i ≡ suc (count - (i + 1)) = omega arith in
      let one : with_front front (items_at item_at (count - i) bytes) ≡ Err f = rw (k, h) refl in
      sym so_far ∙ one

  -- All items were read.
  pub is_done : count ≤ i → total ≡ Ok (front, bytes)
  unfolding items_at
  is_done le = search rules

-- ---- items that are read are the items that were spelled

module _ {X : Type 0} (item_at : List ℕ → Result (X × List ℕ) Fault) (spelling : X → List ℕ) (ItemFits : X → Type 0)
  where
    pub items_take : ((bytes : List ℕ) (x : X × List ℕ) → IsBytes bytes → item_at bytes ≡ Ok x
        → Takes bytes (spelling x.0) x.1 × ItemFits x.0) → (n : ℕ) {bytes : List ℕ} {x : List X × List ℕ}
        → IsBytes bytes
        → items_at item_at n bytes ≡ Ok x
        → Takes bytes (flat_map spelling x.0) x.1 × (length x.0 ≡ n) × AllByRecursion ItemFits x.0
    unfolding items_at
    items_take item_takes zero {bytes = bytes} fits e =
        subst (λ (y : List X × List ℕ). Takes bytes (flat_map spelling y.0) y.1 × (length y.0 ≡ 0)
        × AllByRecursion ItemFits y.0) (ok_is e)
        (record { parts = refl; rest_fits = fits }, refl, tt)
    items_take item_takes (suc n) {bytes = bytes} fits e =
        let a = bind_ok e in
        let b = bind_ok a.2 in
        let first = item_takes bytes a.0 fits a.1 in
        let others = items_take item_takes n first.0.rest_fits b.1 in
        subst (λ (y : List X × List ℕ). Takes bytes (flat_map spelling y.0) y.1 × (length y.0 ≡ suc n)
        × AllByRecursion ItemFits y.0) (ok_is b.2)
        (rw flat_map-cons (Takes-then first.0 others.0), ap suc others.1, (first.1, others.2))

    pub items_again : ((x : X) (rest : List ℕ) → ItemFits x → item_at (spelling x ++ rest) ≡ Ok (x, rest))
        → (xs : List X)
        (rest : List ℕ) → AllByRecursion ItemFits xs
        → items_at item_at (length xs) (flat_map spelling xs ++ rest) ≡ Ok (xs, rest)
    unfolding items_at
    items_again item_again [] rest fits = refl
    items_again item_again (x ∷ xs) rest fits =
        let regrouped : flat_map spelling (x ∷ xs) ++ rest ≡ spelling x ++ (flat_map spelling xs ++ rest) =
        ap (λ (bytes : List ℕ). bytes ++ rest) (flat_map-cons spelling x xs)
        ∙ append_assoc (spelling x) (flat_map spelling xs) rest in
        ap (items_at item_at (suc (length xs))) regrouped
        ∙ rw (item_again x (flat_map spelling xs ++ rest) fits.0, items_again item_again xs rest fits.1) refl
