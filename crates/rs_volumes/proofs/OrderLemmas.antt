-- The order of names, and why no name of an accepted list is a folder of another one.
use Rattle.std.proofs.Common.{◌≡◌, ◌≢◌, ℕ, zero, suc, ◌<◌, Bool, true, false, not, cond, eqb, List, []}
use Rattle.std.proofs.Common.{◌∷◌, length, get_or, Result, Ok, Err, refl, sym, ap, subst, ◌∙◌, arith, ◌⊎◌, inl, inr}
use Rattle.std.proofs.lemmas.Bool.{lt-ltb, ltb-true, eq-eqb, ne_eqb, eqb-true}
use Rattle.std.specs.Prelude.{OnOk}
use Rattle.rs_volumes.specs.declared.fault.Fault.{Fault}
use Rattle.rs_volumes.specs.declared.fault.Fault.TheVariants.{Order, Inside}
use Rattle.rs_volumes.specs.Description.{SetEntry}
use Rattle.rs_volumes.specs.Names.{rank, is_before, is_folder_of, NoneInside}
use Rattle.rs_volumes.specs.Sound.{entry_outcome, entries_outcome}
use Rattle.rs_volumes.proofs.Fields.{bind_ok, guard_ok}

by_cases : (b : Bool) → (b ≡ true) ⊎ (b ≡ false)
by_cases true = inl refl
by_cases false = inr refl

no_empty : (a : List ℕ) → is_before a [] ≡ true → ⊥
unfolding is_before
no_empty [] p = cc
no_empty (x ∷ xs) p = cc

empty_first : (y : ℕ) (ys : List ℕ) → is_before [] (y ∷ ys) ≡ true
unfolding is_before
empty_first y ys = refl

no_folder : (a : List ℕ) → is_folder_of a [] ≡ true → ⊥
unfolding is_folder_of
no_folder [] p = cc
no_folder (x ∷ xs) p = cc

slash_is : (y : ℕ) (ys : List ℕ) → is_folder_of [] (y ∷ ys) ≡ true → y ≡ 47
unfolding is_folder_of
slash_is y ys p = eqb-true y 47 p

is_slash : (y : ℕ) (ys : List ℕ) → y ≡ 47 → is_folder_of [] (y ∷ ys) ≡ true
unfolding is_folder_of
is_slash y ys e = eq-eqb y 47 e

slash_least : rank 47 ≡ 0
unfolding rank
slash_least = refl

-- ---- one name before another

-- The first bytes of names in order are the same, or have different ranks.
ahead : (x y : ℕ) (xs ys : List ℕ) → is_before (x ∷ xs) (y ∷ ys) ≡ true
    → ((x ≡ y) × (is_before xs ys ≡ true)) ⊎ (rank x < rank y)
unfolding is_before
ahead x y xs ys p =
    elim (by_cases (eqb x y)) [
      | inl same ↦ inl (eqb-true x y same, rw same at p)
      | inr other ↦ inr (ltb-true (rank x) (rank y) (rw other at p))
    ]

before_equal : (x : ℕ) (xs ys : List ℕ) → is_before xs ys ≡ true → is_before (x ∷ xs) (x ∷ ys) ≡ true
unfolding is_before
before_equal x xs ys p = rw (eq-eqb x x refl) p

before_less : (x y : ℕ) (xs ys : List ℕ) → rank x < rank y → is_before (x ∷ xs) (y ∷ ys) ≡ true
unfolding is_before
before_less x y xs ys lt =
    let other : x ≢ y = λ e. let no : ⊥ = (let same : rank x ≡ rank y = ap rank e in omega (arith, lt, same)) in no in
    rw (ne_eqb x y other) (lt-ltb _ _ lt)

-- No name is before itself.
pub not_itself : (a : List ℕ) → is_before a a ≡ false
unfolding is_before
not_itself [] = refl
not_itself (x ∷ xs) = rw (eq-eqb x x refl) (not_itself xs)

-- The order is transitive.
pub before_then : (a b c : List ℕ) → is_before a b ≡ true → is_before b c ≡ true → is_before a c ≡ true
before_then [] [] c p q = absurd (no_empty [] p)
before_then [] (y ∷ ys) [] p q = absurd (no_empty (y ∷ ys) q)
before_then [] (y ∷ ys) (z ∷ zs) p q = empty_first z zs
before_then (x ∷ xs) [] c p q = absurd (no_empty (x ∷ xs) p)
before_then (x ∷ xs) (y ∷ ys) [] p q = absurd (no_empty (y ∷ ys) q)
before_then (x ∷ xs) (y ∷ ys) (z ∷ zs) p q =
    elim (ahead x y xs ys p) [
      | inl one ↦
          elim (ahead y z ys zs q) [
            | inl two ↦
                subst (λ (w : ℕ). is_before (x ∷ xs) (w ∷ zs) ≡ true) (one.0 ∙ two.0)
                (before_equal x xs zs (before_then xs ys zs one.1 two.1))
            | inr two ↦
                let same : rank x ≡ rank y = ap rank one.0 in
                before_less x z xs zs (omega (arith, same, two))
          ]
      | inr one ↦
          elim (ahead y z ys zs q) [
            | inl two ↦
                let same : rank y ≡ rank z = ap rank two.0 in
                before_less x z xs zs (omega (arith, same, one))
            | inr two ↦ before_less x z xs zs (omega (arith, one, two))
          ]
    ]

-- ---- folders

-- The first bytes of a folder and of what is inside it are the same.
inside_ahead : (x y : ℕ) (xs ys : List ℕ) → is_folder_of (x ∷ xs) (y ∷ ys) ≡ true → (x ≡ y)
    × (is_folder_of xs ys ≡ true)
unfolding is_folder_of
inside_ahead x y xs ys p =
    elim (by_cases (eqb x y)) [
      | inl same ↦ (eqb-true x y same, rw same at p)
      | inr other ↦ absurd (let no : false ≡ true = rw other at p in cc)
    ]

inside_equal : (x : ℕ) (xs ys : List ℕ) → is_folder_of xs ys ≡ true → is_folder_of (x ∷ xs) (x ∷ ys) ≡ true
unfolding is_folder_of
inside_equal x xs ys p = rw (eq-eqb x x refl) p

-- A folder is before what is inside it.
pub folder_before : (a b : List ℕ) → is_folder_of a b ≡ true → is_before a b ≡ true
folder_before [] [] p = absurd (no_folder [] p)
folder_before [] (y ∷ ys) p = empty_first y ys
folder_before (x ∷ xs) [] p = absurd (no_folder (x ∷ xs) p)
folder_before (x ∷ xs) (y ∷ ys) p =
    let h = inside_ahead x y xs ys p in
    subst (λ (w : ℕ). is_before (x ∷ xs) (w ∷ ys) ≡ true) h.0 (before_equal x xs ys (folder_before xs ys h.1))

-- What is between a folder and a name inside it is inside the folder.
pub folder_between : (a b c : List ℕ) → is_before a b ≡ true → is_before b c ≡ true → is_folder_of a c ≡ true
    → is_folder_of a b ≡ true
folder_between [] [] c p q f = absurd (no_empty [] p)
folder_between [] (y ∷ ys) [] p q f = absurd (no_folder [] f)
folder_between [] (y ∷ ys) (z ∷ zs) p q f =
    let slash : z ≡ 47 = slash_is z zs f in
    elim (ahead y z ys zs q) [
      | inl two ↦ is_slash y ys (two.0 ∙ slash)
      | inr two ↦
          absurd (let least : rank z ≡ 0 = ap rank slash ∙ slash_least in
          let no : ⊥ = omega (arith, two, least) in no)
    ]
folder_between (x ∷ xs) [] c p q f = absurd (no_empty (x ∷ xs) p)
folder_between (x ∷ xs) (y ∷ ys) [] p q f = absurd (no_folder (x ∷ xs) f)
folder_between (x ∷ xs) (y ∷ ys) (z ∷ zs) p q f =
    let h = inside_ahead x z xs zs f in
    let same : rank x ≡ rank z = ap rank h.0 in
    elim (ahead x y xs ys p) [
      | inl one ↦
          elim (ahead y z ys zs q) [
            | inl two ↦
                subst (λ (w : ℕ). is_folder_of (x ∷ xs) (w ∷ ys) ≡ true) one.0
                (inside_equal x xs ys (folder_between xs ys zs one.1 two.1 h.1))
            | inr two ↦
                absurd (let equal : rank x ≡ rank y = ap rank one.0 in
                let no : ⊥ = omega (arith, two, same, equal) in no)
          ]
      | inr one ↦
          elim (ahead y z ys zs q) [
            | inl two ↦
                absurd (let equal : rank y ≡ rank z = ap rank two.0 in
                let no : ⊥ = omega (arith, one, same, equal) in no)
            | inr two ↦ absurd (let no : ⊥ = omega (arith, one, two, same) in no)
          ]
    ]

-- ---- accepted lists

not_false : (b : Bool) → not b ≡ false → b ≡ true
not_false true e = refl
not_false false e = absurd cc

-- what is known of the first of some accepted entries
record IsNext (previous : List ℕ) (e : SetEntry) (es : List SetEntry) : Type 0 where
  pub later : is_before previous e.name ≡ true
  pub apart : is_folder_of previous e.name ≡ false
  pub others : entries_outcome e.name es ≡ Ok tt

next : (previous : List ℕ) (e : SetEntry) (es : List SetEntry) → entries_outcome previous (e ∷ es) ≡ Ok tt
    → IsNext previous e es
unfolding entries_outcome
next previous e es ok =
    let a = bind_ok {r = entry_outcome e} {f = λ done. cond (not (is_before previous e.name)) (Err Order)
    (cond (is_folder_of previous e.name) (Err Inside) (entries_outcome e.name es))} ok in
    let later = guard_ok Order a.2 in
    let apart = guard_ok Inside later.1 in
    record { later = not_false _ later.0; apart = apart.0; others = apart.1 }

-- The name a is the name `previous` before some accepted entries, or it is before `previous` and no folder of it.
abbrev Precedes : List ℕ → List ℕ → Type 0
Precedes a previous = ((is_before a previous ≡ true) × (is_folder_of a previous ≡ false)) ⊎ (a ≡ previous)

precedes_next : (a previous : List ℕ) (e : SetEntry) (es : List SetEntry) → Precedes a previous
    → IsNext previous e es → (is_before a e.name ≡ true) × (is_folder_of a e.name ≡ false)
precedes_next a previous e es (inl h) n = (
  before_then a previous e.name h.0 n.later,
  elim (by_cases (is_folder_of a e.name)) [
    | inl folder ↦
        absurd (let inside : is_folder_of a previous ≡ true =
        folder_between a previous e.name h.0 n.later folder in let no : true ≡ false = sym inside ∙ h.1 in cc)
    | inr apart ↦ apart
  ],
)
precedes_next a previous e es (inr same) n =
    subst (λ (p : List ℕ). (is_before p e.name ≡ true) × (is_folder_of p e.name ≡ false)) (sym same)
    (n.later, n.apart)

-- A name that precedes accepted entries is before the name of each of them, and is a folder of none of these names.
precedes_all : (a previous : List ℕ) (es : List SetEntry) → entries_outcome previous es ≡ Ok tt → Precedes a previous
    → (j : ℕ) (d : SetEntry) → j < length es
    → (is_before a (get_or es j d).name ≡ true) × (is_folder_of a (get_or es j d).name ≡ false)
precedes_all a previous [] ok h j d lt = absurd (let no : ⊥ = omega (arith, lt) in no)
precedes_all a previous (e ∷ es) ok h zero d lt = precedes_next a previous e es h (next previous e es ok)
precedes_all a previous (e ∷ es) ok h (suc j) d lt =
    let n = next previous e es ok in
    precedes_all a e.name es n.others (inl (precedes_next a previous e es h n)) j d (omega (arith, lt))

not_folder_of_itself : (a : List ℕ) → is_folder_of a a ≡ false
not_folder_of_itself a =
    elim (by_cases (is_folder_of a a)) [
      | inl folder ↦ absurd (let no : true ≡ false = sym (folder_before a a folder) ∙ not_itself a in cc)
      | inr apart ↦ apart
    ]

not_folder_of_former : (a b : List ℕ) → is_before a b ≡ true → is_folder_of b a ≡ false
not_folder_of_former a b before =
    elim (by_cases (is_folder_of b a)) [
      | inl folder ↦
          absurd (let no : true ≡ false =
          sym (before_then a b a before (folder_before b a folder)) ∙ not_itself a in cc)
      | inr apart ↦ apart
    ]

-- No name of accepted entries is a folder of another one.
pub none_inside : (previous : List ℕ) (es : List SetEntry) → entries_outcome previous es ≡ Ok tt → NoneInside es
none_inside previous [] ok i j d one other = absurd (let no : ⊥ = omega (arith, one) in no)
none_inside previous (e ∷ es) ok zero zero d one other = not_folder_of_itself e.name
none_inside previous (e ∷ es) ok zero (suc j) d one other =
    (precedes_all e.name e.name es (next previous e es ok).others (inr refl) j d (omega (arith, other))).1
none_inside previous (e ∷ es) ok (suc i) zero d one other =
    not_folder_of_former e.name (get_or es i d).name
    (precedes_all e.name e.name es (next previous e es ok).others (inr refl) i d (omega (arith, one))).0
none_inside previous (e ∷ es) ok (suc i) (suc j) d one other =
    none_inside e.name es (next previous e es ok).others i j d (omega (arith, one)) (omega (arith, other))

-- After a check that accepted the entries, no name is a folder of another one, whatever else is found.
pub apart_after : (es : List SetEntry) (r : Result (Unit {0}) Fault) → entries_outcome [] es ≡ Ok tt
    → OnOk r (NoneInside es)
apart_after es (Ok x) ok = none_inside [] es ok
apart_after es (Err e) ok = tt
