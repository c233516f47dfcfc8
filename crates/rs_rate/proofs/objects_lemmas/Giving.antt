-- Following an iterator whose items are taken one after another.
use Rattle.std.proofs.Common.{rules, ◌≡◌, true, false, List, [], ◌∷◌, ◌++◌, map, Option, Some, None, Result, Ok, Err}
use Rattle.std.proofs.Common.{refl, sym, ap, subst, ◌∙◌, true≢false}
use Rattle.std.specs.Iterator.{AlwaysYields, Yields, YieldsFirstBy}
use Rattle.std.proofs.lemmas.Iterator.{YieldsList}
use Rattle.rs_field.specs.declared.code.error.Error.{Error}
use Rattle.rs_field.specs.code.Outcome.{result_and_then, answer_of, state_after}
use Rattle.rs_field.specs.code.OneCall.{one_by_one}
use Rattle.rs_rate.specs.objects.Calls.{Calls, Begins}
use Rattle.rs_rate.specs.objects.Giving.{Reaches}

module _ {I A T : Type 0} (steps : I → Option A → I → Type 0) (view : A → T) where
  -- If the iterator gives an item, this item is the first of the remaining items.
  pub next-item : (iterator after : I) (item : A) (left : List T) → steps iterator (Some item) after
      → AlwaysYields steps view iterator left
      → (others : List T) × (left ≡ view item ∷ others) × AlwaysYields steps view after others
  next-item iterator after item [] gives yields = absurd (yields item after gives)
  next-item iterator after item (x ∷ others) gives yields = let parts = yields.1 item after gives in
      (others, ap (λ y. y ∷ others) (sym parts.0), parts.1)

  -- If the iterator gives no item, no items remained.
  pub no-item : (iterator after : I) (left : List T) → steps iterator None after → AlwaysYields steps view iterator left
      → left ≡ []
  no-item iterator after [] gives yields = refl
  no-item iterator after (x ∷ others) gives yields = absurd (yields.0 after gives)

-- Each list that a run of an iterator gives begins with the items of the calls so far.
always-begins : {I A T : Type 0} (steps : I → Option A → I → Type 0) (view : A → T) (items : List A) (iterator left : I)
    → Yields steps iterator items left
    → (list : List T) → AlwaysYields steps view iterator list → (more : List T) × (list ≡ map view items ++ more)
    × AlwaysYields steps view left more
always-begins steps view [] iterator left gave list yields =
    (list, refl, subst (λ s. AlwaysYields steps view s list) gave yields)
always-begins steps view (item ∷ items) iterator left gave list yields =
    let here = next-item steps view iterator gave.0 item list gave.1 yields in
    let there = always-begins steps view items gave.0 left gave.2 here.0 here.2 in
    (there.0, here.1 ∙ ap (λ others. view item ∷ others) there.1, there.2)

module _ {I A T : Type 0} (steps : I → Option A → I → Type 0) (view : A → T) where
  pub begins-always : (iterator : I) (calls : Calls steps iterator) (list : List T)
      → AlwaysYields steps view iterator list → Begins view calls list
  begins-always iterator calls list yields = search (rules, always-begins, no-item)

-- The record of no calls.
abbrev pub no-calls : {I A : Type 0} {steps : I → Option A → I → Type 0} (iterator : I) → Calls steps iterator
no-calls iterator = record
    { items = []; ended = false; gave = (iterator, refl, λ ended. absurd (true≢false (sym ended))) }

-- The record of one call that gave no item.
abbrev pub ended-calls : {I A : Type 0} {steps : I → Option A → I → Type 0} (iterator after : I)
    → steps iterator None after → Calls steps iterator
ended-calls iterator after gives = record { items = []; ended = true; gave = (iterator, refl, λ _. (after, gives)) }

-- The record of one call that gave an item, followed by other calls.
abbrev pub more-calls : {I A : Type 0} {steps : I → Option A → I → Type 0} (iterator after : I) (item : A)
    → steps iterator (Some item) after → Calls steps after → Calls steps iterator
more-calls iterator after item gives calls =
    record {
      items = item ∷ calls.items;
      ended = calls.ended;
      gave =
          (calls.gave.0, (after, gives, calls.gave.1), calls.gave.2);
    }

-- Properties of all lists that begin with the items of some calls.
module _ {I A T : Type 0} (steps : I → Option A → I → Type 0) (view : A → T) (P : List T → Type 0) where
  -- If the first call gave no item, the only such list is the empty list.
  pub ended-run : (iterator after : I) (gives : steps iterator None after) → P [] → (list : List T)
      → Begins view (ended-calls {steps = steps} iterator after gives) list → P list
  ended-run iterator after gives holds list begins = subst P (sym (begins.1 ∙ begins.2 refl)) holds

  -- If a call gave an item, each such list begins with this item, followed by a list for the other calls.
  pub more-run : (iterator after : I) (item : A) (gives : steps iterator (Some item) after) (calls : Calls steps after)
      → ((others : List T) → Begins view calls others → P (view item ∷ others)) → (list : List T)
      → Begins view (more-calls iterator after item gives calls) list → P list
  more-run iterator after item gives calls holds list begins =
      subst P (sym begins.1) (holds (map view calls.items ++ begins.0) (begins.0, refl, begins.2))

  -- A call that gave an item, followed by calls with a property of their lists, has this property of the longer lists.
  pub first-then : {iterator after : I} {item : A} → steps iterator (Some item) after
      → (calls : Calls steps after) × ((others : List T) → Begins view calls others → P (view item ∷ others))
      → (calls : Calls steps iterator) × ((list : List T) → Begins view calls list → P list)
  first-then {iterator} {after} {item} gives run =
      (more-calls iterator after item gives run.0, more-run iterator after item gives run.0 run.1)

module _ {I A S T : Type 0} (steps : I → Option A → I → Type 0) (view : A → T) (add : S → T → Result S Error) where
  -- The calls so far gave items. Adding a list that begins with these items has the same result as adding the other
  -- items of the list to the current state.
  pub record LeadsOn (begin : I) (first : S) (iterator : I) (now : S) : Type 0 where
    pub taken : List A
    pub gave : Yields steps begin taken iterator
    pub led : (more : List T) → one_by_one add first (map view taken ++ more) ≡ one_by_one add now more

-- Appending an item to the items so far moves the item from the remaining list to the items so far.
map-further : {A T : Type 0} (view : A → T) (items : List A) (item : A) (more : List T)
    → map view (items ++ item ∷ []) ++ more ≡ map view items ++ view item ∷ more
map-further view [] item more = refl
map-further view (x ∷ items) item more = ap (λ others. view x ∷ others) (map-further view items item more)

Yields-further : {I A : Type 0} (steps : I → Option A → I → Type 0) (items : List A) (item : A)
    (begin iterator after : I) → Yields steps begin items iterator
    → steps iterator (Some item) after → Yields steps begin (items ++ item ∷ []) after
Yields-further steps [] item begin iterator after gave gives =
    (after, subst (λ s. steps s (Some item) after) (sym gave) gives, refl)
Yields-further steps (x ∷ items) item begin iterator after gave gives =
    (gave.0, gave.1, Yields-further steps items item gave.0 iterator after gave.2 gives)

-- If the caller gets a success, the outcome is the state that was left.
pub outcome-ok : {S : Type 0} (old new : S) (outcome : Result S Error) → Ok tt ≡ answer_of outcome
    → new ≡ state_after old outcome → outcome ≡ Ok new
outcome-ok old new (Ok s) told left = ap Ok (sym left)
outcome-ok old new (Err e) told left = cc

-- If the caller gets an error, the outcome is this error.
pub outcome-err : {S : Type 0} (outcome : Result S Error) (e : Error) → Err e ≡ answer_of outcome → outcome ≡ Err e
outcome-err (Ok s) e told = cc
outcome-err (Err f) e told = cc

-- A success whose state has the property reaches the outcome.
pub reaches-ok : {S : Type 0} (outcome : Result S Error) (P : S → Type 0) (s : S) → outcome ≡ Ok s → P s
    → Reaches outcome (Ok tt) P
reaches-ok outcome P s is holds = subst (λ o. Reaches o (Ok tt) P) (sym is) (refl, holds)

-- A result that is the error of the outcome reaches the outcome.
pub reaches-err : {S : Type 0} (outcome : Result S Error) (P : S → Type 0) (result : Result (Unit {0}) Error)
    (e : Error) → outcome ≡ Err e → result ≡ Err e → Reaches outcome result P
reaches-err outcome P result e is refused = subst (λ o. Reaches o result P) (sym is) refused

module _ {I A S T : Type 0} {steps : I → Option A → I → Type 0} {view : A → T} {add : S → T → Result S Error} where
  -- If the next item is added without an error, `LeadsOn` holds for the next state.
  pub leads-taken : {begin iterator after : I} {first now next : S} {item : A}
      → LeadsOn steps view add begin first iterator now → steps iterator (Some item) after
      → add now (view item) ≡ Ok next → LeadsOn steps view add begin first after next
  leads-taken {begin} {iterator} {after} {first} {now} {next} {item} leads gives taken =
      search (rules, Yields-further, map-further)

  -- If an item cannot be added, its error is the outcome, whatever comes after the item.
  pub leads-refused : {begin iterator after : I} {first now : S} {item : A} {e : Error}
      {result : Result (Unit {0}) Error} (P : S → Type 0)
      → LeadsOn steps view add begin first iterator now → steps iterator (Some item) after → add now (view item) ≡ Err e
      → result ≡ Err e
      → (calls : Calls steps begin)
      × ((items : List T) → Begins view calls items → Reaches (one_by_one add first items) result P)
  leads-refused {begin} {iterator} {after} {first} {now} {item} {e} {result} P leads gives refused told = (
    record {
      items = leads.taken ++ item ∷ [];
      ended = false;
      gave = (
        after,
        Yields-further steps leads.taken item begin iterator after leads.gave gives,
        λ ended.
            absurd (true≢false (sym ended)),
      );
    },
    λ items begins.
        reaches-err (one_by_one add first items) P result e
        (
        ap (one_by_one add first) (begins.1 ∙ map-further view leads.taken item begins.0)
        ∙ leads.led (view item ∷ begins.0)
        ∙ ap (result_and_then (λ s. one_by_one add s begins.0)) refused
        )
        told,
  )

  -- If the iterator gives no more items, all items were added.
  pub leads-ended : {begin iterator after : I} {first now : S} (P : S → Type 0)
      → LeadsOn steps view add begin first iterator now → steps iterator None after → P now
      → (calls : Calls steps begin)
      × ((items : List T) → Begins view calls items → Reaches (one_by_one add first items) (Ok tt) P)
  leads-ended {begin} {iterator} {after} {first} {now} P leads gives holds = (
    record { items = leads.taken; ended = true; gave = (iterator, leads.gave, λ _. (after, gives)) },
    λ items begins.
        reaches-ok (one_by_one add first items) P now
        (ap (one_by_one add first) (begins.1 ∙ ap (λ more. map view leads.taken ++ more) (begins.2 refl))
        ∙ leads.led []) holds,
  )

-- If a success reaches an outcome, the outcome is the state that was left.
pub reached-ok : {S : Type 0} (outcome : Result S Error) (now : S) → Reaches outcome (Ok tt) (λ s. now ≡ s)
    → outcome ≡ Ok now
reached-ok (Ok s) now reached = ap Ok (sym reached.1)
reached-ok (Err e) now reached = absurd (let no : ⊥ = cc in no)

-- If a result that reaches an outcome is an error, the outcome is the same error.
pub reached-err : {S : Type 0} (outcome : Result S Error) (P : S → Type 0) (e : Error) → Reaches outcome (Err e) P
    → outcome ≡ Err e
reached-err (Ok s) P e reached = absurd (let h = reached.0 in let no : ⊥ = cc in no)
reached-err (Err f) P e reached = let same : f ≡ e = cc in ap Err same

module _ {S T : Type 0} (add : S → T → Result S Error) where
  -- If an item is added without an error, the outcome is the outcome of adding the other items to the next state.
  pub adds-ok : (s t : S) (x : T) (xs : List T) (o : Result S Error) → add s x ≡ Ok t → one_by_one add t xs ≡ o
      → one_by_one add s (x ∷ xs) ≡ o
  adds-ok s t x xs o taken led = ap (result_and_then (λ next. one_by_one add next xs)) taken ∙ led

  -- If an item cannot be added, its error is the outcome of adding all items.
  pub adds-err : (s : S) (x : T) (xs : List T) (e : Error) → add s x ≡ Err e → one_by_one add s (x ∷ xs) ≡ Err e
  adds-err s x xs e refused = ap (result_and_then (λ next. one_by_one add next xs)) refused

-- A property of all lists that begin with the items of calls holds for the lists that each run gives.
pub always-run : {I A T : Type 0} {steps : I → Option A → I → Type 0} {view : A → T} {iterator : I}
    {P : List T → Type 0}
    → (calls : Calls steps iterator) × ((list : List T) → Begins view calls list → P list) → (list : List T)
    → AlwaysYields steps view iterator list → P list
always-run {steps = steps} {view} {iterator} run list yields =
    run.1 list (begins-always steps view iterator run.0 list yields)

-- A property of the lists of two iterators, from the calls on both.
module _ {I J A B T U : Type 0} {own : I → Option A → I → Type 0} {steps : J → Option B → J → Type 0} (see : A → T)
    (view : B → U) (P : List T → List U → Type 0) {start : I} where
  -- The second iterator gave no item, so its list is empty.
  pub ended-both : (iterator after : J) → steps iterator None after → (calls : Calls own start)
      × ((list : List T) → Begins see calls list → P list [])
      → (calls : Calls own start) × (further : Calls steps iterator)
      × ((list : List T) (more : List U) → Begins see calls list → Begins view further more → P list more)
  ended-both iterator after gives run = (
    run.0,
    ended-calls iterator after gives,
    λ list more begins ends.
        ended-run steps view (P list) iterator after gives (run.1 list begins) more ends,
  )

  -- The second iterator gave an item first, and then other items.
  pub first-both : {iterator after : J} {item : B} → steps iterator (Some item) after
      → (calls : Calls own start) × (further : Calls steps after)
      × ((list : List T) (others : List U) → Begins see calls list → Begins view further others
      → P list (view item ∷ others))
      → (calls : Calls own start) × (further : Calls steps iterator)
      × ((list : List T) (more : List U) → Begins see calls list → Begins view further more → P list more)
  first-both {iterator} {after} {item} gives run = (
    run.0,
    more-calls iterator after item gives run.1,
    λ list more begins.
        more-run steps view (P list) iterator after item gives run.1 (λ others. run.2 list others begins) more,
  )

  -- The property holds for the two lists that each run of the two iterators gives.
  pub always-both : {iterator : J} → (calls : Calls own start) × (further : Calls steps iterator)
      × ((list : List T) (more : List U) → Begins see calls list → Begins view further more → P list more)
      → (list : List T) (more : List U) → AlwaysYields own see start list → AlwaysYields steps view iterator more
      → P list more
  always-both {iterator} run list more yields further =
      run.2 list more (begins-always own see start run.0 list yields)
      (begins-always steps view iterator run.1 more further)

-- An iterator whose model is the list of the remaining items yields this list.
pub lends-left : {A B : Type 0} (view : A → B) (own list : List B) → own ≡ list
    → AlwaysYields (YieldsFirstBy view (λ (left : List B). left)) view own list
lends-left view own [] is = λ item after gives. let no : ⊥ = cc in no
lends-left view own (x ∷ xs) is = (
  λ after gives. let none = gives.0 in let no : ⊥ = cc in no,
  λ item after gives. (
    let same : view item ≡ x = cc in
        same,
    lends-left view after xs (let rest : after ≡ xs = cc in rest),
  ),
)

pub lends-list : {A B : Type 0} (view : A → B) (own list : List B) → own ≡ list
    → YieldsList (YieldsFirstBy view (λ (left : List B). left)) view own list
lends-list view own list is = record { runs = lends-left view own list is }
