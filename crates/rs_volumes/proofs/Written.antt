-- Pieces that are written to the blocks with their numbers.
use Rattle.std.proofs.Common.{rules, ◌≡◌, ◌≢◌, ℕ, ◌+◌, ◌<◌, ◌≤◌, Bool, true, false, eqb, List, [], ◌∷◌, ◌++◌, length}
use Rattle.std.proofs.Common.{get_or, take, refl, sym, ap, subst, ◌∙◌, inl, inr, append_assoc, arith}
use Rattle.std.specs.Prelude.{if◌then◌else◌}
use Rattle.std.specs.Global.{Vec}
use Rattle.std.proofs.lemmas.Bool.{ne_eqb}
use Rattle.std.proofs.lemmas.Bool.Decides.{eqb_tells}
use Rattle.std.proofs.lemmas.List.{append-nil, map-append, take_more}
use Rattle.rs_field.specs.code.Column.{Shard}
use Rattle.rs_field.specs.code.OneCall.{Items}
use Rattle.rs_volumes.specs.Holding.{Adds}
use Rattle.rs_volumes.specs.Restoring.{Gets, items_of, piece_of}

piece_of-append : (i : ℕ) (xs ys : Items) → piece_of i (xs ++ ys) ≡ piece_of i xs ++ piece_of i ys
unfolding piece_of
piece_of-append i [] ys = refl
piece_of-append i (x ∷ xs) ys =
    ap (λ (s : Shard). (if eqb i x.0 then x.1 else []) ++ s) (piece_of-append i xs ys)
    ∙ sym (append_assoc (if eqb i x.0 then x.1 else []) (piece_of i xs) (piece_of i ys))

-- a further piece is added to the pieces with its own number
more-own : (i : ℕ) (items : Items) (item : ℕ × Shard) → i ≡ item.0
    → piece_of i (items ++ item ∷ []) ≡ piece_of i items ++ item.1
unfolding piece_of
more-own i items item same = search (rules, piece_of-append)

-- a further piece changes no piece with another number
more-other : (i : ℕ) (items : Items) (item : ℕ × Shard) → i ≢ item.0
    → piece_of i (items ++ item ∷ []) ≡ piece_of i items
unfolding piece_of
more-other i items item other =
    piece_of-append i items (item ∷ [])
    ∙ rw (ne_eqb i item.0 other) (append-nil (piece_of i items))

module _ (wanted : List Bool) (items : Items) (item : ℕ × Shard) (held : ℕ → Shard) {now : ℕ → Shard}
    (so_far : Gets wanted (λ i. piece_of i items) held now) where
  -- the next piece is written
  pub gets_more : {next : ℕ → Shard} → Adds item.0 item.1 now next
      → Gets wanted (λ i. piece_of i (items ++ item ∷ [])) held next
  gets_more {next = next} added i is =
      elim (eqb_tells i item.0) [
        | inl same ↦
            let at : i ≡ item.0 = same.1 in
            ap next at ∙ added.here ∙ ap (λ (s : Shard). s ++ item.1) (ap now (sym at) ∙ so_far i is)
            ∙ append_assoc (held i) (piece_of i items) item.1
            ∙ ap (λ (s : Shard). held i ++ s) (sym (more-own i items item at))
        | inr other ↦
            added.others i other.1 ∙ so_far i is
            ∙ ap (λ (s : Shard). held i ++ s) (sym (more-other i items item other.1))
      ]

  -- the block of the next piece is not requested
  pub gets_same : (get_or wanted item.0 false ≡ true → ⊥) → Gets wanted (λ i. piece_of i (items ++ item ∷ [])) held
      now
  gets_same unwanted i is =
      let other : i ≢ item.0 = λ at. unwanted (subst (λ (n : ℕ). get_or wanted n false ≡ true) at is) in
      so_far i is ∙ ap (λ (s : Shard). held i ++ s) (sym (more-other i items item other))

-- the pieces up to number n, and then the next one
pub items_more : (pieces : List (ℕ × Vec ℕ)) {n : ℕ} {p : ℕ × Vec ℕ} → n < length pieces → p ≡ get_or pieces n p
    → items_of (take (n + 1) pieces) ≡ items_of (take n pieces) ++ (p.0, p.1.items) ∷ []
items_more pieces {n = n} {p = p} h e =
    ap items_of (take_more pieces n p h ∙ ap (λ (q : ℕ × Vec ℕ). take n pieces ++ q ∷ []) (sym e))
    ∙ map-append (λ (q : ℕ × Vec ℕ). (q.0, q.1.items)) (take n pieces) (p ∷ [])

-- no piece is written yet
pub gets_none : (wanted : List Bool) (held : ℕ → Shard) → Gets wanted (λ i. piece_of i []) held held
unfolding piece_of
gets_none wanted held i is = sym (append-nil (held i))

-- the requested blocks below number n got their pieces, and the others got none
pub record GetsBelow (n : ℕ) (wanted : List Bool) (piece held now : ℕ → Shard) : Type 0 where
  pub done : (i : ℕ) → i < n → get_or wanted i false ≡ true → now i ≡ held i ++ piece i
  pub rest : (i : ℕ) → n ≤ i → now i ≡ held i

-- no block got its piece yet
pub got_none : (wanted : List Bool) (piece held : ℕ → Shard) → GetsBelow 0 wanted piece held held
got_none wanted piece held = record { done = λ i lt is. absurd (omega arith); rest = λ i le. refl }

module _ (wanted : List Bool) (piece : ℕ → Shard) {n : ℕ} {held now : ℕ → Shard}
    (so_far : GetsBelow n wanted piece held now) where
  -- and then block n
  pub got_next : {next : ℕ → Shard} → ((i : ℕ) → i ≢ n → next i ≡ now i)
      → (get_or wanted n false ≡ true → next n ≡ now n ++ piece n) → GetsBelow (n + 1) wanted piece held next
  got_next {next = next} others here =
      record {
        done = λ i lt is. elim (eqb_tells i n) [
          | inl same ↦
              let at : i ≡ n = same.1 in
              ap next at ∙ here (subst (λ (m : ℕ). get_or wanted m false ≡ true) at is)
              ∙ ap (λ (m : ℕ). now m ++ piece m) (sym at)
              ∙ ap (λ (s : Shard). s ++ piece i) (so_far.rest i (omega arith))
          | inr other ↦ others i other.1 ∙ so_far.done i (omega (arith, other.1)) is
        ];
        rest = λ i le. others i (omega arith) ∙ so_far.rest i (omega arith);
      }
