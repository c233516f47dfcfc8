-- Lemmas about `rooms_fit`, which checks that rooms have the length of shards of one size, and about vectors of one
-- size.
use Rattle.std.proofs.Common.{rules, ◌≡◌, ℕ, zero, suc, ◌<◌, List, [], ◌∷◌, length, get_or, All, Result, Ok, Err}
use Rattle.std.proofs.Common.{MatchResult, Vec, map, ap, subst, refl, ◌∙◌, sym, arith}
use Rattle.std.proofs.lemmas.Bool.{eq-eqb, ne_eqb}
use Rattle.std.proofs.lemmas.List.{length-map, get_or-map}
use Rattle.rs_field.specs.code.Column.{Shard}
use Rattle.reed_solomon_simd.specs.declared.room_error.RoomError.{RoomError}
use Rattle.reed_solomon_simd.specs.declared.room_error.RoomError.TheVariants.{WrongLength}
use Rattle.reed_solomon_simd.specs.Into.{lengths_fit, rooms_fit, Fills}

-- Vectors whose shards have a size have this size.
pub vectors-sized : {Y : Type 0} (size : ℕ) {vectors others : List (Vec ℕ Y)} → others ≡ vectors
    → All (λ shard. length shard ≡ size) (map (λ v. v.items) vectors) → All (λ v. length v.items ≡ size) others
vectors-sized size {vectors = vectors} is sized =
    subst (λ xs. All (λ v. length v.items ≡ size) xs) (sym is)
    (λ j d inside. ap length (sym (get_or-map (λ v. v.items) vectors j d [] inside))
    ∙ sized j [] (let long = length-map vectors (λ v. v.items) in omega (arith, inside, long)))

-- If there are as many rooms as shards, `rooms_fit` depends only on their lengths.
pub fits-many : (shards : List Shard) (rooms : List (List ℕ)) → length shards ≡ length rooms
    → rooms_fit shards rooms ≡ lengths_fit shards rooms
fits-many shards rooms same = rw (eq-eqb (length shards) (length rooms) same) refl

-- Rooms that all have the shard size fit the shards.
pub fits-all : (size : ℕ) (shards : List Shard) (rooms : List (List ℕ)) → All (λ shard. length shard ≡ size) shards
    → ((i : ℕ) → i < length rooms → length (get_or rooms i []) ≡ size) → lengths_fit shards rooms ≡ Ok tt
fits-all size [] rooms sized long = refl
fits-all size (shard ∷ shards) [] sized long = refl
fits-all size (shard ∷ shards) (room ∷ rooms) sized long =
    let same : length room ≡ length shard = long 0 (omega arith) ∙ sym (sized 0 [] (omega arith)) in
    rw (eq-eqb (length room) (length shard) same)
    (fits-all size shards rooms (λ k d h. sized (suc k) d (omega (arith, h))) (λ i h. long (suc i) (omega (arith, h))))

-- The first room of another size is the one that the error names.
pub fits-first : (size i : ℕ) (shards : List Shard) (rooms : List (List ℕ)) → length shards ≡ length rooms
    → All (λ shard. length shard ≡ size) shards
    → i < length rooms → ((j : ℕ) → j < i → length (get_or rooms j []) ≡ size) → (length (get_or rooms i []) ≡ size → ⊥)
    → lengths_fit shards rooms ≡ Err (WrongLength size (length (get_or rooms i [])))
fits-first size i [] rooms number sized inside before other = absurd (let no : ⊥ = omega (arith, number, inside) in no)
fits-first size i (shard ∷ shards) [] number sized inside before other =
    absurd (let no : ⊥ = omega (arith, inside) in no)
fits-first size zero (shard ∷ shards) (room ∷ rooms) number sized inside before other =
    let wanted : length shard ≡ size = sized 0 [] (omega arith) in
    rw (ne_eqb (length room) (length shard) (λ same. other (same ∙ wanted)), wanted) refl
fits-first size (suc i) (shard ∷ shards) (room ∷ rooms) number sized inside before other =
    let same : length room ≡ length shard = before 0 (omega arith) ∙ sym (sized 0 [] (omega arith)) in
    rw (eq-eqb (length room) (length shard) same)
    (fits-first size i shards rooms (omega (arith, number)) (λ k d h. sized (suc k) d (omega (arith, h)))
    (omega (arith, inside))
    (λ j h. before (suc j) (omega (arith, h))) other)

-- A call that fills rooms that fit, and fails with the error of rooms that do not fit, satisfies `Fills`.
pub fills : (shards : List Shard) (old new : List (List ℕ)) (answer : Result (Unit {0}) RoomError)
    (o : Result (Unit {0}) RoomError) → o ≡ rooms_fit shards old
    → MatchResult o (λ _. (answer ≡ Ok tt) × (new ≡ shards)) (λ e. (answer ≡ Err e) × (new ≡ old))
    → Fills shards old new answer
fills shards old new answer o fit does = search rules
