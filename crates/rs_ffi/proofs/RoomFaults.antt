-- The results of calls that write into rooms, with each error replaced by its fault.
use Rattle.std.proofs.Common.{rules, ◌≡◌, ℕ, ◌==◌, Bool, true, false, cond, List, [], ◌∷◌, ◌++◌, length, map, Result}
use Rattle.std.proofs.Common.{Ok, Err, MatchResult, MutBor, refl, sym, ap, subst, ◌∙◌}
use Rattle.rs_field.specs.declared.code.error.Error.TheVariants.{OutOfMemory}
use Rattle.rs_field.specs.code.Column.{Shard}
use Rattle.rs_field.specs.code.OneCall.{Items}
use Rattle.reed_solomon_simd.specs.declared.room_error.RoomError.{RoomError}
use Rattle.reed_solomon_simd.specs.declared.room_error.RoomError.TheVariants.{Refused as refused}
use Rattle.reed_solomon_simd.specs.declared.room_error.RoomError.TheVariants.{WrongLength as wrong_length}
use Rattle.reed_solomon_simd.specs.Into.{EncodesInto, DecodesInto, Fills as fills_rooms, rooms_fit as fit_rooms}
use Rattle.reed_solomon_simd.specs.Into.{lengths_fit as fit_lengths}
use Rattle.reed_solomon_simd.specs.Rooms.{loans_of}
use Rattle.rs_ffi.specs.declared.fault.Fault.{Fault}
use Rattle.rs_ffi.specs.Arrays.{EncodesArrays, DecodesArrays, Fills, rooms_fit, lengths_fit, shards_in, KeepsRooms}
use Rattle.rs_ffi.specs.Places.{placed}

-- a result of a call over these shards and rooms, with its error replaced by its fault
abbrev pub placed_answer : List Shard → List (List ℕ) → Result (Unit {0}) RoomError → Result (Unit {0}) Fault
placed_answer given all (Ok u) = Ok tt
placed_answer given all (Err e) = Err (placed given all e)

lengths-placed : (given : List Shard) (all : List (List ℕ)) (shards : List Shard) (rooms : List (List ℕ))
    → lengths_fit all shards rooms ≡ placed_answer given all (fit_lengths shards rooms)
lengths-placed given all [] rooms = refl
lengths-placed given all (shard ∷ shards) [] = refl
lengths-placed given all (shard ∷ shards) (room ∷ rooms) =
    by_test (lengths-placed given all shards rooms) (length room == length shard)
  where
    by_test : lengths_fit all shards rooms ≡ placed_answer given all (fit_lengths shards rooms) → (same : Bool)
        → cond same (lengths_fit all shards rooms)
        (Err (placed given all (wrong_length (length shard) (length room))))
        ≡ placed_answer given all
        (cond same (fit_lengths shards rooms) (Err (wrong_length (length shard) (length room))))
    by_test others true = others
    by_test others false = refl

fit-placed : (given shards : List Shard) (rooms : List (List ℕ))
    → rooms_fit shards rooms ≡ placed_answer given rooms (fit_rooms shards rooms)
fit-placed given shards rooms = search (rules, lengths-placed)

fills-placed : (given shards : List Shard) (old new : List (List ℕ)) (answer : Result (Unit {0}) RoomError)
    → fills_rooms shards old new answer → Fills shards old new (placed_answer given old answer)
fills-placed given shards old new answer fills =
    subst (λ (o : Result (Unit {0}) Fault).
    MatchResult o (λ _. (placed_answer given old answer ≡ Ok tt) × (new ≡ shards))
    (λ fault. (placed_answer given old answer ≡ Err fault) × (new ≡ old)))
    (sym (fit-placed given shards old)) (by_outcome (fit_rooms shards old) fills)
  where
    by_outcome : (o : Result (Unit {0}) RoomError)
        → MatchResult o (λ _. (answer ≡ Ok tt) × (new ≡ shards)) (λ e. (answer ≡ Err e) × (new ≡ old))
        → MatchResult (placed_answer given old o) (λ _. (placed_answer given old answer ≡ Ok tt) × (new ≡ shards))
        (λ fault. (placed_answer given old answer ≡ Err fault) × (new ≡ old))
    by_outcome (Ok u) does = (ap (placed_answer given old) does.0, does.1)
    by_outcome (Err e) does = (ap (placed_answer given old) does.0, does.1)

-- A result of `encode_into`, with its error replaced by its fault, is a result of an encode over arrays.
pub encodes-placed : (k r : ℕ) (originals : List Shard) (old new : List (List ℕ)) (answer : Result (Unit {0}) RoomError)
    (other : Result (Unit {0}) Fault)
    → other ≡ placed_answer originals old answer → EncodesInto k r originals old new answer
    → EncodesArrays k r originals old new other
encodes-placed k r originals old new answer other is encodes = search (rules, fills-placed)

-- A result of `decode_into`, with its error replaced by its fault, is a result of a decode over arrays.
pub decodes-placed : (k r : ℕ) (originals recovery : Items) (old new : List (List ℕ))
    (answer : Result (Unit {0}) RoomError) (other : Result (Unit {0}) Fault)
    → other ≡ placed_answer (shards_in originals ++ shards_in recovery) old answer
    → DecodesInto k r originals recovery old new answer
    → DecodesArrays k r originals recovery old new other
decodes-placed k r originals recovery old new answer other is decodes = search (rules, fills-placed)

-- If an encode fails, the rooms are unchanged.
pub encodes-kept : (k r : ℕ) (originals : List Shard) (old new : List (List ℕ)) (e : RoomError)
    (answer : Result (Unit {0}) RoomError) → answer ≡ Err e → EncodesInto k r originals old new answer → new ≡ old
encodes-kept k r originals old new e answer failed encodes = search rules

-- If a decode fails, the rooms are unchanged.
pub decodes-kept : (k r : ℕ) (originals recovery : Items) (old new : List (List ℕ)) (e : RoomError)
    (answer : Result (Unit {0}) RoomError) → answer ≡ Err e → DecodesInto k r originals recovery old new answer
    → new ≡ old
decodes-kept k r originals recovery old new e answer failed decodes = search rules

-- The check of rooms for nothing never fails because memory cannot be allocated.
pub nothing-memory : (rooms : List (List ℕ)) → fit_rooms [] rooms ≡ Err (refused OutOfMemory) → ⊥
nothing-memory rooms is = search rules

-- If the loans of the rooms are the same as before, the array still points to the same rooms.
pub keeps-rooms : (old new : List (MutBor (List ℕ))) → loans_of new ≡ loans_of old → KeepsRooms old new
keeps-rooms old new same = first new ∙ ap (map (λ loan. loan.0)) same ∙ sym (first old)
  where
    first : (rooms : List (MutBor (List ℕ))) → map (λ room. room.ref_ptr) rooms ≡ map (λ loan. loan.0) (loans_of rooms)
    first [] = refl
    first (room ∷ rooms) = ap (λ others. room.ref_ptr ∷ others) (first rooms)
