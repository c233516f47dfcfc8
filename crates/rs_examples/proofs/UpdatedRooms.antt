-- What an update leaves in rooms that may hold anything.
use Rattle.std.proofs.Common.{rules, ◌≡◌, ℕ, ◌/◌, ◌<◌, List, length, Result, Ok, Err, MatchResult, inl, inr, ◌∙◌}
use Rattle.std.proofs.Common.{bit_xor}
use Rattle.std.specs.Prelude.{◌⊎◌, OnOk}
use Rattle.std.specs.Int.Bits.{xor_self, xor_zero_r}
use Rattle.rs_field.specs.declared.code.error.Error.TheVariants.{OutOfMemory}
use Rattle.rs_field.specs.code.Column.{Shard, shard_at, column}
use Rattle.rs_field.specs.words.Field.{product}
use Rattle.rs_field.proofs.words_lemmas.Product.{product_zero}
use Rattle.rs_field.proofs.words_lemmas.Total.{product-comm}
use Rattle.reed_solomon_simd.specs.declared.room_error.RoomError.{RoomError}
use Rattle.reed_solomon_simd.specs.declared.room_error.RoomError.TheVariants.{Refused}
use Rattle.reed_solomon_simd.specs.Updated.{UpdatesInto, UpdatesShards, AddsChange, update_outcome}

-- Where a word did not change, nothing is added.
nothing-added : (x a b p : ℕ) → a ≡ b → bit_xor x (product (bit_xor a b) p) ≡ x
nothing-added x a b p same = search (rules, xor_self, xor_zero_r, product-comm, product_zero)

-- Where a word of the original did not change, the words of the rooms at its place are as they were.
pub words-kept : (k r index : ℕ) (old new : Shard) (before after : List Shard) (result : Result (Unit {0}) RoomError)
    → UpdatesInto k r index old new before after result
    → OnOk result ((i j : ℕ) → i < r → j < length (shard_at before i) / 2 → column j old ≡ column j new
    → column j (shard_at after i) ≡ column j (shard_at before i))
words-kept k r index old new before after (Err e) updates = tt
words-kept k r index old new before after (Ok u) updates =
    by_outcome (update_outcome k r index (length old) (length new) before) updates
  where
    by_outcome : (o : Result (Unit {0}) RoomError)
        → MatchResult o (λ _. ((◌≡◌ {A = Result (Unit {0}) RoomError} (Ok u) (Ok tt))
        × UpdatesShards k r index old new before after × AddsChange k r index old new before after)
        ⊎ ((◌≡◌ {A = Result (Unit {0}) RoomError} (Ok u) (Err (Refused OutOfMemory))) × (after ≡ before)))
        (λ e. (◌≡◌ {A = Result (Unit {0}) RoomError} (Ok u) (Err e)) × (after ≡ before))
        → (i j : ℕ) → i < r → j < length (shard_at before i) / 2 → column j old ≡ column j new
        → column j (shard_at after i) ≡ column j (shard_at before i)
    by_outcome (Ok v) (inl does) i j hi hj same =
        (does.2.2 i hi).words j hj ∙ nothing-added (column j (shard_at before i)) (column j old) (column j new) _ same
    by_outcome (Ok v) (inr does) i j hi hj same = let done = does.0 in absurd (let no : ⊥ = cc in no)
    by_outcome (Err e) does i j hi hj same = let done = does.0 in absurd (let no : ⊥ = cc in no)
