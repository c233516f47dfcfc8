-- From an encode into rooms and an update of the rooms to the recovery shards of the changed message.
use Rattle.std.proofs.Common.{rules, ◌≡◌, ℕ, ◌<◌, List, [], length, get_or, set, All, Result, Ok, Err, MatchResult, inl}
use Rattle.std.proofs.Common.{inr, refl, sym, ap, subst, ◌∙◌}
use Rattle.std.specs.Prelude.{◌⊎◌, OnOk}
use Rattle.std.proofs.lemmas.Bool.{cases_eq}
use Rattle.std.proofs.lemmas.List.{get_or-set_same, get_or-set_other, length-set}
use Rattle.rs_field.specs.declared.code.error.Error.TheVariants.{OutOfMemory}
use Rattle.rs_field.specs.code.Code.{AreRecovery}
use Rattle.rs_field.specs.code.Column.{Shard, IsShard, AreShards, shard_at}
use Rattle.rs_field.specs.code.OneCall.{default_of}
use Rattle.rs_field.specs.code.RoundTrip.{AreCoded}
use Rattle.rs_field.proofs.code_lemmas.OneRoundTrip.{codes_in_one_call}
use Rattle.reed_solomon_simd.specs.declared.room_error.RoomError.{RoomError}
use Rattle.reed_solomon_simd.specs.declared.room_error.RoomError.TheVariants.{Refused}
use Rattle.reed_solomon_simd.specs.Into.{EncodesInto}
use Rattle.reed_solomon_simd.specs.Updated.{UpdatesInto, UpdatesShards, AddsChange, update_outcome}

-- After an encode that succeeds, the rooms hold the recovery shards.
encoded : (k r : ℕ) (originals before after : List Shard) → All (All (λ b. b < 256)) originals
    → EncodesInto k r originals before after (Ok tt) → AreCoded k r originals after
encoded k r originals before after bytes into = search (rules, codes_in_one_call)

-- If the checks of an update find no error, the new original has the size of the old one.
same-size : (k r index size other : ℕ) (rooms : List Shard) → update_outcome k r index size other rooms ≡ Ok tt
    → other ≡ size
same-size k r index size other rooms is = search rules

-- After an encode and an update, the rooms hold the recovery shards of the changed message.
pub encoded-updated : (r index : ℕ) (originals before coded after : List Shard) (new : Shard)
    (result : Result (Unit {0}) RoomError) → All (All (λ b. b < 256)) originals → All (λ b. b < 256) new
    → index < length originals → EncodesInto (length originals) r originals before coded (Ok tt)
    → UpdatesInto (length originals) r index (shard_at originals index) new coded after result
    → OnOk result (AreRecovery (default_of (length originals) r (length (shard_at originals index)))
    (set originals index new) after)
encoded-updated r index originals before coded after new (Err e) bytes new_bytes inside into updates = tt
encoded-updated r index originals before coded after new (Ok u) bytes new_bytes inside into updates =
    by_outcome (update_outcome k r index size (length new) coded) refl updates
  where
    k : ℕ
    k = length originals

    size : ℕ
    size = length (shard_at originals index)

    code : AreCoded (length originals) r originals coded
    code = encoded k r originals before coded bytes into

    sized : code.size ≡ length (shard_at originals index)
    sized = sym (code.shards.each index [] inside).length_is

    message : AreShards (length originals) (length (shard_at originals index)) originals
    message = subst (λ (n : ℕ). AreShards k n originals) sized code.shards

    changed : length new ≡ length (shard_at originals index)
        → AreShards (length originals) (length (shard_at originals index)) (set originals index new)
    changed same = record {
      length_is = length-set originals index new;
      each = λ i d h. elim (cases_eq i index) [
        | inl here ↦
            subst (IsShard size) (sym (ap (λ (n : ℕ). get_or (set originals index new) n d) here
            ∙ get_or-set_same originals index new d inside)) (record { length_is = same; bytes = new_bytes })
        | inr other ↦
            subst (IsShard size) (sym (get_or-set_other originals index i new d other))
            (message.each i d (subst (λ (n : ℕ). i < n) (length-set originals index new) h))
      ];
    }

    by_outcome : (o : Result (Unit {0}) RoomError) → update_outcome (length originals) r index
        (length (shard_at originals index)) (length new) coded ≡ o
        → MatchResult o (λ _. ((◌≡◌ {A = Result (Unit {0}) RoomError} (Ok u) (Ok tt))
        × UpdatesShards (length originals) r index (shard_at originals index) new coded after
        × AddsChange (length originals) r index (shard_at originals index) new coded after)
        ⊎ ((◌≡◌ {A = Result (Unit {0}) RoomError} (Ok u) (Err (Refused OutOfMemory))) × (after ≡ coded)))
        (λ e. (◌≡◌ {A = Result (Unit {0}) RoomError} (Ok u) (Err e)) × (after ≡ coded))
        → AreRecovery (default_of (length originals) r (length (shard_at originals index)))
        (set originals index new) after
    by_outcome (Ok v) is (inl does) =
        does.1 originals (set originals index new) message (changed (same-size k r index size (length new) coded is))
        (λ i other. get_or-set_other originals index i new [] other) refl
        (get_or-set_same originals index new [] inside)
        (subst (λ (n : ℕ). AreRecovery (default_of k r n) originals coded) sized code.coded)
    by_outcome (Ok v) is (inr does) = let done = does.0 in absurd (let no : ⊥ = cc in no)
    by_outcome (Err e) is does = let done = does.0 in absurd (let no : ⊥ = cc in no)
