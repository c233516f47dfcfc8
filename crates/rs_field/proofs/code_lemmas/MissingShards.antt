-- The missing shards of a message: how many there are, how long they are, and that the items of a decode are these
-- shards. A strip has as many given pieces as there are given shards, so the same number of shards is missing from it.
use Rattle.std.proofs.Common.{rules, ◌≡◌, ℕ, zero, suc, ◌+◌, ◌-◌, ◌<◌, ◌≤◌, ◌⊎◌, Bool, true, false, cond}
use Rattle.std.proofs.Common.{List, [], length, get_or, All, refl, sym, ap, ap₂, ◌∙◌, subst, inl, inr}
use Rattle.std.proofs.Common.{arith}
use Rattle.std.specs.Prelude.{Some, None, is_some, unwrap_or, not, ◌&&◌, nat_lt, Result, Ok, Err}
use Rattle.std.proofs.Math.Path.{fun_ext}
use Rattle.std.proofs.lemmas.Bool.{cases_lt, lt-ltb, le-ltb}
use Rattle.std.proofs.lemmas.List.{length-map}
use Rattle.rs_field.specs.declared.code.error.Error.{Error}
use Rattle.rs_field.specs.declared.code.error.Error.TheVariants.{InconsistentShards, NotEnoughShards}
use Rattle.rs_field.specs.code.Column.{Shard}
use Rattle.rs_field.specs.code.Decoder.{DecoderState, IsAgreeing, originals_given, enough_given}
use Rattle.rs_field.specs.code.Decoder.{missing_of, Restored, NoneAgrees}
use Rattle.rs_field.specs.code.Given.{Shards, Lists, items_below, count_below}
use Rattle.rs_field.specs.code.OneCall.{Items}
use Rattle.rs_field.specs.code.Pieces.{pieces, IsStrip}
use Rattle.rs_field.specs.code.PieceStates.{pieces_of, state_of_pieces, shards_listed, HoldRestored}
use Rattle.rs_field.proofs.code_lemmas.Given.{count_below-zero, count_below-suc}
use Rattle.rs_field.proofs.code_lemmas.Listed.{length-listed}
use Rattle.rs_field.proofs.code_lemmas.ListedMaps.{lists-same, listed-all}
use Rattle.rs_field.proofs.code_lemmas.PieceStates.{is_some-map, agrees-cut}

-- ---- numbers of pieces

-- The outcome of the check for enough shards, from the numbers of given shards.
abbrev by_counts : ℕ → ℕ → ℕ → Result (Unit {0}) Error
by_counts k originals recovery =
    cond (nat_lt (originals + recovery) k) (Err (NotEnoughShards k originals recovery)) (Ok tt)

module _ (start end : ℕ) where
  -- The number of given pieces is the number of given shards.
  pub count-pieces : (n : ℕ) (given : Shards) → count_below n (pieces_of start end given) ≡ count_below n given
  count-pieces zero given = count_below-zero (pieces_of start end given) ∙ sym (count_below-zero given)
  count-pieces (suc n) given =
      count_below-suc n (pieces_of start end given)
      ∙ ap₂ (λ (m : ℕ) (b : Bool). m + cond b 1 0) (count-pieces n given) (is_some-map start end (given n))
      ∙ sym (count_below-suc n given)

  -- There are enough pieces exactly if there are enough shards.
  pub enough-pieces : (s : DecoderState) → enough_given (state_of_pieces start end s) ≡ enough_given s
  enough-pieces s =
      ap₂ (by_counts s.configuration.original_count) (count-pieces s.configuration.original_count s.originals)
      (count-pieces s.configuration.recovery_count s.recovery)

-- If no message agrees with the pieces, no message agrees with the shards.
pub none-pieces : {start end : ℕ} (s : DecoderState) {e : Error} → IsStrip start end s.configuration.shard_bytes
    → NoneAgrees (state_of_pieces start end s) e → NoneAgrees s e
none-pieces {start} {end} s strip none =
    let c = s.configuration in
    let own = count-pieces start end c.original_count s.originals in
    let other = count-pieces start end c.recovery_count s.recovery in
    record {
      refusal = none.refusal ∙ ap₂ InconsistentShards own other;
      surplus = omega (arith, none.surplus, own, other);
      none = λ some. none.none (pieces start end some.0, agrees-cut strip some.1);
    }

-- ---- rooms

some-missing : (s : DecoderState) (message : List Shard) (i : ℕ) → i < s.configuration.original_count
    → is_some (missing_of s message i) ≡ not (is_some (s.originals i))
unfolding missing_of
some-missing s message i inside = search rules

pub missing-past : (s : DecoderState) (message : List Shard) (i : ℕ) → s.configuration.original_count ≤ i
    → missing_of s message i ≡ None
unfolding missing_of
missing-past s message i outside =
    ap (λ a. cond (a && not (is_some (s.originals i))) (Some (get_or message i [])) None)
    (le-ltb i s.configuration.original_count outside)

-- Each original is either missing or given.
pub count-missing : (s : DecoderState) (message : List Shard)
    → count_below s.configuration.original_count (missing_of s message) + originals_given s
    ≡ s.configuration.original_count
count-missing s message = below s.configuration.original_count (omega arith)
  where
    by_test : (a b n : ℕ) → a + b ≡ n → (given : Bool) → (a + cond (not given) 1 0) + (b + cond given 1 0) ≡ suc n
    by_test a b n is true = omega (arith, is)
    by_test a b n is false = omega (arith, is)

    below : (n : ℕ) → n ≤ s.configuration.original_count
        → count_below n (missing_of s message) + count_below n s.originals ≡ n
    below zero h = ap₂ (λ (a b : ℕ). a + b) (count_below-zero (missing_of s message)) (count_below-zero s.originals)
    below (suc n) h =
        ap₂ (λ (a b : ℕ). a + b)
        (count_below-suc n (missing_of s message)
        ∙ ap (λ b. count_below n (missing_of s message) + cond b 1 0) (some-missing s message n (omega arith)))
        (count_below-suc n s.originals)
        ∙ by_test (count_below n (missing_of s message)) (count_below n s.originals) n (below n (omega arith))
        (is_some (s.originals n))

-- The missing shards of a message, in order of index.
abbrev pub missing_shards : DecoderState → List Shard → List Shard
missing_shards s message = shards_listed (items_below s.configuration.original_count (missing_of s message))

missing-lists : (s : DecoderState) (message : List Shard)
    → Lists (missing_of s message) (items_below s.configuration.original_count (missing_of s message))
missing-lists s message =
    record { count = s.configuration.original_count; none_past = missing-past s message; in_order = refl }

-- If a map has the missing shards of a message, its list of shards is the list of the missing shards.
listed-missing : (s : DecoderState) (message : List Shard) {out : Shards} {items : Items}
    → ((i : ℕ) → out i ≡ missing_of s message i) → Lists out items → shards_listed items ≡ missing_shards s message
listed-missing s message {items} missing listing =
    let here : Lists (missing_of s message) items =
    subst (λ (g : Shards). Lists g items) (fun_ext missing) listing in
    ap shards_listed (lists-same here (missing-lists s message))

-- The missing shards of a message are as many as originals are missing.
missing-number : (s : DecoderState) (message : List Shard)
    → length (missing_shards s message) + originals_given s ≡ s.configuration.original_count
missing-number s message = search (rules, length-map, length-listed, count-missing)

-- The missing shards of a message have the shard size.
missing-sized : (s : DecoderState) (message : List Shard) → IsAgreeing s message
    → All (λ x. length x ≡ s.configuration.shard_bytes) (missing_shards s message)
unfolding missing_of
missing-sized s message agrees =
    listed-all (λ x. length x ≡ s.configuration.shard_bytes) s.configuration.original_count 0 (missing_of s message)
    (λ i x is. by_test i x (cases_lt i s.configuration.original_count) (is_some (s.originals i)) is)
  where
    by_test : (i : ℕ) (x : Shard) → (i < s.configuration.original_count) ⊎ (s.configuration.original_count ≤ i)
        → (b : Bool)
        → cond (nat_lt i s.configuration.original_count && not b) (Some (get_or message i [])) None ≡ Some x
        → length x ≡ s.configuration.shard_bytes
    by_test i x (inl inside) true found =
        absurd (let found = rw (lt-ltb i s.configuration.original_count inside) at found in let no : ⊥ = cc in no)
    by_test i x (inl inside) false found =
        let found = rw (lt-ltb i s.configuration.original_count inside) at found in
        ap length (sym (ap (λ o. unwrap_or o x) found))
        ∙ (agrees.shards.each i [] (omega (arith, inside, agrees.shards.length_is))).length_is
    by_test i x (inr past) b found =
        absurd (let found = rw (le-ltb i s.configuration.original_count past) at found in let no : ⊥ = cc in no)

module _ (s : DecoderState) (start end : ℕ) {out : Shards} {items : Items}
    (restored : Restored (state_of_pieces start end s) out) (listing : Lists out items) where
  -- The listed items are the missing pieces.
  items-are : shards_listed items ≡ missing_shards (state_of_pieces start end s) restored.message
  items-are = listed-missing (state_of_pieces start end s) restored.message restored.missing listing

  -- The listed items are as many as originals are missing.
  pub pieces-number : length items + originals_given s ≡ s.configuration.original_count
  pieces-number =
      ap₂ (λ (a b : ℕ). a + b) (sym (length-map items (λ item. item.1)) ∙ ap length items-are)
      (sym (count-pieces start end s.configuration.original_count s.originals))
      ∙ missing-number (state_of_pieces start end s) restored.message

  pub pieces-sized : All (λ x. length x ≡ end - start) (shards_listed items)
  pieces-sized = search (rules, items-are, missing-sized)

module _ {s : DecoderState} {rooms : List Shard} (holds : HoldRestored s rooms) where
  held-are : rooms ≡ missing_shards s holds.restored.message
  held-are = holds.held ∙ listed-missing s holds.restored.message holds.restored.missing holds.listed

  -- Rooms that hold the restored originals are as many as originals are missing.
  pub held-number : length rooms + originals_given s ≡ s.configuration.original_count
  held-number = ap (λ (l : List Shard). length l + originals_given s) held-are ∙ missing-number s holds.restored.message

  -- Rooms that hold the restored originals have the shard size.
  pub held-sized : All (λ x. length x ≡ s.configuration.shard_bytes) rooms
  held-sized =
      subst (λ (l : List Shard). All (λ x. length x ≡ s.configuration.shard_bytes) l) (sym held-are)
      (missing-sized s holds.restored.message holds.restored.agrees)
