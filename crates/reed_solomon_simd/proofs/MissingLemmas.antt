-- The names of the missing originals, in order of index, and what rooms hold after these were rebuilt.
use Rattle.std.proofs.Common.{rules, ◌≡◌, ℕ, ◌+◌, ◌<◌, ◌≤◌, Bool, true, false, cond, List, [], ◌∷◌, ◌++◌, length}
use Rattle.std.proofs.Common.{get_or, Option, Some, None, refl, sym, ap, ap₂, ◌∙◌, inl, inr, arith, append-nil, add-one}
use Rattle.std.proofs.Common.{subst, zero, suc, map, All, Result, Ok, Err}
use Rattle.std.proofs.Math.Path.{fun_ext}
use Rattle.std.specs.Prelude.{◌&&◌, not, is_some}
use Rattle.std.proofs.lemmas.Bool.{cases_lt, le-ltb}
use Rattle.std.proofs.lemmas.List.{length-append, get_or_append_left, map-append}
use Rattle.std.proofs.Math.Seq.{get_or-append_seam}
use Rattle.rs_field.specs.declared.code.error.Error.{Error}
use Rattle.rs_field.specs.code.Column.{Shard, shard_at}
use Rattle.rs_field.specs.code.Decoder.{DecoderState, Restored, missing_of}
use Rattle.rs_field.specs.code.Given.{Shards, Lists, count_below, items_at, items_below}
use Rattle.rs_field.specs.code.OneCall.{Items}
use Rattle.rs_field.specs.code.PieceStates.{pieces_of, state_of_pieces, shards_listed, HoldRestored}
use Rattle.rs_field.proofs.code_lemmas.Given.{count_below-zero, count_below-suc}
use Rattle.rs_field.proofs.code_lemmas.ListedMaps.{lists-same}
use Rattle.rs_field.proofs.code_lemmas.PieceStates.{is_some-map}
use Rattle.rs_field.proofs.code_lemmas.Listed.{items_from-zero, items_from-more}
use Rattle.rs_rate.proofs.rows_lemmas.AddedShards.{none_of}
use Rattle.reed_solomon_simd.specs.declared.shard_index.ShardIndex.{ShardIndex}
use Rattle.reed_solomon_simd.specs.declared.shard_index.ShardIndex.TheVariants.{Original}
use Rattle.reed_solomon_simd.specs.Making.{missing_below, missing_names, Makes, MakesMissing}
use Rattle.reed_solomon_simd.specs.Reconstructed.{AreReconstructed, CanBeRebuilt, IsMissing, NamesMissing}
use Rattle.reed_solomon_simd.specs.ShardNames.{shard_named}
use Rattle.reed_solomon_simd.proofs.RebuiltStrips.{missing-there}

-- The missing originals of a message are those that were not received.
missing-not : (s : DecoderState) (message : List Shard) (i : ℕ) → is_some (s.originals i) ≡ true
    → missing_of s message i ≡ None
unfolding missing_of
missing-not s message i some = search rules

missing-past : (s : DecoderState) (message : List Shard) (i : ℕ) → s.configuration.original_count ≤ i
    → missing_of s message i ≡ None
unfolding missing_of
missing-past s message i past =
    ap (λ (b : Bool). cond (b && not (is_some (s.originals i))) (Some (shard_at message i)) None)
    (le-ltb i s.configuration.original_count past)

-- The listed shards below n + 1 are those below n, and the shard n if there is one.
listed-more : (n : ℕ) (given : Shards)
    → items_below (n + 1) given ≡ items_below n given ++ items_at n (given n)
listed-more n given =
    ap (λ m. items_below m given) (add-one n) ∙ items_from-more 0 n given
    ∙ ap (λ m. items_below n given ++ items_at m (given m)) (let e : 0 + n ≡ n = omega arith in e)

-- Missing originals can be rebuilt.
pub rebuilt-one : (s : DecoderState) (w : ShardIndex) → IsMissing s w → CanBeRebuilt s w
rebuilt-one s w (index, inside, none, is) = subst (CanBeRebuilt s) (sym is) (inside, none)

pub missing-rebuilt : (s : DecoderState) (wanted : List ShardIndex) → All (IsMissing s) wanted
    → All (CanBeRebuilt s) wanted
missing-rebuilt s wanted all = λ i d h. rebuilt-one s (get_or wanted i d) (all i d h)

pub names-none : (s : DecoderState) → NamesMissing 0 s []
names-none s = search (rules, count_below-zero, items_from-zero)

-- If original n was received, the names below n are those below n + 1.
pub names-received : (n : ℕ) (s : DecoderState) (wanted : List ShardIndex) → NamesMissing n s wanted
    → is_some (s.originals n) ≡ true → NamesMissing (n + 1) s wanted
names-received n s wanted names some = record {
  each = names.each;
  number = ap (λ c. length wanted + c) (ap (λ m. count_below m s.originals) (add-one n) ∙ count_below-suc n s.originals)
      ∙ ap (λ (b : Bool). length wanted + (count_below n s.originals + cond b 1 0)) some
      ∙ (let number = names.number in omega (arith, number));
  named = λ message recovery.
      names.named message recovery
      ∙ ap shards_listed
      (sym (listed-more n (missing_of s message)
      ∙ ap (λ o. items_below n (missing_of s message) ++ items_at n o) (missing-not s message n some)
      ∙ append-nil (items_below n (missing_of s message))));
}

-- If original n is missing, its name comes next.
pub names-missing : (n : ℕ) (s : DecoderState) (wanted : List ShardIndex) → NamesMissing n s wanted
    → n < s.configuration.original_count → is_some (s.originals n) ≡ false
    → NamesMissing (n + 1) s (wanted ++ Original n ∷ [])
names-missing n s wanted names inside not =
    let none = none_of (s.originals n) not in
    let long : length (wanted ++ Original n ∷ []) ≡ length wanted + 1 = length-append wanted (Original n ∷ []) in
    record {
      each = λ i d h. elim (cases_lt i (length wanted)) [
        | inl earlier ↦
            subst (IsMissing s) (sym (get_or_append_left wanted (Original n ∷ []) d i earlier))
            (names.each i d earlier)
        | inr late ↦
            let here : i ≡ length wanted = omega (arith, h, late, long) in
            subst (IsMissing s)
            (sym (ap (λ (m : ℕ). get_or (wanted ++ Original n ∷ []) m d) here
            ∙ get_or-append_seam wanted (Original n) [] d))
            (n, inside, none, refl)
      ];
      number = ap₂ (λ (a b : ℕ). a + b) long
          (ap (λ m. count_below m s.originals) (add-one n) ∙ count_below-suc n s.originals
          ∙ ap (λ (o : Option Shard). count_below n s.originals + cond (is_some o) 1 0) none)
          ∙ (let number = names.number in omega (arith, number));
      named = λ message recovery.
          map-append (shard_named message recovery) wanted (Original n ∷ [])
          ∙ ap (λ l. l ++ shard_at message n ∷ []) (names.named message recovery)
          ∙ sym (map-append (λ item. item.1) (items_below n (missing_of s message)) ((n, shard_at message n) ∷ []))
          ∙ ap shards_listed
          (sym (listed-more n (missing_of s message)
          ∙ ap (λ o. items_below n (missing_of s message) ++ items_at n o)
          (missing-there s message n inside none)));
    }

-- Rooms that hold the rebuilt missing originals hold what a decode restores.
pub rebuilt-restored : (s : DecoderState) (wanted : List ShardIndex) (rooms : List Shard)
    → NamesMissing s.configuration.original_count s wanted → AreReconstructed s wanted rooms → HoldRestored s rooms
rebuilt-restored s wanted rooms names made = record {
  out = missing_of s made.message;
  restored = record {
    message = made.message;
    agrees = made.agrees;
    only = made.only;
    missing = λ i. refl;
  };
  items = items_below s.configuration.original_count (missing_of s made.message);
  listed = record {
    count = s.configuration.original_count;
    none_past = λ i past. missing-past s made.message i past;
    in_order = refl;
  };
  held = made.named ∙ names.named made.message made.agrees.coded.0;
}

-- The names of the missing originals below n name them.
pub names-below : (s : DecoderState) (n : ℕ) → n ≤ s.configuration.original_count
    → NamesMissing n s (missing_below n s.originals)
names-below s zero most = names-none s
names-below s (suc n) most =
    let before = names-below s n (omega (arith, most)) in
    subst (λ (m : ℕ). NamesMissing m s (missing_below (suc n) s.originals)) (add-one n)
    (by_test (is_some (s.originals n)) refl before)
  where
    by_test : (b : Bool) → is_some (s.originals n) ≡ b → NamesMissing n s (missing_below n s.originals)
        → NamesMissing (n + 1) s (missing_below n s.originals ++ cond b [] (Original n ∷ []))
    by_test true some before =
        subst (NamesMissing (n + 1) s) (sym (append-nil (missing_below n s.originals)))
        (names-received n s (missing_below n s.originals) before some)
    by_test false not before =
        names-missing n s (missing_below n s.originals) before (omega (arith, most)) not

-- All missing originals are named.
pub names-all : (s : DecoderState) → NamesMissing s.configuration.original_count s (missing_names s)
names-all s = names-below s s.configuration.original_count (omega arith)

-- The same originals are missing in each strip.
names-pieces : (start end n : ℕ) (given : Shards)
    → missing_below n (pieces_of start end given) ≡ missing_below n given
names-pieces start end zero given = refl
names-pieces start end (suc n) given =
    ap₂ (λ (l : List ShardIndex) (b : Bool). l ++ cond b [] (Original n ∷ [])) (names-pieces start end n given)
    (is_some-map start end (given n))

-- What a decode restores are the missing originals.
pub restored-named : (start end : ℕ) (s : DecoderState) (out : Shards) (items : Items)
    → Restored (state_of_pieces start end s) out → Lists out items
    → AreReconstructed (state_of_pieces start end s) (missing_names s) (shards_listed items)
restored-named start end s out items restored listing =
    let strip = state_of_pieces start end s in
    let k : ℕ = s.configuration.original_count in
    let here : Lists (missing_of strip restored.message) items =
    subst (λ (g : Shards). Lists g items) (fun_ext restored.missing) listing in
    let all : Lists (missing_of strip restored.message) (items_below k (missing_of strip restored.message)) = record {
      count = k;
      none_past = λ i past. missing-past strip restored.message i past;
      in_order = refl;
    } in
    record {
      message = restored.message;
      agrees = restored.agrees;
      only = restored.only;
      named = ap shards_listed (lists-same here all)
          ∙ sym ((names-all strip).named restored.message restored.agrees.coded.0)
          ∙ ap (map (shard_named restored.message restored.agrees.coded.0)) (names-pieces start end k s.originals);
    }

-- Making the named missing originals is making the missing originals.
pub makes-missing : (grows : Bool) (s : DecoderState) (wanted : List ShardIndex) (old new : List Shard)
    (result : Result (Unit {0}) Error) → NamesMissing s.configuration.original_count s wanted
    → Makes grows s wanted old new result → MakesMissing grows s old new result
makes-missing grows s wanted old new (Ok u) names made = rebuilt-restored s wanted new names made
makes-missing grows s wanted old new (Err e) names made = made
