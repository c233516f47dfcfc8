-- How the change of an original is added to recovery shards, piece by piece.
use Rattle.std.proofs.Common.{rules, ◌≡◌, ℕ, ◌+◌, ◌-◌, ◌*◌, ◌/◌, ◌%◌, ◌<◌, ◌≤◌, ◌⊎◌, List, [], ◌++◌, length, take, drop}
use Rattle.std.proofs.Common.{min, bit_xor, All, MutBor, set, sym, ap, ap₂, subst, ◌∙◌, inl, inr, arith}
use Rattle.std.proofs.lemmas.Grind.{common_steps}
use Rattle.std.specs.Prelude.{slice_index, Result, Ok, Err, MatchResult, true}
use borrow.Rule.Slice.PartMut.{put_mid}
use Rattle.std.specs.List.{between}
use Rattle.std.proofs.lemmas.Bool.{cases_lt}
use Rattle.std.proofs.lemmas.List.{get_or_past, length-take-le, length-drop, drop-drop, map-set, length-map}
use Rattle.std.proofs.lemmas.List.{get_or_default}
use Rattle.std.proofs.Math.Seq.{take-append_seam, drop-append_seam}
use Rattle.rs_field.specs.words.Field.{product, power}
use Rattle.rs_field.specs.code.Column.{Shard, IsShard, shard_at, column, chunk_words}
use Rattle.rs_field.specs.code.Pieces.{IsStrip}
use Rattle.rs_field.proofs.code_lemmas.Columns.{column-at, columns-at, byte_lt, shards_from_columns}
use Rattle.rs_field.proofs.code_lemmas.Pieces.{column-head, column-rest, column-piece}
use Rattle.rs_field.proofs.words_lemmas.Packed.{sum_of_bytes}
use Rattle.std.specs.Result.{result_map_both}
use Rattle.rs_field.specs.declared.code.error.Error.{Error}
use Rattle.rs_field.specs.declared.code.error.Error.TheVariants.{OutOfMemory}
use Rattle.rs_field.specs.code.Code.{AreRecovery}
use Rattle.rs_field.specs.code.Counts.{default_rate, supports}
use Rattle.rs_field.specs.code.OneCall.{default_of}
use Rattle.rs_field.specs.code.OneChange.{AreChangeFactors}
use Rattle.rs_field.specs.code.Outcome.{result_and_then}
use Rattle.rs_field.proofs.code_lemmas.MadeShards.{has_recovery}
use Rattle.reed_solomon_simd.specs.declared.room_error.RoomError.{RoomError}
use Rattle.reed_solomon_simd.specs.declared.room_error.RoomError.TheVariants.{Refused}
use Rattle.reed_solomon_simd.specs.Into.{rooms_fit}
use Rattle.reed_solomon_simd.specs.Rooms.{bytes_in}
use Rattle.reed_solomon_simd.specs.Updated.{AddsToStrip, IsChanged, IsChangedStrip, UpdatesShards, AddsChange}
use Rattle.reed_solomon_simd.specs.Updated.{UpdatesInto}
use Rattle.reed_solomon_simd.specs.Updated.{change_outcome}
use Rattle.reed_solomon_simd.specs.Updated.{update_outcome}
use Rattle.reed_solomon_simd.proofs.ReconstructLemmas.{zeros}

-- If each byte of a shard is the XOR of two bytes, each word is the XOR of two words.
pub column-xor : (size j : ℕ) (s t u : Shard) → IsShard size s → IsShard size t → length u ≡ size
    → ((i : ℕ) → i < size → slice_index u i ≡ bit_xor (slice_index s i) (slice_index t i))
    → column j u ≡ bit_xor (column j s) (column j t)
column-xor size j s t u hs ht hu bytes =
    let q : ℕ = j / 32 in let i : ℕ = j % 32 in
    let parts : j ≡ j / 32 * 32 + j % 32 = omega arith in
    let own : length s ≡ size = hs.length_is in let other : length t ≡ size = ht.length_is in
    let words_s : chunk_words u (j / 32 * 64) ≡ chunk_words s (j / 32 * 64) =
    ap (λ (n : ℕ). min 64 (n - j / 32 * 64) / 2) (hu ∙ sym own) in
    let words_t : chunk_words u (j / 32 * 64) ≡ chunk_words t (j / 32 * 64) =
    ap (λ (n : ℕ). min 64 (n - j / 32 * 64) / 2) (hu ∙ sym other) in
    let high : ℕ = q * 64 + i + chunk_words u (q * 64) in
    ap (λ (c : ℕ). column c u) parts
    ∙ column-at q i u (omega arith)
    ∙ ap₂ (λ (x y : ℕ). x + 256 * y) (each (q * 64 + i)) (each high)
    ∙ sum_of_bytes (slice_index s (q * 64 + i)) (slice_index s high) (slice_index t (q * 64 + i)) (slice_index t high)
    (byte_lt hs (q * 64 + i)) (byte_lt ht (q * 64 + i))
    ∙ ap₂ bit_xor
    (ap (λ (w : ℕ). slice_index s (q * 64 + i) + 256 * slice_index s (q * 64 + i + w)) words_s
    ∙ sym (column-at q i s (omega arith)) ∙ ap (λ (c : ℕ). column c s) (sym parts))
    (ap (λ (w : ℕ). slice_index t (q * 64 + i) + 256 * slice_index t (q * 64 + i + w)) words_t
    ∙ sym (column-at q i t (omega arith)) ∙ ap (λ (c : ℕ). column c t) (sym parts))
  where
    each : (n : ℕ) → slice_index u n ≡ bit_xor (slice_index s n) (slice_index t n)
    each n = elim (cases_lt n size) [
      | inl inside ↦ bytes n inside
      | inr past ↦
          get_or_past u n 0 (omega (arith, past, hu))
          ∙ sym (ap₂ bit_xor (get_or_past s n 0 (let l = hs.length_is in omega (arith, past, l)))
          (get_or_past t n 0 (let l = ht.length_is in omega (arith, past, l))))
    ]

-- Column j of a shard after the change.
abbrev changed_at : Shard → Shard → ℕ → Shard → ℕ → ℕ
changed_at old new log before j =
    bit_xor (column j before) (product (bit_xor (column j old) (column j new)) (power log))

-- The first `start` bytes of a shard are changed, and the others are those of the shard before.
pub record IsChangedBelow (start : ℕ) (old new : Shard) (log : ℕ) (before now : Shard) : Type 0 where
  pub length_is : length now ≡ length before
  pub bytes : (start ≡ 0) ⊎ All (λ b. b < 256) now
  pub begins : (start % 64 ≡ 0) ⊎ (start ≡ length before)
  pub below : (j : ℕ) → j < start / 2 → column j now ≡ changed_at old new log before j
  pub above : drop start now ≡ drop start before

-- The bytes of a piece of a shard.
pub length-piece : (start end : ℕ) (s : Shard) → end ≤ length s → length (between start end s) ≡ end - start
length-piece start end s within =
    let rest = length-drop start s in length-take-le (end - start) (drop start s) (omega (arith, rest, within))

-- A shard whose bytes from `start` up to `end` are replaced.
pub put-piece : (start width end : ℕ) (s piece : Shard) → start + width ≡ end → start ≤ length s
    → length piece ≡ width → put_mid start width s piece ≡ take start s ++ (piece ++ drop end s)
put-piece start width end s piece ends within sized = grind (arith, common_steps)

-- The parts of a list whose middle part is replaced.
module _ (start end : ℕ) (now piece after : Shard) (order : start ≤ end) (within : end ≤ length now)
    (sized : length piece ≡ end - start) (is : after ≡ take start now ++ (piece ++ drop end now)) where
  abbrev tail : List ℕ
  tail = piece ++ drop end now

  front : length (take start now) ≡ start
  front = length-take-le start now (omega (arith, order, within))

  pub head-kept : take start after ≡ take start now
  head-kept = search (rules, front, take-append_seam)

  behind : drop start after ≡ tail
  behind = search (rules, front, drop-append_seam)

  pub middle-is : between start end after ≡ piece
  middle-is = search (rules, behind, take-append_seam)

  pub rest-kept : drop end after ≡ drop end now
  rest-kept =
      ap (λ (n : ℕ). drop n after) (let e : end ≡ start + (end - start) = omega (arith, order) in e)
      ∙ sym (drop-drop (end - start) start after)
      ∙ ap (drop (end - start)) behind
      ∙ ap (λ (n : ℕ). drop n tail) (sym sized)
      ∙ drop-append_seam piece (drop end now)

-- If the next strip is changed, the bytes up to its end are.
pub changed-more : (start end : ℕ) (old new : Shard) (log : ℕ) (before now after : Shard)
    → IsChangedBelow start old new log before now → IsStrip start end (length before)
    → length old ≡ length before → length new ≡ length before → IsChangedStrip start end old new log now after
    → IsChangedBelow end old new log before after
changed-more start end old new log before now after is strip same_old same_new adds =
    record {
      length_is = long;
      bytes = inr adds.bytes;
      begins = strip.ends;
      below = λ j h. elim (cases_lt j (start / 2)) [
        | inl first ↦ early j first
        | inr later ↦
            let begins = strip.begins in
            let place : start / 2 + (j - start / 2) ≡ j = omega (arith, later) in
            subst (λ (n : ℕ). column n after ≡ changed_at old new log before n) place
            (late (j - start / 2) (omega (arith, h, later, begins)))
      ];
      above = adds.rest
          ∙ ap (λ (n : ℕ). drop n now) (sym parts)
          ∙ sym (drop-drop (end - start) start now) ∙ ap (drop (end - start)) is.above
          ∙ drop-drop (end - start) start before
          ∙ ap (λ (n : ℕ). drop n before) parts;
    }
  where
    parts : start + (end - start) ≡ end
    parts = let o = strip.order in omega (arith, o)

    begin : start ≤ length before
    begin = let o = strip.order in let inside = strip.inside in omega (arith, o, inside)

    long : length after ≡ length before
    long = adds.length_is ∙ is.length_is

    early : (j : ℕ) → j < start / 2 → column j after ≡ changed_at old new log before j
    early j h =
        sym (column-head start j after strip.begins (omega (arith, long, begin)) h)
        ∙ ap (column j) adds.first
        ∙ column-head start j now strip.begins (let l = is.length_is in omega (arith, l, begin)) h ∙ is.below j h

    late : (i : ℕ) → i < (end - start) / 2
        → column (start / 2 + i) after ≡ changed_at old new log before (start / 2 + i)
    late i h =
        sym (column-piece start end i after (subst (IsStrip start end) (sym long) strip) h)
        ∙ adds.words i h
        ∙ ap₂ bit_xor
        (column-piece start end i now (subst (IsStrip start end) (sym is.length_is) strip) h
        ∙ sym (column-rest start i now strip.begins) ∙ ap (column i) is.above
        ∙ column-rest start i before strip.begins)
        (ap₂ (λ (x y : ℕ). product (bit_xor x y) (power log))
        (column-piece start end i old (subst (IsStrip start end) (sym same_old) strip) h)
        (column-piece start end i new (subst (IsStrip start end) (sym same_new) strip) h))

-- A change that is the XOR of two strips is the change of a strip.
pub strip-changed : (start end : ℕ) (old new change : Shard) (log : ℕ) (before after : Shard)
    → length change ≡ end - start
    → ((j : ℕ) → j < length change / 2
    → column j change ≡ bit_xor (column j (between start end old)) (column j (between start end new)))
    → AddsToStrip start end change log before after → IsChangedStrip start end old new log before after
strip-changed start end old new change log before after sized words adds = record {
  length_is = adds.length_is;
  bytes = adds.bytes;
  first = adds.first;
  rest = adds.rest;
  words = λ j h.
      let inside : j < length change / 2 = omega (arith, h, sized) in
      adds.words j inside
      ∙ ap (λ (w : ℕ). bit_xor (column j (between start end before)) (product w (power log))) (words j inside);
}

-- ---- all recovery shards

-- The shards in rooms, after one room was replaced.
pub shard-set : (rooms : List (MutBor (List ℕ))) (index i : ℕ) (room : MutBor (List ℕ)) → index < length rooms
    → i ≡ index → shard_at (bytes_in (set rooms index room)) i ≡ room.now
shard-set rooms index i room inside same = search (rules, length-map, map-set)

pub shard-kept : (rooms : List (MutBor (List ℕ))) (index i : ℕ) (room : MutBor (List ℕ)) → (i ≡ index → ⊥)
    → shard_at (bytes_in (set rooms index room)) i ≡ shard_at (bytes_in rooms) i
shard-kept rooms index i room other = search (rules, map-set)

-- Changed recovery shards are those of the changed message.
pub updates-changed : (k r index : ℕ) (old new : Shard) (factors : List ℕ) (before after : List Shard)
    → supports default_rate k r ≡ true → length old % 2 ≡ 0 → AreChangeFactors default_rate k r index factors
    → length after ≡ r → ((i : ℕ) → i < r → length (shard_at before i) ≡ length old)
    → ((i : ℕ) → i < r → IsChanged old new (slice_index factors i) (shard_at before i) (shard_at after i))
    → UpdatesShards k r index old new before after
updates-changed k r index old new factors before after supported even are number sized changes
    message changed shards changed_shards only own other coded =
    let size : ℕ = length old in
    let (all, made) = has_recovery (default_of k r size) changed supported even changed_shards in
    let each : (i : ℕ) → i < r → IsShard (length old) (shard_at after i) =
    λ i h. record { length_is = (changes i h).length_is ∙ sized i h; bytes = (changes i h).bytes } in
    let same : after ≡ all =
    shards_from_columns
    (record {
      length_is = number;
      each = λ i d h. subst (IsShard (length old)) (sym (get_or_default after i d [] h))
          (each i (subst (λ (n : ℕ). i < n) number h));
    }) made.shards even
    (λ i j hi hj. columns-at j after i
    ∙ (changes i hi).words j (subst (λ (n : ℕ). j < n / 2) (sym (sized i hi)) hj)
    ∙ ap₂ (λ (x y : Shard). bit_xor (column j (shard_at before i))
    (product (bit_xor (column j x) (column j y)) (power (slice_index factors i)))) (sym own) (sym other)
    ∙ sym (are.change size i j message changed before all shards changed_shards only coded made hi hj)
    ∙ sym (columns-at j all i)) in
    subst (AreRecovery (default_of k r size) changed) (sym same) made

-- ---- the result of `update_into`

module _ (k r index : ℕ) (old new : Shard) (before : List (List ℕ)) where
  -- What `update_into` does, if this is the outcome of the checks.
  abbrev Does : List (List ℕ) → Result (Unit {0}) RoomError → Result (Unit {0}) RoomError → Type 0
  Does after answer o =
      MatchResult o (λ _. ((answer ≡ Ok tt) × UpdatesShards k r index old new before after
      × AddsChange k r index old new before after)
      ⊎ ((answer ≡ Err (Refused OutOfMemory)) × (after ≡ before)))
      (λ e. (answer ≡ Err e) × (after ≡ before))

  pub updates-by : (after : List (List ℕ)) (o answer : Result (Unit {0}) RoomError)
      → update_outcome k r index (length old) (length new) before ≡ o → Does after answer o
      → UpdatesInto k r index old new before after answer
  updates-by after o answer is does = subst (Does after answer) (sym is) does

  -- The outcome is that of checking the change, or else that of checking the rooms.
  abbrev after_change : Result (Unit {0}) Error → Result (Unit {0}) RoomError
  after_change o =
      result_and_then (λ (u : Unit {0}). rooms_fit (zeros r (length old)) before) (result_map_both (λ u. u) Refused o)

  pub outcome-rooms : (o : Result (Unit {0}) RoomError) → Ok tt ≡ change_outcome k r index (length old) (length new)
      → o ≡ rooms_fit (zeros r (length old)) before
      → update_outcome k r index (length old) (length new) before ≡ o
  outcome-rooms o is fits = ap after_change (sym is) ∙ sym fits
