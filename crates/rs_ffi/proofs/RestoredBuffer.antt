-- Lemmas about a buffer whose lost originals were restored in their places.
use Rattle.std.proofs.Common.{rules, ◌≡◌, ℕ, suc, ◌+◌, ◌<◌, ◌==◌, cond, List, [], ◌∷◌, ◌++◌, length, map, get_or}
use Rattle.std.proofs.Common.{Option, Some, None, Result, Ok, Err, MatchResult, refl, sym, ap, ◌∙◌, inl, inr, arith}
use Rattle.std.specs.Prelude.{◌⊎◌, OnErr, unwrap_or}
use Rattle.std.proofs.lemmas.Bool.{cases_eq, eq-eqb, ne_eqb}
use Rattle.rs_field.specs.declared.code.error.Error.{Error}
use Rattle.rs_field.specs.declared.code.error.Error.TheVariants.{OutOfMemory}
use Rattle.rs_field.specs.code.Column.{Shard, shard_at}
use Rattle.rs_field.specs.code.Configuration.{start_outcome}
use Rattle.rs_field.specs.code.Counts.{default_rate}
use Rattle.rs_field.specs.code.Decoder.{DecoderState, NoneAgrees, enough_given, missing_of}
use Rattle.rs_field.specs.code.Given.{Shards, Lists, nothing, items_at, items_from, items_below}
use Rattle.rs_field.specs.code.OneCall.{OneDecodeAnswers, default_of}
use Rattle.rs_field.specs.code.Frame.{decoder_rows}
use Rattle.rs_field.specs.code.PieceStates.{shards_listed, HoldRestored}
use Rattle.rs_field.proofs.code_lemmas.Listed.{items_from-zero, items_from-suc}
use Rattle.rs_field.proofs.code_lemmas.ListedMaps.{lists-same}
use Rattle.rs_field.proofs.code_lemmas.MissingShards.{missing-past}
use Rattle.rs_rate.specs.objects.Giving.{IsDecoding}
use Rattle.rs_rate.proofs.objects_lemmas.OneCall.{decoding-refused}
use Rattle.reed_solomon_simd.proofs.RestoringLemmas.{decoding-answered, decoding-few, decoding-none-agrees}
use Rattle.reed_solomon_simd.proofs.RestoringLemmas.{decoding-restored}
use Rattle.rs_ffi.specs.Buffers.{lost_indexes, marked_map, shard_place, with_restored}
use Rattle.rs_ffi.specs.declared.marked_buffers.MarkedBuffers.{MarkedBuffers}
use Rattle.rs_ffi.specs.MarkedState.{besides_rooms, rooms_in}
use Rattle.rs_ffi.proofs.DecodeLemmas.{with-nothing}
use Rattle.rs_ffi.proofs.LostLemmas.{lost-same, with-placed}
use Rattle.rs_ffi.proofs.MarkedLemmas.{present}
use Rattle.rs_ffi.proofs.MarkedState.{AreMarked, map-kept, marked-led, kept, received, state}

-- If a map has the shards of a message at the indexes of the marks that are 0, it lists the shards of the lost indexes.
lost-listed : (out : Shards) (message : List Shard) (i : ℕ) (marks : List ℕ)
    → ((j : ℕ) → j < length marks → out (i + j) ≡ cond (get_or marks j 0 == 0) (Some (shard_at message (i + j))) None)
    → shards_listed (items_from i (length marks) out) ≡ map (λ n. shard_at message n) (lost_indexes i marks)
lost-listed out message i [] each = ap shards_listed (items_from-zero i out)
lost-listed out message i (mark ∷ marks) each =
    let none : i + 0 ≡ i = omega arith in
    let step : suc i ≡ i + 1 = omega arith in
    let here : out i ≡ cond (mark == 0) (Some (shard_at message i)) None =
    ap out (sym none) ∙ each 0 (omega arith) ∙ ap (λ (n : ℕ). cond (mark == 0) (Some (shard_at message n)) None) none in
    let others = lost-listed out message (i + 1) marks (λ j inside.
    let next : i + 1 + j ≡ i + suc j = omega arith in
    ap out next ∙ each (suc j) (omega (arith, inside))
    ∙ ap (λ (n : ℕ). cond (get_or marks j 0 == 0) (Some (shard_at message n)) None) (sym next)) in
    ap shards_listed (items_from-suc i (length marks) out)
    ∙ elim (cases_eq mark 0) [
      | inl lost ↦
          rw (eq-eqb mark 0 lost)
          (ap (λ (o : Option Shard). shards_listed (items_at i o ++ items_from (suc i) (length marks) out))
          (rw (eq-eqb mark 0 lost) at here)
          ∙ ap (λ (n : ℕ). shard_at message i ∷ shards_listed (items_from n (length marks) out)) step
          ∙ ap (λ (l : List Shard). shard_at message i ∷ l) others)
      | inr kept ↦
          rw (ne_eqb mark 0 kept)
          (ap (λ (o : Option Shard). shards_listed (items_at i o ++ items_from (suc i) (length marks) out))
          (rw (ne_eqb mark 0 kept) at here)
          ∙ ap (λ (n : ℕ). shards_listed (items_from n (length marks) out)) step ∙ others)
    ]

module _ {k r size : ℕ} {own originals other recovery : List ℕ} (new : List ℕ)
    (buffers : AreMarked k r size own originals other recovery)
    (long : length new ≡ length originals) (kept : marked_map size own new ≡ marked_map size own originals) where
  -- The place of an original whose mark is not 0 is unchanged.
  place-kept : (j : ℕ) → (get_or own j 0 ≡ 0 → ⊥) → shard_place size new j ≡ shard_place size originals j
  place-kept j marked =
      let both : Some (shard_place size new j) ≡ Some (shard_place size originals j) =
      sym (map-kept size own new j marked) ∙ ap (λ (m : Shards). m j) kept ∙ map-kept size own originals j marked in
      ap (λ o. unwrap_or o (shard_place size new j)) both

  -- The missing shard of a message at an index is the shard of the message if the mark is 0, and there is none
  -- otherwise.
  missing-mark : (message : List Shard) (j : ℕ) → j < k
      → missing_of (state buffers) message j
      ≡ cond (get_or own j 0 == 0) (Some (shard_at message j)) None
  unfolding missing_of
  missing-mark message j inside = search rules

  -- If the places of the lost originals hold the restored originals, the whole buffer is the old buffer with the
  -- restored originals.
  pub buffer-restored :
      (holds : HoldRestored (state buffers)
      (map (λ i. shard_place size new i) (lost_indexes 0 own)))
      → new ≡ with_restored holds.out 0 size k originals
  buffer-restored holds =
      let s : DecoderState = state buffers in
      let message : List Shard = holds.restored.message in
      let by_index : (j : ℕ) → j < k
      → holds.out j ≡ cond (get_or own j 0 == 0) (Some (shard_at holds.restored.message j)) None =
      (λ j inside. holds.restored.missing j ∙ missing-mark message j inside) in
      let lists : Lists holds.out (items_below k holds.out) =
      record {
        count = k;
        none_past = λ i past. holds.restored.missing i ∙ missing-past s message i past;
        in_order =
            refl;
      } in
      let listed : shards_listed (items_below (length own) holds.out)
      ≡ map (λ n. shard_at holds.restored.message n) (lost_indexes 0 own) =
      lost-listed holds.out message 0 own (λ j inside.
      let same : 0 + j ≡ j = omega arith in
      ap holds.out same ∙ by_index j (omega (arith, inside, buffers.own_number))
      ∙ ap (λ (n : ℕ). cond (get_or own j 0 == 0) (Some (shard_at holds.restored.message n)) None) (sym same)) in
      let all : map (λ i. shard_place size new i) (lost_indexes 0 own)
      ≡ map (λ n. shard_at holds.restored.message n) (lost_indexes 0 own) =
      holds.held ∙ ap shards_listed (lists-same holds.listed lists)
      ∙ ap (λ (n : ℕ). shards_listed (items_below n holds.out)) (sym buffers.own_number) ∙ listed in
      with-placed holds.out 0 size k originals new (long ∙ buffers.own_whole) (λ j inside.
      let same : 0 + j ≡ j = omega arith in
      let here : holds.out (0 + j) ≡ cond (get_or own j 0 == 0) (Some (shard_at holds.restored.message j)) None =
      ap holds.out same ∙ by_index j inside in
      let below : j < length own = omega (arith, inside, buffers.own_number) in
      elim (cases_eq (get_or own j 0) 0) [
        | inl lost ↦
            let placed = lost-same (λ i. shard_place size new i) (λ n. shard_at message n) 0 own all j below lost in
            ap (λ (n : ℕ). shard_place size new n) (sym same) ∙ placed
            ∙ ap (λ (n : ℕ). shard_at holds.restored.message n) same
            ∙ sym (ap (λ (o : Option Shard). unwrap_or o (shard_place size originals j))
            (rw (eq-eqb (get_or own j 0) 0 lost) at here))
        | inr marked ↦
            place-kept j marked
            ∙ sym (ap (λ (o : Option Shard). unwrap_or o (shard_place size originals j))
            (rw (ne_eqb (get_or own j 0) 0 marked) at here))
      ])

  -- If the places of the lost originals are unchanged, the whole buffer is unchanged.
  pub buffer-same : map (λ i. shard_place size new i) (lost_indexes 0 own)
      ≡ map (λ i. shard_place size originals i) (lost_indexes 0 own) → new ≡ originals
  buffer-same same =
      with-placed nothing 0 size k originals new (long ∙ buffers.own_whole) (λ j inside.
      let here : 0 + j ≡ j = omega arith in
      let below : j < length own = omega (arith, inside, buffers.own_number) in
      elim (cases_eq (get_or own j 0) 0) [
        | inl lost ↦
            let placed = lost-same (λ i. shard_place size new i)
            (λ i. shard_place size originals i) 0 own same j below lost in
            ap (λ (n : ℕ). shard_place size new n) (sym here) ∙ placed
            ∙ ap (λ (n : ℕ). shard_place size originals n) here
        | inr marked ↦ place-kept j marked
      ])
      ∙ with-nothing 0 size k originals buffers.own_whole

-- ---- the result of one call for the marked shards

module _ {k r size : ℕ} {own originals other recovery : List ℕ}
    (buffers : AreMarked k r size own originals other recovery) (some : 0 < present other) where
  -- The results of one call for the marked shards.
  abbrev Answers : Result Shards Error → Type 0
  Answers = OneDecodeAnswers k r (kept buffers) (received buffers)

  -- If a decoder cannot be set up, one call returns the error.
  pub unset-answers : (e : Error) → start_outcome (decoder_rows default_rate k r) (default_of k r size) ≡ Err e
      → Answers (Err e)
  unset-answers e made = decoding-refused k r _ _ e (marked-led buffers some (Err e) made)

  module _ (made : start_outcome (decoder_rows default_rate k r) (default_of k r size) ≡ Ok tt) where
    leads : IsDecoding k r (kept buffers) (received buffers) (Ok (Some (state buffers)))
    leads = marked-led buffers some (Ok tt) made

    -- The result of restoring into rooms, if this is the outcome of the check that enough shards were given: the rooms
    -- hold the restored originals, or no message agrees with the shards, or memory cannot be allocated.
    abbrev Restores : List Shard → Result (Unit {0}) Error → Result (Unit {0}) Error → Type 0
    Restores rooms o result =
        MatchResult o (λ _. MatchResult result (λ _. HoldRestored (state buffers) rooms)
        (λ e. NoneAgrees (state buffers) e ⊎ (e ≡ OutOfMemory))) (λ e. result ≡ Err e)

    -- The result of restoring into rooms is a result of one call.
    by_outcome : (rooms : List Shard) (o : Result (Unit {0}) Error) → enough_given (state buffers) ≡ o
        → (result : Result (Unit {0}) Error) → Restores rooms o result
        → MatchResult result (λ _. (holds : HoldRestored (state buffers) rooms) × Answers (Ok holds.out))
        (λ e. Answers (Err e))
    by_outcome rooms (Ok u) enough (Ok v) holds =
        (holds, decoding-restored k r _ _ (state buffers) leads enough (Ok holds.out) holds.restored)
    by_outcome rooms (Ok u) enough (Err e) why = decoding-none-agrees k r _ _ (state buffers) leads enough e why
    by_outcome rooms (Err f) few (Ok v) same = absurd (let no : ⊥ = cc in no)
    by_outcome rooms (Err f) few (Err e) same =
        let is : e ≡ f = cc in decoding-few k r _ _ (state buffers) leads e (ap Err is ∙ sym few)

    -- If restoring into rooms fails, one call may fail with the same error.
    pub failed-answers : (rooms : List Shard) (e : Error)
        → Restores rooms (enough_given (state buffers)) (Err e)
        ⊎ (◌≡◌ {A = Result (Unit {0}) Error} (Err e) (Err OutOfMemory))
        → Answers (Err e)
    failed-answers rooms e (inl does) = by_outcome rooms (enough_given (state buffers)) refl (Err e) does
    failed-answers rooms e (inr lacks) =
        let same : e ≡ OutOfMemory = cc in decoding-answered k r _ _ (state buffers) leads (Err e) (inr (ap Err same))

    -- If restoring into rooms succeeds, one call may return the originals that the rooms hold.
    pub done-answers : (rooms : List Shard)
        → Restores rooms (enough_given (state buffers)) (Ok tt)
        ⊎ (◌≡◌ {A = Result (Unit {0}) Error} (Ok tt) (Err OutOfMemory))
        → (holds : HoldRestored (state buffers) rooms) × Answers (Ok holds.out)
    done-answers rooms (inl does) = by_outcome rooms (enough_given (state buffers)) refl (Ok tt) does
    done-answers rooms (inr lacks) = absurd (let no : ⊥ = cc in no)

-- ---- a struct of buffers in which only the places of lost originals were changed

module _ {s : DecoderState} {own lost : List ℕ} {len : ℕ} (y : MarkedBuffers)
    (same : besides_rooms y ≡ (s, own, lost, len)) where
  -- The rooms are the places of the lost indexes.
  pub rooms-placed : lost ≡ lost_indexes 0 own
      → rooms_in y ≡ map (λ i. shard_place s.configuration.shard_bytes y.originals.now i) (lost_indexes 0 own)
  rooms-placed listed = search rules

  -- The marked originals are those of the state.
  pub marked-same : marked_map s.configuration.shard_bytes own y.originals.now ≡ s.originals
  marked-same = search rules

  -- The buffer of the originals has the same length.
  pub length-same : length y.originals.now ≡ len
  length-same = ap (λ t. t.3) same

-- If P implies Q and P holds whenever a call fails, Q holds whenever the call fails.
pub was-done-err : {P Q : Type 0} (result : Result (Unit {0}) Error) → (P → Q) → OnErr result P → OnErr result Q
was-done-err (Ok u) then done = done
was-done-err (Err e) then done = then done
