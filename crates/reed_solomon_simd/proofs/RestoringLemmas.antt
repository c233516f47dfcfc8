-- From rooms that hold the restored originals to the result of decoding into rooms.
use Rattle.std.proofs.Common.{rules, ◌≡◌, ℕ, ◌+◌, ◌==◌, List, [], ◌∷◌, ◌++◌, length, get_or, All, Some, None, Result}
use Rattle.std.proofs.Common.{Ok, Err, MatchResult, true, false, true≢false, refl, sym, ap, ◌∙◌, subst, inl, inr, arith}
use Rattle.std.proofs.lemmas.List.{append-nil, drop_all, ext_get_or}
use Rattle.std.proofs.lemmas.Bool.{ne_eqb}
use Rattle.std.specs.Prelude.{◌⊎◌, OnOk, OnErr}
use Rattle.rs_field.specs.declared.code.error.Error.{Error}
use Rattle.rs_field.specs.declared.code.error.Error.TheVariants.{OutOfMemory}
use Rattle.rs_field.specs.code.Column.{Shard}
use Rattle.rs_field.specs.code.Decoder.{DecoderState, enough_given, originals_given, Restored, NoneAgrees}
use Rattle.rs_field.specs.code.Decoder.{DecodeAnswers}
use Rattle.rs_field.specs.code.Given.{Shards, nothing}
use Rattle.rs_field.specs.code.OneCall.{Items, decode_opening, LacksMemory, OneDecodeAnswers}
use Rattle.rs_rate.specs.objects.Giving.{IsDecoding}
use Rattle.rs_rate.proofs.objects_lemmas.OneCall.{decoding-answers, decoding-nothing, lists-none}
use Rattle.rs_field.specs.code.Pieces.{ArePut}
use Rattle.rs_field.specs.code.PieceStates.{HoldRestored, shards_listed}
use Rattle.reed_solomon_simd.specs.declared.room_error.RoomError.{RoomError}
use Rattle.reed_solomon_simd.specs.declared.room_error.RoomError.TheVariants.{Refused}
use Rattle.reed_solomon_simd.specs.Into.{RestoresInto, DecodesInto, rooms_fit}
use Rattle.reed_solomon_simd.proofs.RoomFits.{fills, fits-many, fits-all}
use Rattle.rs_field.proofs.code_lemmas.MissingShards.{held-number, held-sized}

-- If whole rooms were written, they hold what was written.
pub put-whole : (size : ℕ) (made old new : List Shard) → ArePut 0 size made old new → length made ≡ length old
    → All (λ x. length x ≡ size) old → new ≡ made
put-whole size made old new put number fit =
    ext_get_or [] new made (put.0 ∙ sym number) (λ i h.
    let long = fit i [] (omega (arith, h, put.0)) in
    put.1 i (omega (arith, h, put.0))
    ∙ ap (λ (rest : Shard). get_or made i [] ++ rest) (drop_all size (get_or old i []) (omega (arith, long)))
    ∙ append-nil (get_or made i []))

module _ (s : DecoderState) (enough : enough_given s ≡ Ok tt) where
  -- A decoder with enough shards returns the restored originals, or the error that no message agrees.
  pub enough-answers : (result : Result Shards Error) → MatchResult result (Restored s) (NoneAgrees s)
      → DecodeAnswers s result
  enough-answers result is = search rules

  -- Writing the restored originals into rooms that fit, or returning the error of rooms that do not fit, satisfies
  -- `RestoresInto`.
  pub restores-filled : (made old new : List Shard) (answer : Result (Unit {0}) RoomError) → HoldRestored s made
      → (o : Result (Unit {0}) RoomError) → o ≡ rooms_fit made old
      → MatchResult o (λ _. (answer ≡ Ok tt) × (new ≡ made)) (λ e. (answer ≡ Err e) × (new ≡ old))
      → RestoresInto s old new answer
  restores-filled made old new answer holds o fit does = (
    Ok holds.out,
    inl (enough-answers (Ok holds.out) holds.restored),
    (
      holds.items,
      holds.listed,
      fills (shards_listed holds.items) old new answer o (fit ∙ ap (λ (l : List Shard). rooms_fit l old) holds.held)
          (subst (λ (l : List Shard).
          MatchResult o (λ _. (answer ≡ Ok tt) × (new ≡ l)) (λ e. (answer ≡ Err e) × (new ≡ old))) holds.held does),
    ),
  )

  -- A call that fails because no message agrees or memory is short, and leaves the rooms as they were, satisfies
  -- `RestoresInto`.
  pub restores-refused : (e : Error) (old new : List Shard) (answer : Result (Unit {0}) RoomError) → NoneAgrees s e
      ⊎ (e ≡ OutOfMemory)
      → answer ≡ Err (Refused e) → new ≡ old → RestoresInto s old new answer
  restores-refused e old new answer why refused same = (
    Err e,
    elim why [ inl none ↦ inl (enough-answers (Err e) none) | inr lacks ↦ inr (ap Err lacks) ],
    (refused, same),
  )

-- A decoder with too few shards returns the error of `enough_given`.
pub few-answers : (s : DecoderState) (e : Error) → Err e ≡ enough_given s → DecodeAnswers s (Err e)
few-answers s e few = search rules

pub restores-few : (s : DecoderState) (e : Error) (old new : List Shard) (answer : Result (Unit {0}) RoomError)
    → Err e ≡ enough_given s
    → answer ≡ Err (Refused e) → new ≡ old → RestoresInto s old new answer
restores-few s e old new answer few refused same = (Err e, inl (few-answers s e few), (refused, same))

-- If an error is impossible, the fact that holds after a success holds.
pub was-done : {P : Type 0} (Q : Type 0) (result : Result (Unit {0}) Error) → OnOk result P
    → OnErr result ((false ≡ true) × Q) → P
was-done Q (Ok u) done refused = done
was-done Q (Err e) done refused = absurd (true≢false (sym refused.0))

-- A consequence of the fact that holds after a success also holds after a success.
pub was-done-if : {P Q : Type 0} (result : Result (Unit {0}) Error) → (P → Q) → OnOk result P → OnOk result Q
was-done-if (Ok u) then done = then done
was-done-if (Err e) then done = done

-- Rooms of the shard size, one for each missing original, fit the restored originals.
pub restored-fit : (s : DecoderState) (made old : List Shard) → HoldRestored s made
    → length old + originals_given s ≡ s.configuration.original_count
    → All (λ x. length x ≡ s.configuration.shard_bytes) old → rooms_fit made old ≡ Ok tt
restored-fit s made old holds number fit =
    let many = held-number holds in
    fits-many made old (omega (arith, many, number))
    ∙ fits-all s.configuration.shard_bytes made old (held-sized holds) (λ i h. fit i [] h)

-- ---- one call

module _ (k r : ℕ) (originals recovery : Items) (s : DecoderState)
    (is : IsDecoding k r originals recovery (Ok (Some s))) where
  -- If memory is short after a decoder was set up, one call may fail with `OutOfMemory`.
  pub decoding-short : {T : Type 0} (result : Result T Error) → result ≡ Err OutOfMemory
      → LacksMemory (decode_opening k r recovery) result
  decoding-short result lacks = search rules

  -- The result of the decoder, or `OutOfMemory`, is a result of one call.
  pub decoding-answered : (result : Result Shards Error) → DecodeAnswers s result ⊎ (result ≡ Err OutOfMemory)
      → OneDecodeAnswers k r originals recovery result
  decoding-answered result (inl answers) = decoding-answers k r originals recovery s is result answers
  decoding-answered result (inr lacks) = inr (decoding-short result lacks)

  -- The error of too few shards is a result of one call.
  pub decoding-few : (e : Error) → Err e ≡ enough_given s → OneDecodeAnswers k r originals recovery (Err e)
  decoding-few e few = decoding-answered (Err e) (inl (few-answers s e few))

  -- The error that no message agrees, or `OutOfMemory`, is a result of one call.
  pub decoding-none-agrees : enough_given s ≡ Ok tt → (e : Error) → NoneAgrees s e ⊎ (e ≡ OutOfMemory)
      → OneDecodeAnswers k r originals recovery (Err e)
  decoding-none-agrees enough e (inl none) = decoding-answered (Err e) (inl (enough-answers s enough (Err e) none))
  decoding-none-agrees enough e (inr lacks) = decoding-answered (Err e) (inr (ap Err lacks))

  -- The restored originals, or `OutOfMemory` for their copies, are a result of one call.
  pub decoding-restored : enough_given s ≡ Ok tt → (result : Result Shards Error)
      → MatchResult result (Restored s) (λ e. e ≡ OutOfMemory) → OneDecodeAnswers k r originals recovery result
  decoding-restored enough (Ok out) restored =
      decoding-answered (Ok out) (inl (enough-answers s enough (Ok out) restored))
  decoding-restored enough (Err e) lacks = decoding-answered (Err e) (inr (ap Err lacks))

-- ---- into rooms

-- An error of one call, with unchanged rooms, satisfies `DecodesInto`.
pub decodes-refused : (k r : ℕ) (originals recovery : Items) (e : Error) (old : List Shard)
    (answer : Result (Unit {0}) RoomError)
    → OneDecodeAnswers k r originals recovery (Err e) → answer ≡ Err (Refused e)
    → DecodesInto k r originals recovery old old answer
decodes-refused k r originals recovery e old answer one refused = (Err e, one, (refused, refl))

-- If no original is missing, the call succeeds only without rooms.
pub decodes-nothing : (k r : ℕ) (originals recovery : Items) (old : List Shard) (answer : Result (Unit {0}) RoomError)
    → IsDecoding k r originals recovery (Ok None)
    → answer ≡ rooms_fit [] old → DecodesInto k r originals recovery old old answer
decodes-nothing k r originals recovery old answer is fit = (
  Ok nothing,
  decoding-nothing k r originals recovery is,
  ([], lists-none, fills [] old old answer (rooms_fit [] old) refl (by_rooms old fit)),
)
  where
    by_rooms : (old : List Shard) → answer ≡ rooms_fit [] old
        → MatchResult (rooms_fit [] old) (λ _. (answer ≡ Ok tt) × (old ≡ [])) (λ e. (answer ≡ Err e) × (old ≡ old))
    by_rooms [] fit = (fit, refl)
    by_rooms (room ∷ rooms) fit =
        let some : (0 == length (room ∷ rooms)) ≡ false =
        ne_eqb 0 (length (room ∷ rooms)) (λ none. omega (arith, none)) in rw some (rw some at fit, refl)

-- Restoring into rooms what one call returns satisfies `DecodesInto`.
pub decodes-restored : (k r : ℕ) (originals recovery : Items) (s : DecoderState) (old new : List Shard)
    (answer : Result (Unit {0}) RoomError)
    → IsDecoding k r originals recovery (Ok (Some s)) → RestoresInto s old new answer
    → DecodesInto k r originals recovery old new answer
decodes-restored k r originals recovery s old new answer is (decoded, either, rest) =
    (decoded, decoding-answered k r originals recovery s is decoded either, rest)
