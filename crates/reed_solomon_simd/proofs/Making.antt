-- The loop over strips: what is made after some strips, and after all.
use Rattle.std.proofs.Common.{◌≡◌, ℕ, Bool, true, false, List, length, sym, ap, ◌∙◌, subst}
use Rattle.std.proofs.Common.{inl, inr, Result, Ok, Err, ◌+◌, arith}
use Rattle.std.specs.Prelude.{◌⊎◌, OnOk, OnErr, IfErr, MatchResult}
use Rattle.rs_field.specs.declared.code.error.Error.{Error}
use Rattle.rs_field.specs.declared.code.error.Error.TheVariants.{OutOfMemory}
use Rattle.rs_field.specs.code.Column.{Shard}
use Rattle.rs_field.specs.code.Decoder.{DecoderState, NoneAgrees, originals_given, recovery_given}
use Rattle.rs_field.specs.code.Pieces.{IsStrip, ArePut}
use Rattle.rs_field.specs.code.PieceStates.{state_of_pieces}
use Rattle.rs_field.proofs.code_lemmas.MissingShards.{none-pieces}
use Rattle.reed_solomon_simd.specs.declared.shard_index.ShardIndex.{ShardIndex}
use Rattle.reed_solomon_simd.specs.Making.{CanMake, AreRooms}
use Rattle.reed_solomon_simd.specs.Reconstructed.{AreReconstructed}
use Rattle.reed_solomon_simd.proofs.RebuiltStrips.{IsRebuiltBelow, rebuilt-further}

-- A strip of received shards that are those of the first strip, with the same wanted shards.
module _ (x now : DecoderState) (wanted names : List ShardIndex) (same : now ≡ x) (alike : names ≡ wanted) where
  pub still-can : CanMake x wanted → CanMake now names
  still-can can =
      subst (λ (s : DecoderState). CanMake s names) (sym same)
      (subst (λ (l : List ShardIndex). CanMake x l) (sym alike) can)

  pub still-rooms : (grows : Bool) (start : ℕ) (rooms : List Shard) → IsRebuiltBelow x wanted grows start rooms
      → AreRooms grows start now.configuration.shard_bytes (length names) rooms
  still-rooms grows start rooms done =
      subst (λ (s : DecoderState). AreRooms grows start s.configuration.shard_bytes (length names) rooms) (sym same)
      (record { number = done.number ∙ ap length (sym alike); fit = done.fit })

  pub made-further : (grows : Bool) (start end : ℕ) (old new : List Shard)
      → IsStrip start end x.configuration.shard_bytes
      → CanMake x wanted
      → (made : List Shard) × AreReconstructed (state_of_pieces start end now) names made
      × ArePut start end made old new
      → IsRebuiltBelow x wanted grows start old → IsRebuiltBelow x wanted grows end new
  made-further grows start end old new strip can put done =
      let here : AreReconstructed (state_of_pieces start end x) wanted put.0 =
      subst (λ (s : DecoderState). AreReconstructed (state_of_pieces start end s) wanted put.0) same
      (subst (λ (l : List ShardIndex). AreReconstructed (state_of_pieces start end now) l put.0) alike put.1) in
      rebuilt-further x can.set_up wanted can.can grows start end strip put.0 here old new put.2 done

-- If a strip fails, no message agrees with the received shards, or a room cannot grow.
pub refused-all : (x now : DecoderState) (grows : Bool) (start end : ℕ) (old new : List Shard) → now ≡ x
    → IsStrip start end x.configuration.shard_bytes → (e : Error)
    → NoneAgrees (state_of_pieces start end now) e ⊎ ((grows ≡ true) × (e ≡ OutOfMemory))
    → NoneAgrees x e ⊎ ((e ≡ OutOfMemory) × (grows ≡ false → new ≡ old))
refused-all x now grows start end old new same strip e (inl none) =
    inl (none-pieces x strip (subst (λ (s : DecoderState). NoneAgrees (state_of_pieces start end s) e) same none))
refused-all x now grows start end old new same strip e (inr short) =
    inr (short.1, λ fixed. let yes = short.0 in absurd (let no : ⊥ = cc in no))

-- The parts of the result of making shards.
module _ (P : Type 0) (s : DecoderState) (grows : Bool) (old new : List Shard) where
  abbrev pub IsMade : Result (Unit {0}) Error → Type 0
  IsMade result =
      MatchResult result (λ _. P) (λ e. NoneAgrees s e ⊎ ((e ≡ OutOfMemory) × (grows ≡ false → new ≡ old)))

  pub made-ok : (result : Result (Unit {0}) Error) → IsMade result → OnOk result P
  made-ok (Ok u) made = made
  made-ok (Err e) made = tt

  pub made-refused : (result : Result (Unit {0}) Error) → IsMade result
      → IfErr result (λ e. NoneAgrees s e ⊎ (e ≡ OutOfMemory))
  made-refused (Ok u) made = tt
  made-refused (Err e) (inl none) = inl none
  made-refused (Err e) (inr short) = inr short.0

  pub made-untouched : (result : Result (Unit {0}) Error) → IsMade result → grows ≡ false
      → IfErr result (λ e. e ≡ OutOfMemory → new ≡ old)
  made-untouched (Ok u) made fixed = tt
  made-untouched (Err e) (inl none) fixed = λ short.
      let refusal = none.refusal in absurd (let no : ⊥ = cc in no)
  made-untouched (Err e) (inr short) fixed = λ _. short.1 fixed

  pub made-kept : (result : Result (Unit {0}) Error) → IsMade result → grows ≡ false
      → originals_given s + recovery_given s ≡ s.configuration.original_count → OnErr result (new ≡ old)
  made-kept (Ok u) made fixed exact = tt
  made-kept (Err e) (inl none) fixed exact =
      let surplus = none.surplus in absurd (let no : ⊥ = omega (arith, surplus, exact) in no)
  made-kept (Err e) (inr short) fixed exact = short.1 fixed
