-- What `reconstruct` returns for shards of one message.
use Rattle.std.proofs.Common.{◌≡◌, ℕ, ◌+◌, ◌<◌, ◌≤◌, List, [], length, map, Result, Ok, Err, MatchResult, IfOk, IfErr}
use Rattle.std.proofs.Common.{refl, sym, ap, ap₂, ◌∙◌, subst, inl, inr, arith}
use Rattle.std.specs.BTreeMap.{BTreeMap, IsFromIterResult}
use Rattle.std.specs.List.{zip}
use Rattle.std.specs.Ordering.{nat_cmp}
use Rattle.std.specs.Result.{result_map_both}
use Rattle.std.specs.declared.vec.Vec.{Vec}
use Rattle.std.proofs.lemmas.Bool.{le-ltb}
use Rattle.reed_solomon_simd.specs.declared.Error.{Error}
use Rattle.reed_solomon_simd.specs.declared.Error.TheVariants.{OutOfMemory}
use Rattle.reed_solomon_simd.specs.declared.ReconstructError.{ReconstructError}
use Rattle.reed_solomon_simd.specs.declared.ReconstructError.TheVariants.{Refused}
use Rattle.reed_solomon_simd.specs.declared.ShardIndex.{ShardIndex}
use Rattle.reed_solomon_simd.specs.declared.ShardIndex.TheVariants.{Original}
use Rattle.reed_solomon_simd.specs.Code.{AreRecovery}
use Rattle.reed_solomon_simd.specs.Column.{Shard}
use Rattle.reed_solomon_simd.specs.Decoder.{DecoderState, enough_given, NoneAgrees}
use Rattle.reed_solomon_simd.specs.Given.{nothing}
use Rattle.reed_solomon_simd.specs.OneCall.{Items, default_of, shards_in}
use Rattle.reed_solomon_simd.specs.Outcome.{result_and_then}
use Rattle.reed_solomon_simd.specs.Reconstructed.{AreReconstructed, wanted_outcome, ready_outcome, ReconstructAnswers}
use Rattle.reed_solomon_simd.specs.Reconstructed.{OneReconstructs}
use Rattle.reed_solomon_simd.specs.RoundTrip.{AreCoded, AreLeft}
use Rattle.reed_solomon_simd.specs.ShardNames.{shard_named}
use Rattle.reed_solomon_simd.specs.Verified.{received_size, receiving_outcome}
use Rattle.reed_solomon_simd.proofs.CallerLemmas.{valid-some}
use Rattle.reed_solomon_simd.proofs.Entries.{entered_all}
use Rattle.reed_solomon_simd.proofs.Left.{kept-left}
use Rattle.reed_solomon_simd.proofs.SetUp.{valid-even}
use Rattle.rs_field.proofs.code_lemmas.SupportedCounts.{default_fits}
use Rattle.rs_field.proofs.code_lemmas.Unique.{recovery_unique}
use Rattle.reed_solomon_simd.proofs.StateLemmas.{valid-supported}
use Rattle.rs_examples.specs.Losing.{is_lost, left_of, left_below, lost_at, ListsLost}
use Rattle.rs_examples.proofs.LeftCount.{left-number}
use Rattle.rs_examples.proofs.LostIndexes.{lost-wanted, lost-mapped, named_at}
use Rattle.rs_examples.proofs.LeftReceived.{unless_few, left_state, left_agrees, left_enough, received-left}

module _ {k r : ℕ} {originals recovery : List Shard} {kept received : Items} (wanted : List ShardIndex)
    (was : AreCoded k r originals recovery) (left : AreLeft originals kept) (got : AreLeft recovery received) where
  -- The decoder with the shards that are left.
  abbrev state : DecoderState
  state = left_state was left got

  -- Shards that are reconstructed from what is left of a codeword are shards of this codeword.
  are_named : (shards : List Shard)
      → AreReconstructed state wanted shards
      → shards ≡ map (shard_named originals recovery) wanted
  are_named shards are =
      let same = are.only originals (left_agrees was left got) in
      let fits = default_fits k r (valid-supported (default_of k r was.size) was.valid) in
      let other : AreRecovery (default_of k r was.size) originals are.agrees.coded.0 =
      subst (λ (m : List Shard). AreRecovery (default_of k r was.size) m are.agrees.coded.0) (sym same)
      are.agrees.coded.1 in
      let coded = recovery_unique
      (let n : k ≤ 65536 = omega (arith, fits.2) in n) (valid-even (default_of k r was.size) was.valid) other was.coded
      in
      are.named ∙ ap₂ (λ (m c : List Shard). map (shard_named m c) wanted) (sym same) coded

  module _ (fit : ℕ → Result (Unit {0}) ReconstructError) where
    -- A success returns the wanted shards of the codeword.
    pub wanted_come_back : (shards : List Shard) → OneReconstructs k r kept received wanted fit (Ok shards)
        → shards ≡ map (shard_named originals recovery) wanted
    wanted_come_back shards (inr lacks) = let short = lacks.1 in absurd (let no : ⊥ = cc in no)
    wanted_come_back shards (inl answers) =
        elim (received-left was left got
        (λ s. ReconstructAnswers s wanted (fit s.configuration.shard_bytes) (Ok shards))
        (λ e. ◌≡◌ {A = Result (List Shard) ReconstructError} (Ok shards) (Err (Refused e))) answers) [
          | inl some ↦ elim some [
            | inl says ↦ by_ready shards (ready_outcome state wanted (fit was.size)) says
            | inr short ↦ absurd (let no : ⊥ = cc in no)
          ]
          | inr none ↦ let few = none.0 in absurd (let no : ⊥ = cc in no)
        ]
      where
        by_ready : (shards : List Shard) (o : Result (Unit {0}) ReconstructError)
            → MatchResult o (λ _. AreReconstructed state wanted shards)
            (λ e. ◌≡◌ {A = Result (List Shard) ReconstructError} (Ok shards) (Err e))
            → shards ≡ map (shard_named originals recovery) wanted
        by_ready shards (Ok u) are = are_named shards are
        by_ready shards (Err e) refused = absurd (let no : ⊥ = cc in no)

  -- If enough shards are left and the wanted shards are among the lost ones, a decoder with the shards that are left
  -- makes the wanted shards.
  never : (e : ReconstructError) → wanted_outcome state [] wanted ≡ Ok tt → k ≤ length kept + length received
      → ReconstructAnswers state wanted (Ok tt) (Err e) → ⊥
  never e lost many says =
      let (f, none, is) = subst (λ (o : Result (Unit {0}) ReconstructError).
      MatchResult o (λ _. (f : Error) × NoneAgrees state f × (e ≡ Refused f))
      (λ x. ◌≡◌ {A = Result (List Shard) ReconstructError} (Err e) (Err x))) ready says in
      none.none (originals, left_agrees was left got)
    where
      enough : enough_given state ≡ Ok tt
      enough =
          left_enough was left got
          ∙ ap (unless_few k (length kept) (length received)) (le-ltb (length kept + length received) k many)

      ready : ready_outcome state wanted (Ok tt) ≡ Ok tt
      ready =
          ap (λ (o : Result (Unit {0}) Error).
          result_and_then (λ (u : Unit {0}). result_and_then (λ (v : Unit {0}). Ok tt) (wanted_outcome state [] wanted))
          (result_map_both (λ u. u) Refused o)) enough
          ∙ ap (result_and_then (λ (v : Unit {0}). Ok tt)) lost

  -- If enough shards are left and the wanted shards are not among them, reconstructing into vectors can only fail
  -- because memory cannot be allocated.
  pub lacks_memory : (e : ReconstructError) → wanted_outcome state [] wanted ≡ Ok tt → 0 < k
      → k ≤ length kept + length received → OneReconstructs k r kept received wanted (λ _. Ok tt) (Err e)
      → e ≡ Refused OutOfMemory
  lacks_memory e lost some many (inr lacks) = let short = lacks.1 in cc
  lacks_memory e lost some many (inl answers) =
      elim (received-left was left got
      (λ s. ReconstructAnswers s wanted (Ok tt) (Err e))
      (λ f. ◌≡◌ {A = Result (List Shard) ReconstructError} (Err e) (Err (Refused f))) answers) [
        | inl held ↦ elim held [ inl says ↦ absurd (never e lost many says) | inr short ↦ cc ]
        | inr none ↦ let own = ap length none.1 in let coded = ap length none.2 in absurd (omega arith)
      ]

  -- If the shards that are left can be received, and the wanted ones can be made from them, reconstructing into vectors
  -- can only fail because memory cannot be allocated.
  pub only_memory : (s : DecoderState) (e : ReconstructError)
      → receiving_outcome k r (received_size kept received) kept received ≡ Ok s
      → wanted_outcome s [] wanted ≡ Ok tt → k ≤ length kept + length received
      → OneReconstructs k r kept received wanted (λ _. Ok tt) (Err e) → e ≡ Refused OutOfMemory
  only_memory s e taken lost many (inr lacks) = let short = lacks.1 in cc
  only_memory s e taken lost many (inl answers) =
      absurd (never e (subst (λ (t : DecoderState). wanted_outcome t [] wanted ≡ Ok tt) (sym same) lost) many
      (subst (λ (t : DecoderState). ReconstructAnswers t wanted (Ok tt) (Err e)) (sym same)
      (subst (λ (o : Result DecoderState Error).
      MatchResult o (λ s. ReconstructAnswers s wanted (Ok tt) (Err e))
      (λ f. ◌≡◌ {A = Result (List Shard) ReconstructError} (Err e) (Err (Refused f)))) taken answers)))
    where
      same : state ≡ s
      same =
          elim (received-left was left got (λ t. t ≡ s) (λ f. ⊥)
          (subst (λ (o : Result DecoderState Error). MatchResult o (λ t. t ≡ s) (λ f. ⊥)) (sym taken) refl)) [
            | inl some ↦ elim some [ inl is ↦ is | inr short ↦ absurd short ]
            | inr none ↦ absurd none.0
          ]

  -- The vectors of a result, or its error.
  abbrev vectors_in : {Y Z : Type 0} → Result (Vec (Vec ℕ Y) Z) ReconstructError
      → Result (List Shard) ReconstructError
  vectors_in result = result_map_both (λ vectors. map (λ vector. vector.items) vectors.items) (λ e. e) result

  pub restored_only : {Y Z : Type 0} (result : Result (Vec (Vec ℕ Y) Z) ReconstructError)
      → OneReconstructs k r kept received wanted (λ _. Ok tt) (vectors_in result)
      → IfOk result (λ shards. map (λ shard. shard.items) shards.items ≡ map (shard_named originals recovery) wanted)
  restored_only (Ok shards) made = wanted_come_back (λ _. Ok tt) (map (λ vector. vector.items) shards.items) made
  restored_only (Err e) made = tt

  pub refused_only : {Y Z : Type 0} (result : Result (Vec (Vec ℕ Y) Z) ReconstructError) (s : DecoderState)
      → receiving_outcome k r (received_size kept received) kept received ≡ Ok s
      → wanted_outcome s [] wanted ≡ Ok tt → k ≤ length kept + length received
      → OneReconstructs k r kept received wanted (λ _. Ok tt) (vectors_in result)
      → IfErr result (λ e. e ≡ Refused OutOfMemory)
  refused_only (Ok shards) s taken lost many made = tt
  refused_only (Err e) s taken lost many made = only_memory s e taken lost many made

-- ---- lost originals that are reconstructed

module _ {k r : ℕ} {originals recovery : List Shard} {lost : List ℕ} (recovery_lost : List ℕ) {indexes : List ℕ}
    {kept received : Items} {wanted : List ShardIndex} (was : AreCoded k r originals recovery)
    (lists : ListsLost k lost indexes)
    (own : kept ≡ left_of originals lost) (coded : received ≡ left_of recovery recovery_lost)
    (named : wanted ≡ map (λ i. Original i) indexes) where
  left : AreLeft originals kept
  left = subst (AreLeft originals) (sym own) (kept-left originals (is_lost lost))

  got : AreLeft recovery received
  got = subst (AreLeft recovery) (sym coded) (kept-left recovery (is_lost recovery_lost))

  -- Reconstructed originals by their indexes are the lost originals.
  pub lost_come_back : {Y : Type 0} (vectors : List (Vec ℕ Y)) (m : BTreeMap ℕ (Vec ℕ Y))
      → OneReconstructs k r kept received wanted (λ _. Ok tt) (Ok (map (λ vector. vector.items) vectors))
      → IsFromIterResult nat_cmp (zip indexes vectors) m
      → (i : ℕ) → shards_in m i ≡ lost_at originals lost i
  lost_come_back vectors m made mapped =
      lost-mapped originals lost indexes vectors m
      (subst (λ n. ListsLost n lost indexes) (sym was.shards.length_is) lists)
      (wanted_come_back wanted was left got (λ _. Ok tt)
      (map (λ vector. vector.items) vectors) made
      ∙ ap (map (shard_named originals recovery)) named ∙ named_at originals recovery indexes) mapped

  -- If enough shards are left, reconstructing the lost originals can only fail because memory cannot be allocated.
  pub lost_refused : (e : ReconstructError) → k ≤ left_below k lost + left_below r recovery_lost
      → OneReconstructs k r kept received wanted (λ _. Ok tt) (Err e) → e ≡ Refused OutOfMemory
  lost_refused e many made =
      let first : length kept ≡ left_below k lost =
      ap length own ∙ left-number lost originals was.shards.length_is in
      let second : length received ≡ left_below r recovery_lost =
      ap length coded ∙ left-number recovery_lost recovery was.coded.shards.length_is in
      lacks_memory wanted was left got e
      (ap (wanted_outcome (left_state was left got) []) named
      ∙ lost-wanted (left_state was left got) originals lost indexes
      (ap (entered_all nothing) own) lists)
      (valid-some (default_of k r was.size) was.valid) (omega (arith, first, second, many)) made
