-- The last steps of a round trip of a message: its originals are completed and joined.
use Rattle.std.proofs.Common.{rules, ◌≡◌, ℕ, ◌+◌, ◌<◌, ◌≤◌, ◌%◌, List, map, length, Ok, Err, Result, Vec, Bor, refl}
use Rattle.std.proofs.Common.{sym, ap, subst, ◌∙◌, inl, inr, arith}
use Rattle.std.specs.Prelude.{All, IfOk, IfErr, MatchResult}
use Rattle.std.proofs.lemmas.Bool.{cases_eq}
use Rattle.std.proofs.lemmas.List.{length-map}
use Rattle.reed_solomon_simd.specs.declared.Error.{Error}
use Rattle.reed_solomon_simd.specs.declared.Error.TheVariants.{OutOfMemory}
use Rattle.reed_solomon_simd.specs.Column.{Shard}
use Rattle.reed_solomon_simd.specs.Configuration.{UpToMemory, validation_outcome}
use Rattle.reed_solomon_simd.specs.Messages.{AreShardsOf, join_outcome, collected_bytes, Completes}
use Rattle.reed_solomon_simd.specs.OneCall.{counts_outcome, default_of}
use Rattle.reed_solomon_simd.specs.Given.{Shards}
use Rattle.reed_solomon_simd.proofs.CallerLemmas.{valid-some}
use Rattle.reed_solomon_simd.proofs.Left.{kept_of, kept-left, lost-kept}
use Rattle.reed_solomon_simd.proofs.MessageLaws.{completes_all}
use Rattle.reed_solomon_simd.proofs.MessageLemmas.{joined-back}
use Rattle.reed_solomon_simd.proofs.RoomFits.{vectors-sized}
use Rattle.rs_examples.specs.Losing.{is_lost, left_of, left_below, lost_at}

-- The originals of a message, joined to its length, are the message, or memory could not be allocated.
pub message-joined : {Z : Type 0} {k total : ℕ} {message : List ℕ} {originals all : List Shard}
    (result : Result (Vec ℕ Z) Error) → AreShardsOf k message originals → length message ≡ total → all ≡ originals
    → UpToMemory (join_outcome all total) (collected_bytes result)
    → IfOk result (λ back. back.items ≡ message) × IfErr result (λ e. e ≡ OutOfMemory)
message-joined {k = k} {message = message} {originals = originals} {all = all} result are long same answer =
    by_result result
    (subst (λ (wanted : Result (List ℕ) Error). UpToMemory wanted (collected_bytes result))
    (ap (join_outcome all) (sym long) ∙ ap (λ shards. join_outcome shards (length message)) same
    ∙ joined-back k message originals are) answer)
  where
    by_result : {Z : Type 0} (r : Result (Vec ℕ Z) Error) → UpToMemory (Ok message) (collected_bytes r)
        → IfOk r (λ back. back.items ≡ message) × IfErr r (λ e. e ≡ OutOfMemory)
    by_result (Ok back) (inl is) = (let e : back.items ≡ message = cc in e, tt)
    by_result (Ok back) (inr lacks) = let is = lacks.1 in absurd (let wrong : ⊥ = cc in wrong)
    by_result (Err e) (inl is) = absurd (let wrong : ⊥ = cc in wrong)
    by_result (Err e) (inr lacks) = let is = lacks.1 in (tt, let same : e ≡ OutOfMemory = cc in same)

-- Supported counts and a valid size are a valid configuration.
counted-valid : (k r size : ℕ) → counts_outcome k r ≡ Ok tt → 0 < size → size % 2 ≡ 0
    → validation_outcome (default_of k r size) ≡ Ok tt
counted-valid k r size counted some even = search rules

-- If counts are supported, there is an original.
pub counted-some : (k r : ℕ) → counts_outcome k r ≡ Ok tt → 0 < k
counted-some k r counted = valid-some (default_of k r 2) (counted-valid k r 2 counted (omega arith) refl)

-- The originals of a message that are left, and the lost ones, are completed to all originals, or memory could not be
-- allocated. The originals are vectors, and those that are left were collected and then lent.
pub vectors-completed : {Y : Type 0} {k : ℕ} {message : List ℕ} (originals : List (Vec ℕ Y)) (lost : List ℕ)
    {collected kept : List (ℕ × Bor (List ℕ))} {restored : Shards} {result : Result (List Shard) Error}
    → AreShardsOf k message (map (λ v. v.items) originals) → kept ≡ collected
    → map (λ item. (item.0, item.1.now)) collected ≡ left_of (map (λ v. v.items) originals) lost
    → ((i : ℕ) → restored i ≡ lost_at (map (λ v. v.items) originals) lost i)
    → Completes k (map (λ item. (item.0, item.1.now)) kept) restored result
    → MatchResult result (λ all. all ≡ map (λ v. v.items) originals) (λ e. e ≡ OutOfMemory)
vectors-completed originals lost {kept = kept} {restored = restored} {result = result} are same left gone answer =
    let items : map (λ item. (item.0, item.1.now)) kept ≡ kept_of (map (λ v. v.items) originals) (is_lost lost) =
    ap (map (λ item. (item.0, item.1.now))) same ∙ left in
    completes_all (map (λ v. v.items) originals) (kept_of (map (λ v. v.items) originals) (is_lost lost)) restored
    (kept-left (map (λ v. v.items) originals) (is_lost lost))
    (λ i. gone i ∙ sym (lost-kept (map (λ v. v.items) originals) (is_lost lost) i)) result
    (subst (λ xs. Completes (length (map (λ v. v.items) originals)) xs restored result) items
    (subst (λ n. Completes n (map (λ item. (item.0, item.1.now)) kept) restored result) (sym are.number) answer))

-- The shards of a message are still its shards after the vectors that hold them were lent.
pub lent-shards : {Y : Type 0} {k : ℕ} {message : List ℕ} {vectors lent : List (Vec ℕ Y)} → lent ≡ vectors
    → AreShardsOf k message (map (λ v. v.items) vectors)
    → AreShardsOf (length lent) message (map (λ v. v.items) lent)
lent-shards {message = message} {vectors = vectors} same are =
    subst (λ xs. AreShardsOf (length xs) message (map (λ v. v.items) xs)) (sym same)
    (subst (λ n. AreShardsOf n message (map (λ v. v.items) vectors))
    (sym are.number ∙ length-map vectors (λ v. v.items)) are)

-- The shards of a message for supported counts have a valid size. If enough shards are left for k originals, then
-- enough are left for the lent ones.
pub lent-valid : {Y : Type 0} {k : ℕ} (r : ℕ) {message : List ℕ} (lost recovery_lost : List ℕ)
    {vectors lent : List (Vec ℕ Y)}
    → lent ≡ vectors → AreShardsOf k message (map (λ v. v.items) vectors) → counts_outcome k r ≡ Ok tt
    → k ≤ left_below k lost + left_below r recovery_lost
    → (size : ℕ) × (validation_outcome (default_of (length lent) r size) ≡ Ok tt)
    × All (λ v. length v.items ≡ size) lent
    × (length lent ≤ left_below (length lent) lost + left_below r recovery_lost)
lent-valid {k = k} r lost recovery_lost {vectors = vectors} {lent = lent} same are counted many =
    let long : length lent ≡ k = ap length same ∙ sym (length-map vectors (λ v. v.items)) ∙ are.number in (
      are.size,
      subst (λ n. validation_outcome (default_of n r are.size) ≡ Ok tt) (sym long)
          (counted-valid k r are.size counted are.least.holds.some are.least.holds.even),
      vectors-sized are.size same are.sized,
      subst (λ n. n ≤ left_below n lost + left_below r recovery_lost) (sym long) many,
    )

-- If a message was split, there is an original.
pub split-some : {T : Type 0} {k : ℕ} {x : T} {e : Error} → (k ≡ 0 → Ok x ≡ Err e) → 0 < k
split-some {k = k} none = elim (cases_eq k 0) [
  | inl zero_is ↦ absurd (let refused = none zero_is in let wrong : ⊥ = cc in wrong)
  | inr some ↦ omega (arith, some)
]
