-- Messages: the least size of their shards, shards that are cut from a message, and shards that are laid end to end.
use Rattle.std.proofs.Common.{rules, ◌≡◌, ℕ, ◌+◌, ◌-◌, ◌*◌, ◌%◌, ◌<◌, ◌≤◌, ◌⊎◌, min, Bool, true, false, List, [], ◌∷◌}
use Rattle.std.proofs.Common.{◌++◌, length, take, replicate, All, refl, sym, ap, subst, ◌∙◌, inl, inr, arith}
use Rattle.std.proofs.Common.{append_assoc, append-nil}
use Rattle.std.specs.Prelude.{Result, Ok, Err, IsOk, ◌==◌}
use Rattle.std.specs.Int.{div_ceil}
use Rattle.std.proofs.Math.Nat.{mul-le-mul_left, mul_comm}
use Rattle.std.proofs.lemmas.Bool.{cases_lt, eqb-true, ne_eqb, eq-eqb, le-ltb}
use Rattle.std.proofs.lemmas.Grind.{div_ceil_times, common_steps}
use Rattle.std.proofs.lemmas.List.{length-append, length-replicate, replicate-append-replicate, nil_from_length}
use Rattle.std.proofs.lemmas.List.{take_at, take_all, take_min, length-take, take-append-le}
use Rattle.std.proofs.Math.Seq.{take-append-add}
use Rattle.std.proofs.lemmas.List.Concat.{flat_map-append}
use Rattle.std.proofs.lemmas.List.Elements.{All-head, All-tail, All-nil, All-cons, All-push}
use Rattle.rs_field.specs.declared.code.error.Error.{Error}
use Rattle.rs_field.specs.declared.code.error.Error.TheVariants.{OutOfMemory, TooFewOriginalShards}
use Rattle.rs_field.specs.code.Column.{Shard}
use Rattle.rs_field.specs.code.Configuration.{UpToMemory}
use Rattle.rs_field.specs.code.Outcome.{result_and_then}
use Rattle.reed_solomon_simd.specs.Messages.{joined, HoldsMessage, IsLeastSize, AreShardsOf, same_size, size_of_shards}
use Rattle.reed_solomon_simd.specs.Messages.{first_bytes, join_outcome}

-- ---- the least size

-- The quotient, rounded up, is a size with which k shards hold the bytes.
quotient-holds : (total k : ℕ) → 0 < k → total ≤ k * div_ceil total k
quotient-holds total k some =
    let bounds = div_ceil_times total k some in
    omega (arith, bounds.0, mul_comm k (div_ceil total k))

-- No smaller size holds the bytes.
quotient-least : (total k size : ℕ) → 0 < k → total ≤ k * size → div_ceil total k ≤ size
quotient-least total k size some holds = grind (arith, common_steps)

-- Shards that are each longer than the message hold it.
pub longer-holds : (total k : ℕ) → 0 < k → HoldsMessage k total (total + total % 2 + 2)
longer-holds total k some = search rules

-- ---- shards laid end to end

joined-push : (shards : List Shard) (shard : Shard) → joined (shards ++ shard ∷ []) ≡ joined shards ++ shard
joined-push shards shard =
    flat_map-append (λ x. x) shards (shard ∷ []) ∙ ap (λ ys. joined shards ++ ys) (append-nil shard)

-- Shards of one size have as many bytes as their number times their size.
joined-long : (size : ℕ) (shards : List Shard) → All (λ shard. length shard ≡ size) shards
    → length (joined shards) ≡ length shards * size
joined-long size [] sized = omega arith
joined-long size (shard ∷ shards) sized =
    let rest = joined-long size shards (All-tail (λ x. length x ≡ size) shard shards sized) in
    let own : length shard ≡ size = All-head (λ x. length x ≡ size) shard shards sized in
    let long = length-append shard (joined shards) in
    omega (arith, rest, own, long)

-- ---- shards that are cut from a message

-- Some shards of one size were cut from a message, and these bytes of it are left. Zeros were added only after its last
-- byte.
pub record AreCut (message : List ℕ) (size : ℕ) (shards : List Shard) (rest : List ℕ) : Type 0 where
  pub sized : All (λ shard. length shard ≡ size) shards
  pub zeros : ℕ
  pub whole : joined shards ++ rest ≡ message ++ replicate zeros 0
  pub last : 0 < zeros → rest ≡ []

module _ (message : List ℕ) (size : ℕ) (shards : List Shard) (rest piece left : List ℕ) (shard : Shard)
    (are : AreCut message size shards rest) (parts : rest ≡ piece ++ left)
    (is : shard ≡ piece ++ replicate (size - length piece) 0) (fits : length piece ≤ size) where
  cut-long : length shard ≡ size
  cut-long = search (rules, length-replicate, length-append)

  -- A whole piece of the message is the next shard.
  cut-whole : length piece ≡ size → AreCut message size (shards ++ shard ∷ []) left
  cut-whole full = grind (arith, common_steps)

  -- The last piece of the message, and zeros after it, are the next shard.
  cut-last : left ≡ [] → AreCut message size (shards ++ shard ∷ []) left
  cut-last ended =
      let all : rest ≡ piece = parts ∙ ap (λ x. piece ++ x) ended ∙ append-nil piece in
      record {
        sized = All-push (λ x. length x ≡ size) shards shard are.sized cut-long;
        zeros = are.zeros + (size - length piece);
        whole = ap (λ x. joined (shards ++ shard ∷ []) ++ x) ended
            ∙ append-nil (joined (shards ++ shard ∷ []))
            ∙ joined-push shards shard
            ∙ ap (λ x. joined shards ++ x) is
            ∙ sym (append_assoc (joined shards) piece (replicate (size - length piece) 0))
            ∙ ap (λ x. x ++ replicate (size - length piece) 0)
            (ap (λ x. joined shards ++ x) (sym all) ∙ are.whole)
            ∙ append_assoc message (replicate are.zeros 0) (replicate (size - length piece) 0)
            ∙ ap (λ x. message ++ x) (replicate-append-replicate are.zeros (size - length piece) 0);
        last = λ some. ended;
      }

  -- The next piece of the message, which is shorter than a shard only if it is the last one, becomes the next shard.
  pub cut-next : (length piece ≡ size) ⊎ (left ≡ []) → AreCut message size (shards ++ shard ∷ []) left
  cut-next (inl full) = cut-whole full
  cut-next (inr ended) = cut-last ended

-- After k shards of the least size were cut, they are the shards of the message.
pub cut-all : (message : List ℕ) (k size : ℕ) (shards : List Shard) (rest : List ℕ) → AreCut message size shards rest
    → length shards ≡ k → IsLeastSize k (length message) size → AreShardsOf k message shards
cut-all message k size shards rest are number least =
    search (rules, joined-long, length-append, length-replicate, nil_from_length)

-- ---- shards that are joined

-- Shards of a size have this size.
same_size-valid : (size : ℕ) (shards : List Shard) → All (λ shard. length shard ≡ size) shards
    → same_size size shards ≡ Ok size
same_size-valid size [] sized = refl
same_size-valid size (shard ∷ shards) sized =
    rw (eq-eqb (length shard) size (All-head (λ x. length x ≡ size) shard shards sized))
    (same_size-valid size shards (All-tail (λ x. length x ≡ size) shard shards sized))

-- The shards whose size is found have this size.
same_size-sized : (size found : ℕ) (shards : List Shard) → same_size size shards ≡ Ok found
    → (found ≡ size) × All (λ shard. length shard ≡ size) shards
same_size-sized size found [] is = (let same : found ≡ size = cc in same, All-nil (λ shard. length shard ≡ size))
same_size-sized size found (shard ∷ shards) is =
    by_test (λ rest. same_size-sized size found shards rest) (length shard == size) refl
  where
    by_test : (same_size size shards ≡ Ok found → (found ≡ size) × All (λ x. length x ≡ size) shards) → (b : Bool)
        → (length shard == size) ≡ b → (found ≡ size) × All (λ x. length x ≡ size) (shard ∷ shards)
    by_test others true e =
        let rest : same_size size shards ≡ Ok found = rw e at is in
        let more = others rest in
        (more.0, All-cons (λ x. length x ≡ size) shard shards (eqb-true (length shard) size e) more.1)
    by_test others false e = let refused = rw e at is in let none : ⊥ = cc in absurd none

-- All shards have the size that is found, and it is above zero.
pub found-sized : (shards : List Shard) (size : ℕ) → size_of_shards shards ≡ Ok size
    → (0 < size) × All (λ shard. length shard ≡ size) shards
found-sized [] size is = let none : ⊥ = cc in absurd none
found-sized (shard ∷ shards) size is = by_test (length shard == 0) (length shard % 2 == 1) refl refl
  where
    by_test : (empty odd : Bool) → (length shard == 0) ≡ empty → (length shard % 2 == 1) ≡ odd
        → (0 < size) × All (λ shard. length shard ≡ size) (shard ∷ shards)
    by_test true odd e f = let refused = rw e at is in let none : ⊥ = cc in absurd none
    by_test false true e f = let refused = rw (e, f) at is in let none : ⊥ = cc in absurd none
    by_test false false e f =
        let found : same_size (length shard) (shard ∷ shards) ≡ Ok size = rw (e, f) at is in
        let all = same_size-sized (length shard) size (shard ∷ shards) found in
        (grind (arith, common_steps), subst (λ n. All (λ x. length x ≡ n) (shard ∷ shards)) (sym all.0) all.1)

-- The size of shards that all have a valid size is found.
size-valid : (size : ℕ) (shards : List Shard) → 0 < length shards → 0 < size → size % 2 ≡ 0
    → All (λ shard. length shard ≡ size) shards → size_of_shards shards ≡ Ok size
size-valid size [] many some even sized = absurd (let none : ⊥ = omega arith in none)
size-valid size (shard ∷ shards) many some even sized =
    let own : length shard ≡ size = All-head (λ x. length x ≡ size) shard shards sized in
    let not_empty : (length shard == 0) ≡ false =
    ne_eqb (length shard) 0 (λ none. let none : ⊥ = omega arith in none) in
    let not_odd : (length shard % 2 == 1) ≡ false =
    ne_eqb (length shard % 2) 1 (λ odd. let same = ap (λ n. n % 2) own in let none : ⊥ = omega arith in none) in
    let all : same_size (length shard) (shard ∷ shards) ≡ Ok (length shard) =
    same_size-valid (length shard) (shard ∷ shards)
    (subst (λ n. All (λ x. length x ≡ n) (shard ∷ shards)) (sym own) sized) in
    rw (not_empty, not_odd) (all ∙ ap Ok own)

-- The shards of a message, joined to its length, are the message.
pub joined-back : (k : ℕ) (message : List ℕ) (shards : List Shard) → AreShardsOf k message shards
    → join_outcome shards (length message) ≡ Ok message
joined-back k message shards are = search (rules, joined-long, size-valid, take_at)

-- ---- the loop that joins shards

take-both : (n : ℕ) (xs ys : List ℕ) → take n (xs ++ ys) ≡ take n xs ++ take (n - length xs) ys
take-both n xs ys =
    elim (cases_lt (length xs) n) [
      | inl more ↦
          let sum : n ≡ length xs + (n - length xs) = omega arith in
          ap (λ m. take m (xs ++ ys)) sum
          ∙ take-append-add xs ys (n - length xs)
          ∙ ap (λ zs. zs ++ take (n - length xs) ys) (sym (take_all n xs (omega arith)))
      | inr less ↦
          let none : n - length xs ≡ 0 = omega arith in
          take-append-le n xs ys less
          ∙ sym (ap (λ m. take n xs ++ take m ys) none ∙ append-nil (take n xs))
    ]

-- The first bytes of one more shard are as many as are still wanted.
pub taken-next : (total : ℕ) (shards : List Shard) (shard bytes piece : List ℕ) → bytes ≡ take total (joined shards)
    → piece ≡ take (min (total - length bytes) (length shard)) shard
    → bytes ++ piece ≡ take total (joined (shards ++ shard ∷ []))
taken-next total shards shard bytes piece so_far is = search (rules, length-take, take_min, take-both, joined-push)

module _ (shards : List Shard) (total size : ℕ) (found : size_of_shards shards ≡ Ok size) where
  joined-size : (0 < size) × (length (joined shards) ≡ length shards * size)
  joined-size =
      let all = found-sized shards size found in
      (all.0, joined-long size shards all.1)

  -- Fewer shards than are needed hold fewer bytes.
  pub joined-few : (count : ℕ) → count ≡ div_ceil total size → length shards < count
      → join_outcome shards total ≡ Err (TooFewOriginalShards count (length shards))
  joined-few count is few = grind (arith, common_steps, joined-size, quotient-least, mul_comm)

  -- Enough shards hold the bytes.
  pub joined-enough : div_ceil total size ≤ length shards
      → join_outcome shards total ≡ Ok (take total (joined shards))
  joined-enough enough =
      let sizes = joined-size in
      let holds = quotient-holds total size sizes.0 in
      let more : size * div_ceil total size ≤ size * length shards = mul-le-mul_left size enough in
      let long : total ≤ length (joined shards) = omega (arith, holds, more, sizes.1, mul_comm size (length shards)) in
      ap (result_and_then (first_bytes shards total)) found ∙ rw (le-ltb (length (joined shards)) total long) refl

  -- Where memory cannot be allocated, enough shards hold the bytes.
  pub joined-lacks : div_ceil total size ≤ length shards → (result : Result (List ℕ) Error) → result ≡ Err OutOfMemory
      → UpToMemory (join_outcome shards total) result
  joined-lacks enough result lacks =
      inr (subst (λ (wanted : Result (List ℕ) Error). IsOk wanted) (sym (joined-enough enough)) refl, lacks)
