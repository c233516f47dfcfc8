-- If one original of a message changes, each word of a recovery shard changes by the change of the original's word
-- times a factor.
use Rattle.std.proofs.Common.{rules, ◌≡◌, ◌≢◌, ℕ, zero, suc, ◌+◌, ◌/◌, ◌<◌, ◌≤◌, ◌⊎◌, Bool, true, false, cond, List}
use Rattle.std.proofs.Common.{refl, sym, ap, ap₂, ◌∙◌, subst, arith, inl, inr, bit_xor}
use Rattle.std.specs.Prelude.{Some, None, is_some, nat_lt}
use Rattle.std.proofs.lemmas.Bool.{lt-ltb, le-ltb}
use Rattle.std.proofs.lemmas.Option.{none-some}
use Rattle.rs_field.specs.words.Field.{product, power}
use Rattle.rs_field.specs.words.DirectSum.{direct_factor, direct_sum}
use Rattle.rs_field.specs.code.Column.{Shard, IsShard, AreShards, shard_at, column}
use Rattle.rs_field.specs.code.Counts.{supports}
use Rattle.rs_field.specs.code.Decoder.{DecoderState, IsAgreeing}
use Rattle.rs_field.specs.code.Frame.{row_count, original_row, recovery_row, frame_at}
use Rattle.rs_field.specs.code.Configuration.{Configuration}
use Rattle.rs_field.specs.code.Code.{AreRecovery}
use Rattle.rs_field.specs.code.Given.{Shards, nothing, count_below}
use Rattle.rs_field.specs.code.OneChange.{ChangesOnly}
use Rattle.rs_field.proofs.words_lemmas.DirectSum.{direct_sum-changed}
use Rattle.rs_field.proofs.code_lemmas.Columns.{shard_in}
use Rattle.rs_field.proofs.code_lemmas.DirectColumn.{IsLocated, direct_recovery}
use Rattle.rs_field.proofs.code_lemmas.Given.{count_below-zero, count_below-suc, nothing_among}
use Rattle.rs_field.proofs.code_lemmas.GivenRows.{state_with, words_in, kind_of_row, rows_apart, shard_in_row-own}
use Rattle.rs_field.proofs.code_lemmas.GivenRows.{shard_in_row-coded, shard_in_row-other, word-given, word-none}
use Rattle.rs_field.specs.code.DirectLaws.{shard_in_row}
use Rattle.rs_field.proofs.code_lemmas.RateFrames.{distinct_rows}

-- The map with the first k shards of a list.
pub all_of : ℕ → List Shard → Shards
all_of k shards i = cond (nat_lt i k) (Some (shard_at shards i)) None

all_of-in : (k i : ℕ) (shards : List Shard) → i < k → all_of k shards i ≡ Some (shard_at shards i)
unfolding all_of
all_of-in k i shards inside = ap (λ (b : Bool). cond b (Some (shard_at shards i)) None) (lt-ltb i k inside)

all_of-past : (k i : ℕ) (shards : List Shard) → k ≤ i → all_of k shards i ≡ None
unfolding all_of
all_of-past k i shards past = ap (λ (b : Bool). cond b (Some (shard_at shards i)) None) (le-ltb i k past)

-- A shard of the map is the shard of the list.
all_of-some : (k i : ℕ) (shards : List Shard) (shard : Shard) → all_of k shards i ≡ Some shard
    → (i < k) × (shard_at shards i ≡ shard)
all_of-some k i shards shard is = search (rules, all_of-in, all_of-past)

count-all_of : (n k : ℕ) (shards : List Shard) → n ≤ k → count_below n (all_of k shards) ≡ n
count-all_of zero k shards few = count_below-zero (all_of k shards)
count-all_of (suc n) k shards few =
    count_below-suc n (all_of k shards)
    ∙ ap₂ (λ m b. m + cond b 1 0) (count-all_of n k shards (omega arith))
    (ap is_some (all_of-in k n shards (omega arith)))
    ∙ omega arith

-- The state of a decoder to which all originals of a message were added.
abbrev pub with_message : Configuration → List Shard → DecoderState
with_message c message = state_with c (all_of c.original_count message) nothing

module _ (c : Configuration) where
  own-given : (message : List Shard) (i : ℕ) → i < c.original_count
      → shard_in_row (with_message c message) (original_row (frame_at c) i) ≡ Some (shard_at message i)
  own-given message i hi =
      shard_in_row-own (with_message c message) i hi
      ∙ all_of-in c.original_count i message hi

  own-word : (message : List Shard) (j i : ℕ) → i < c.original_count
      → words_in (with_message c message) j (original_row (frame_at c) i) ≡ column j (shard_at message i)
  own-word message j i hi = word-given (with_message c message) j (original_row (frame_at c) i) (shard_at message i)
      (own-given message i hi)

  module _ (supported : supports c.rate c.original_count c.recovery_count ≡ true) where
    -- A row is that of an original, or no shard is given there.
    which : (x : ℕ) → ((i : ℕ) × (i < c.original_count) × (x ≡ original_row (frame_at c) i))
        ⊎ (((x < (frame_at c).originals_from) ⊎ (original_row (frame_at c) c.original_count ≤ x))
        × ((message : List Shard) → shard_in_row (with_message c message) x ≡ None))
    which x =
        let f = distinct_rows c.rate c.original_count c.recovery_count supported in
        elim (kind_of_row (frame_at c) c.original_count c.recovery_count x) [
          | inl own ↦ inl own
          | inr rest ↦ inr (elim rest [
            | inl coded ↦ (
              subst (λ (y : ℕ). (y < (frame_at c).originals_from) ⊎ (original_row (frame_at c) c.original_count ≤ y))
                  (sym coded.2) (rows_apart (frame_at c) c.original_count c.recovery_count coded.0 f coded.1),
              λ message. ap (shard_in_row (with_message c message)) coded.2
                  ∙ shard_in_row-coded (with_message c message) coded.0 f coded.1,
            )
            | inr neither ↦ (
              neither.0,
              λ message. shard_in_row-other (with_message c message) x neither.0 neither.1,
            )
          ])
        ]

    -- If exactly the rows of the originals are marked, these are the rows of given shards.
    pub marked-originals : (marked : ℕ → Bool)
        → ((i : ℕ) → i < c.original_count → marked (original_row (frame_at c) i) ≡ true)
        → ((x : ℕ) → (x < (frame_at c).originals_from) ⊎ (original_row (frame_at c) c.original_count ≤ x)
        → marked x ≡ false)
        → (message : List Shard) (x : ℕ) → marked x ≡ is_some (shard_in_row (with_message c message) x)
    marked-originals marked own others message x = elim (which x) [
      | inl inside ↦
          ap marked inside.2 ∙ own inside.0 inside.1
          ∙ sym (ap is_some (ap (shard_in_row (with_message c message)) inside.2 ∙ own-given message inside.0 inside.1))
      | inr outside ↦ others x outside.0 ∙ sym (ap is_some (outside.1 message))
    ]

    module _ (received : ℕ → Bool) (locator : ℕ → ℕ)
        (located : (message : List Shard) → IsLocated (with_message c message) received locator) where
      -- Each recovery word is a direct sum over the originals.
      summed_recovery : (message recovery : List Shard) (i j : ℕ) → AreShards c.original_count c.shard_bytes message
          → AreRecovery c message recovery → i < c.recovery_count → j < c.shard_bytes / 2
          → direct_sum (row_count (frame_at c)) received locator (words_in (with_message c message) j)
          (recovery_row (frame_at c) i)
          ≡ column j (shard_at recovery i)
      summed_recovery message recovery i j shards coded hi hj =
          let all = count-all_of c.original_count c.original_count message (omega arith) in
          let agrees : IsAgreeing (with_message c message) message = record {
            shards = shards;
            own = λ m shard is. (all_of-some c.original_count m message shard is).1;
            coded = (recovery, coded, nothing_among recovery);
          } in
          direct_recovery (record {
            supported = supported;
            own_sized = record {
              each = λ m shard is.
                  let s = all_of-some c.original_count m message shard is in
                  (s.0, subst (IsShard c.shard_bytes) s.1 (shard_in shards m s.0));
            };
            coded_sized = record { each = λ m shard is. absurd (none-some shard is) };
          }) (located message) (omega (arith, all)) agrees i j hj hi refl

      -- A change of one original changes each recovery word by the change of the word times a factor.
      pub word_changed : (index i j : ℕ) (message changed recovery changed_recovery : List Shard)
          → index < c.original_count
          → AreShards c.original_count c.shard_bytes message → AreShards c.original_count c.shard_bytes changed
          → ChangesOnly index message changed → AreRecovery c message recovery → AreRecovery c changed changed_recovery
          → i < c.recovery_count → j < c.shard_bytes / 2
          → column j (shard_at changed_recovery i)
          ≡ bit_xor (column j (shard_at recovery i))
          (product (bit_xor (column j (shard_at message index)) (column j (shard_at changed index)))
          (power (direct_factor locator (original_row (frame_at c) index) (recovery_row (frame_at c) i))))
      word_changed index i j message changed recovery changed_recovery inside shards changed_shards only coded
          changed_coded hi hj =
          let z = original_row (frame_at c) index in
          let y = recovery_row (frame_at c) i in
          let own = (distinct_rows c.rate c.original_count c.recovery_count supported).originals in
          let below : original_row (frame_at c) index < row_count (frame_at c) = omega (arith, own, inside) in
          sym (summed_recovery changed changed_recovery i j changed_shards changed_coded hi hj)
          ∙ direct_sum-changed (row_count (frame_at c)) received locator (words_in (with_message c changed) j)
          (words_in (with_message c message) j) y z below
          ((located message).rows z below ∙ ap is_some (own-given message index inside)) same
          ∙ ap₂ (λ s w. bit_xor s (product w (power (direct_factor locator z y))))
          (summed_recovery message recovery i j shards coded hi hj)
          (ap₂ bit_xor (own-word message j index inside) (own-word changed j index inside))
        where
          same : (x : ℕ) → x ≢ original_row (frame_at c) index
              → words_in (with_message c changed) j x ≡ words_in (with_message c message) j x
          same x apart = elim (which x) [
            | inl here ↦
                let other : here.0 ≢ index = λ e. apart (here.2 ∙ ap (original_row (frame_at c)) e) in
                ap (words_in (with_message c changed) j) here.2 ∙ own-word changed j here.0 here.1
                ∙ ap (column j) (only here.0 other)
                ∙ sym (own-word message j here.0 here.1) ∙ sym (ap (words_in (with_message c message) j) here.2)
            | inr outside ↦
                word-none (with_message c changed) j x (outside.1 changed)
                ∙ sym (word-none (with_message c message) j x (outside.1 message))
          ]
