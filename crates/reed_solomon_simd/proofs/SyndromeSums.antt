-- Sums of syndromes: the direct sum over the syndromes of a base is the direct sum over the received shards of the base
-- plus that over the originals with zeros for the missing ones, and their recovery shards.
use Rattle.std.proofs.Common.{rules, ◌≡◌, ℕ, ◌+◌, ◌-◌, ◌/◌, ◌<◌, Bool, true, false, cond, List, [], length, replicate}
use Rattle.std.proofs.Common.{bit_xor, refl, sym, ap, ap₂, ◌∙◌, inl, inr, arith, subst, zero, suc}
use Rattle.std.specs.Prelude.{Option, Some, None, is_some, slice_index, unwrap_or}
use Rattle.std.specs.Int.Bits.{xor_zero_l, xor_self, xor_assoc, xor_lt}
use Rattle.std.specs.Option.{option_map}
use Rattle.std.proofs.lemmas.Bool.{cases_Bool, cases_lt}
use Rattle.std.proofs.lemmas.List.{length-replicate, get_or-replicate, get_or_past, get_or_default}
use Rattle.rs_field.specs.code.Code.{AreRecovery}
use Rattle.rs_field.specs.code.Column.{Shard, IsShard, AreShards, shard_at, column}
use Rattle.rs_field.specs.code.Decoder.{DecoderState, IsAgreeing, originals_given, recovery_given}
use Rattle.rs_field.specs.code.DirectLaws.{IsPartOf, entry_in, given_at, shard_in_row, summed_word, word_of}
use Rattle.rs_field.specs.code.Frame.{row_count, original_row, recovery_row, frame_at}
use Rattle.rs_field.specs.code.Given.{Shards, count_below}
use Rattle.rs_field.specs.rows.MarkedRows.{is_marked}
use Rattle.rs_field.specs.words.DirectSum.{direct_sum, direct_term, direct_factor}
use Rattle.rs_field.specs.words.Field.{product, power}
use Rattle.rs_field.proofs.code_lemmas.BaseShards.{all_located, base_given, agrees_with_part}
use Rattle.rs_field.proofs.code_lemmas.Columns.{byte_lt, shard_in}
use Rattle.rs_field.proofs.code_lemmas.DirectColumn.{direct_original, direct_recovery}
use Rattle.rs_field.proofs.code_lemmas.Given.{count_below-zero, count_below-suc, some_of}
use Rattle.rs_field.proofs.code_lemmas.GivenRows.{AreGiven, state_with, distinct, shard_in_row-own, shard_in_row-coded}
use Rattle.rs_field.proofs.words_lemmas.Combination.{sum_below-same, sum_below-xor}
use Rattle.rs_field.proofs.words_lemmas.Packed.{sum_of_bytes}
use Rattle.rs_field.proofs.words_lemmas.Product.{product_xor_left, zero_product}
use Rattle.rs_field.proofs.words_lemmas.UpTo.{length-up_to, get-up_to, all-up_to}
use Rattle.rs_rate.specs.declared.passes.sums.SumBase.{SumBase}
use Rattle.rs_rate.specs.rows.ShardRows.{IsByteSum}
use Rattle.reed_solomon_simd.specs.Base.{marked_part, marked_state, MarkBase, base_sum, AgreesInRow}
use Rattle.reed_solomon_simd.specs.Syndromes.{zeroed, AreSyndromes, IsSyndromeBase, AgreesAt, syndrome_sum}
use Rattle.reed_solomon_simd.proofs.BaseLemmas.{marked_part-at, sum-over}
use Rattle.reed_solomon_simd.proofs.BaseSums.{part-of, part-missing}

-- ---- bytes and columns

-- A byte sum of two shards has the size of these.
pub byte-sum-shard : (size : ℕ) (one other sum : Shard) → IsShard size one → IsShard size other
    → IsByteSum one other sum → IsShard size sum
byte-sum-shard size one other sum is_one is_other is = record {
  length_is = is.length_is ∙ is_other.length_is;
  bytes = λ i d h.
      let below : i < length other = omega (arith, h, is.length_is) in
      subst (λ (b : ℕ). b < 256) (sym (get_or_default sum i d 0 h ∙ is.bytes i below))
      (xor_lt 8 (slice_index one i) (slice_index other i) (byte_lt is_one i) (byte_lt is_other i));
}

-- The words of a byte sum are the sums of the words.
pub column-byte-sum : (size j : ℕ) (one other sum : Shard) → IsShard size one → IsShard size other
    → IsByteSum one other sum → column j sum ≡ bit_xor (column j one) (column j other)
unfolding column
column-byte-sum size j one other sum is_one is_other is =
    search (rules, cases_lt, get_or_past, sum_of_bytes, byte_lt)

-- ---- direct sums

-- The direct sum of sums of words is the sum of their direct sums.
pub direct_sum-xor : (n : ℕ) (received : ℕ → Bool) (locator f h : ℕ → ℕ) (y : ℕ)
    → direct_sum n received locator (λ x. bit_xor (f x) (h x)) y
    ≡ bit_xor (direct_sum n received locator f y) (direct_sum n received locator h y)
unfolding direct_sum
direct_sum-xor n received locator f h y =
    sum_below-same n (direct_term received locator (λ x. bit_xor (f x) (h x)) y)
    (λ x. bit_xor (direct_term received locator f y x) (direct_term received locator h y x))
    (λ x inside. by_mark (received x) (f x) (h x) (power (direct_factor locator x y)))
    ∙ sum_below-xor n (direct_term received locator f y) (direct_term received locator h y)
  where
    by_mark : (b : Bool) (v w p : ℕ)
        → cond b (product (bit_xor v w) p) 0 ≡ bit_xor (cond b (product v p) 0) (cond b (product w p) 0)
    by_mark true v w p = product_xor_left v w p
    by_mark false v w p = refl

-- ---- the originals with zeros

module _ (t : DecoderState) (g : AreGiven t) where
  -- Zeros are a shard.
  zeros-shard : (n : ℕ) → IsShard n (replicate n 0)
  zeros-shard n = record {
    length_is = length-replicate {A = ℕ} n 0;
    bytes = λ i d h. let below : i < n = omega (arith, h, length-replicate {A = ℕ} n 0) in
        subst (λ (b : ℕ). b < 256) (sym (get_or-replicate {A = ℕ} n i 0 d below)) (omega arith);
  }

  -- The originals with zeros for the missing ones are a message.
  pub zeroed-shards : AreShards t.configuration.original_count t.configuration.shard_bytes (zeroed t)
  zeroed-shards = record {
    length_is = length-up_to t.configuration.original_count
        (λ i. unwrap_or (t.originals i) (replicate t.configuration.shard_bytes 0));
    each = all-up_to (IsShard t.configuration.shard_bytes) t.configuration.original_count
        (λ i. unwrap_or (t.originals i) (replicate t.configuration.shard_bytes 0))
        (λ i h. sized i (t.originals i) refl);
  }
    where
      sized : (i : ℕ) (o : Option Shard) → t.originals i ≡ o
          → IsShard t.configuration.shard_bytes (unwrap_or o (replicate t.configuration.shard_bytes 0))
      sized i None is = zeros-shard t.configuration.shard_bytes
      sized i (Some shard) is = (g.own_sized.each i shard is).1

-- ---- the state of the encoded shards

-- The received originals, and the encoded recovery shards at the indexes of the received ones.
abbrev pub encoded_state : DecoderState → List Shard → DecoderState
encoded_state t encoded =
    state_with t.configuration t.originals (λ i. option_map (λ _. shard_at encoded i) (t.recovery i))

module _ (t : DecoderState) (g : AreGiven t) (encoded : List Shard)
    (coded : AreRecovery t.configuration (zeroed t) encoded) where
  -- An encoded shard takes the place of a received one.
  placed : (i : ℕ) (o : Option Shard) (shard : Shard) → option_map (λ _. shard_at encoded i) o ≡ Some shard
      → (shard_at encoded i ≡ shard) × ((p : Shard) × (o ≡ Some p))
  placed i None shard is = absurd (let no : ⊥ = cc is in no)
  placed i (Some p) shard is = ((let one : ◌≡◌ {A = Shard} (shard_at encoded i) shard = cc is in one), (p, refl))

  -- The originals with zeros agree with the encoded shards.
  zeroed-agrees : IsAgreeing (encoded_state t encoded) (zeroed t)
  zeroed-agrees = record {
    shards = zeroed-shards t g;
    own = λ i shard e.
        get-up_to t.configuration.original_count
        (λ m. unwrap_or (t.originals m) (replicate t.configuration.shard_bytes 0)) i []
        (g.own_sized.each i shard e).0
        ∙ ap (λ (o : Option Shard). unwrap_or o (replicate t.configuration.shard_bytes 0)) e;
    coded = (encoded, coded, λ i shard e. (placed i (t.recovery i) shard e).0);
  }

  -- The encoded shards are shards of a decoder.
  encoded-given : AreGiven (encoded_state t encoded)
  encoded-given = record {
    supported = g.supported;
    own_sized = g.own_sized;
    coded_sized = record {
      each = λ i shard e.
          let at = placed i (t.recovery i) shard e in
          let inside = (g.coded_sized.each i at.1.0 at.1.1).0 in
          (inside, subst (IsShard t.configuration.shard_bytes) at.0 (shard_in coded.shards i inside));
    };
  }

-- ---- the base

-- Two maps with shards at the same indexes have as many shards.
count-some : (n : ℕ) (one other : Shards) → ((i : ℕ) → is_some (one i) ≡ is_some (other i))
    → count_below n one ≡ count_below n other
count-some zero one other same = count_below-zero one ∙ sym (count_below-zero other)
count-some (suc n) one other same =
    count_below-suc n one
    ∙ ap₂ (λ (m : ℕ) (b : Bool). m + cond b 1 0) (count-some n one other same) (same n)
    ∙ sym (count_below-suc n other)

some-mapped : (o : Option Shard) (x : Shard) → is_some (option_map (λ (p : Shard). x) o) ≡ is_some o
some-mapped None x = refl
some-mapped (Some p) x = refl

part-some : (marks : List Bool) (from i : ℕ) (one other : Shards) → is_some (one i) ≡ is_some (other i)
    → is_some (marked_part marks from one i) ≡ is_some (marked_part marks from other i)
unfolding marked_part
part-some marks from i one other same = by_mark (is_marked marks (from + i))
  where
    by_mark : (b : Bool) → is_some (cond b (one i) None) ≡ is_some (cond b (other i) None)
    by_mark true = same
    by_mark false = refl

-- A zero at each place of zeros.
zero-at : (n p : ℕ) → slice_index (replicate n 0) p ≡ 0
zero-at n p = elim (cases_lt p n) [
  | inl below ↦ get_or-replicate {A = ℕ} n p 0 0 below
  | inr past ↦ get_or_past (replicate {A = ℕ} n 0) p 0 (omega (arith, past, length-replicate {A = ℕ} n 0))
]

zero-column : (n j : ℕ) → column j (replicate n 0) ≡ 0
unfolding column
zero-column n j = search (rules, zero-at)

module _ (t : DecoderState) (g : AreGiven t) (encoded : List Shard)
    (coded : AreRecovery t.configuration (zeroed t) encoded) (all : List Bool) (marked : MarkBase t all) where
  -- There is an encoded shard in a row exactly if there is a received one.
  in_row-some : (x : ℕ) → is_some (shard_in_row (encoded_state t encoded) x) ≡ is_some (shard_in_row t x)
  unfolding given_at entry_in
  in_row-some x = search (rules, some-mapped)

  -- The encoded shards of the base are as many as the received ones.
  enough-encoded : originals_given (marked_state all (encoded_state t encoded))
      + recovery_given (marked_state all (encoded_state t encoded))
      ≡ t.configuration.original_count
  enough-encoded =
      ap (λ n. originals_given (marked_state all t) + n)
      (count-some t.configuration.recovery_count
      (marked_state all (encoded_state t encoded)).recovery (marked_state all t).recovery
      (λ i. part-some all (frame_at t.configuration).recovery_from i (encoded_state t encoded).recovery t.recovery
      (some-mapped (t.recovery i) (shard_at encoded i))))
      ∙ marked.enough

  -- The marked rows are a base of the encoded shards.
  encoded-base : MarkBase (encoded_state t encoded) all
  encoded-base = record {
    received = λ x is. in_row-some x ∙ marked.received x is;
    enough = enough-encoded;
  }

  own_part : IsPartOf (marked_state all (encoded_state t encoded)).originals t.originals
  own_part = part-of all (frame_at t.configuration).originals_from t.originals

  coded_part : IsPartOf (marked_state all (encoded_state t encoded)).recovery (encoded_state t encoded).recovery
  coded_part = part-of all (frame_at t.configuration).recovery_from (encoded_state t encoded).recovery

  -- The direct sum over the encoded shards is zero for a missing original.
  encoded-original : (i j : ℕ) → i < t.configuration.original_count → t.originals i ≡ None
      → j < t.configuration.shard_bytes / 2
      → base_sum all (encoded_state t encoded) j (original_row (frame_at t.configuration) i) ≡ 0
  unfolding summed_word
  encoded-original i j inside none hj =
      let part = agrees_with_part own_part coded_part (zeroed-agrees t g encoded coded) in
      let enough = enough-encoded in
      direct_original (base_given (encoded-given t g encoded coded) own_part coded_part)
      (all_located (marked_state all (encoded_state t encoded)))
      (omega (arith, enough)) part.0 i j hj inside
      (part-missing all (frame_at t.configuration).originals_from i t.originals none)
      ∙ ap (column j) (get-up_to t.configuration.original_count
      (λ m. unwrap_or (t.originals m) (replicate t.configuration.shard_bytes 0)) i [] inside
      ∙ ap (λ (o : Option Shard). unwrap_or o (replicate t.configuration.shard_bytes 0)) none)
      ∙ zero-column t.configuration.shard_bytes j

  -- The direct sum over the encoded shards is the encoded shard for a recovery shard outside of the base.
  encoded-recovery : (i j : ℕ) → i < t.configuration.recovery_count
      → is_marked all (recovery_row (frame_at t.configuration) i) ≡ false
      → j < t.configuration.shard_bytes / 2
      → base_sum all (encoded_state t encoded) j (recovery_row (frame_at t.configuration) i)
      ≡ column j (shard_at encoded i)
  unfolding summed_word zeroed-agrees
  encoded-recovery i j inside not hj =
      let part = agrees_with_part own_part coded_part (zeroed-agrees t g encoded coded) in
      let enough = enough-encoded in
      direct_recovery (base_given (encoded-given t g encoded coded) own_part coded_part)
      (all_located (marked_state all (encoded_state t encoded)))
      (omega (arith, enough)) part.0 i j hj inside
      (ap is_some (marked_part-at all (frame_at t.configuration).recovery_from i (encoded_state t encoded).recovery
      false not))
      ∙ ap (λ (l : List Shard). column j (shard_at l i)) part.1

-- ---- the sums of syndromes

module _ (t : DecoderState) (g : AreGiven t) (base : SumBase) (based : IsSyndromeBase t base) (shards : List Shard)
    (made : AreSyndromes t shards) where
  abbrev from : ℕ
  from = (frame_at t.configuration).recovery_from

  -- The word of a syndrome.
  abbrev word : ℕ → ℕ → ℕ
  word j x = column j (shard_at shards (x - from))

  -- The sum of the words of the encoded and of the received shard in a row.
  abbrev both : ℕ → ℕ → ℕ
  both j x = bit_xor (word_of j (shard_in_row (encoded_state t made.encoded) x)) (word_of j (shard_in_row t x))

  -- The word of a syndrome of the base is the sum of both words.
  word-both : (j x : ℕ) → j < t.configuration.shard_bytes / 2 → is_marked base.marks.now x ≡ true → word j x ≡ both j x
  unfolding word_of
  word-both j x hj is =
      let (i, hi, at) = based.only x is in
      let f = distinct g in
      let all_is = ap (is_marked based.all) at ∙ based.adds.coded i hi ∙ ap (is_marked base.marks.now) (sym at) ∙ is in
      let row = ap (shard_in_row t) at ∙ shard_in_row-coded t i f hi in
      let (p, e) = some_of (t.recovery i) (ap is_some (sym row) ∙ based.marked.received x all_is) in
      let place : x - (frame_at t.configuration).recovery_from ≡ i = omega (arith, at) in
      ap (λ m. column j (shard_at shards m)) place
      ∙ column-byte-sum t.configuration.shard_bytes j (shard_at made.encoded i) p (shard_at shards i)
      (shard_in made.coded.shards i hi) (g.coded_sized.each i p e).1 (made.sums i p e)
      ∙ ap₂ bit_xor
      (sym (ap (word_of j) (ap (shard_in_row (encoded_state t made.encoded)) at
      ∙ shard_in_row-coded (encoded_state t made.encoded) i f hi
      ∙ ap (option_map (λ (q : Shard). shard_at made.encoded i)) e)))
      (sym (ap (word_of j) (row ∙ e)))

  -- In the row of an original, both words are the same.
  both-zero : (j x : ℕ) → is_marked based.all x ≡ true → is_marked base.marks.now x ≡ false → both j x ≡ 0
  both-zero j x is not =
      let (i, hi, at) = based.adds.only x is not in
      let row = ap (shard_in_row t) at ∙ shard_in_row-own t i hi in
      let other = ap (shard_in_row (encoded_state t made.encoded)) at
      ∙ shard_in_row-own (encoded_state t made.encoded) i hi in
      ap (λ o. bit_xor (word_of j o) (word_of j (shard_in_row t x))) (other ∙ sym row)
      ∙ xor_self (word_of j (shard_in_row t x))

  -- The term of a row is the same in both sums.
  same-term : (j y x : ℕ) → j < t.configuration.shard_bytes / 2
      → direct_term (is_marked base.marks.now) (λ z. slice_index base.locator.now z) (word j) y x
      ≡ direct_term (is_marked based.all) (λ z. slice_index base.locator.now z) (both j) y x
  same-term j y x hj =
      let p : ℕ = power (direct_factor (λ z. slice_index base.locator.now z) x y) in
      elim (cases_Bool (is_marked base.marks.now x)) [
        | inl is ↦
            let (i, hi, at) = based.only x is in
            let all_is = ap (is_marked based.all) at ∙ based.adds.coded i hi ∙ ap (is_marked base.marks.now) (sym at)
            ∙ is in
            ap (λ b. cond b (product (word j x) p) 0) is
            ∙ ap (λ w. product w p) (word-both j x hj is)
            ∙ sym (ap (λ b. cond b (product (both j x) p) 0) all_is)
        | inr not ↦ elim (cases_Bool (is_marked based.all x)) [
          | inl all_is ↦
              ap (λ b. cond b (product (word j x) p) 0) not
              ∙ sym (ap (λ b. cond b (product (both j x) p) 0) all_is
              ∙ ap (λ w. product w p) (both-zero j x all_is not) ∙ zero_product p)
          | inr none ↦
              ap (λ b. cond b (product (word j x) p) 0) not ∙ sym (ap (λ b. cond b (product (both j x) p) 0) none)
        ]
      ]

  -- A sum of syndromes is the sum of the direct sums over the encoded and over the received shards.
  sum-both : (j y : ℕ) → j < t.configuration.shard_bytes / 2 → y < row_count (frame_at t.configuration)
      → syndrome_sum t base shards j y
      ≡ bit_xor (base_sum based.all (encoded_state t made.encoded) j y) (base_sum based.all t j y)
  unfolding direct_sum
  sum-both j y hj inside =
      let locator = base.locator.now in
      sum_below-same (length base.locator.now)
      (direct_term (is_marked base.marks.now) (λ z. slice_index base.locator.now z) (word j) y)
      (direct_term (is_marked based.all) (λ z. slice_index base.locator.now z) (both j) y)
      (λ x hx. same-term j y x hj)
      ∙ direct_sum-xor (length base.locator.now) (is_marked based.all) (λ z. slice_index base.locator.now z)
      (λ x. word_of j (shard_in_row (encoded_state t made.encoded) x)) (λ x. word_of j (shard_in_row t x)) y
      ∙ ap₂ bit_xor
      (sum-over (encoded_state t made.encoded) based.all locator j y
      (encoded-base t g made.encoded made.coded based.all based.marked) based.located inside)
      (sum-over t based.all locator j y based.marked based.located inside)

  -- The sum of syndromes is the direct sum for a missing original.
  pub original-sum : (i j : ℕ) → i < t.configuration.original_count → t.originals i ≡ None
      → j < t.configuration.shard_bytes / 2
      → syndrome_sum t base shards j (original_row (frame_at t.configuration) i)
      ≡ base_sum based.all t j (original_row (frame_at t.configuration) i)
  original-sum i j hi none hj =
      let y : ℕ = original_row (frame_at t.configuration) i in
      sum-both j y hj (omega (arith, (distinct g).originals, hi))
      ∙ ap (λ w. bit_xor w (base_sum based.all t j y))
      (encoded-original t g made.encoded made.coded based.all based.marked i j hi none hj)
      ∙ xor_zero_l (base_sum based.all t j y)

  -- The sum of syndromes for a recovery shard outside of the base.
  pub recovery-sum : (i j : ℕ) → i < t.configuration.recovery_count
      → is_marked based.all (recovery_row (frame_at t.configuration) i) ≡ false
      → j < t.configuration.shard_bytes / 2
      → syndrome_sum t base shards j (recovery_row (frame_at t.configuration) i)
      ≡ bit_xor (column j (shard_at made.encoded i))
      (base_sum based.all t j (recovery_row (frame_at t.configuration) i))
  recovery-sum i j hi not hj =
      let y : ℕ = recovery_row (frame_at t.configuration) i in
      sum-both j y hj (omega (arith, (distinct g).recovery, hi))
      ∙ ap (λ w. bit_xor w (base_sum based.all t j y))
      (encoded-recovery t g made.encoded made.coded based.all based.marked i j hi not hj)

  -- ---- surplus shards

  cancelled : (a b c : ℕ) → bit_xor a b ≡ bit_xor a c → b ≡ c
  cancelled a b c same = sym (twice a b) ∙ ap (bit_xor a) same ∙ twice a c
    where
      twice : (x y : ℕ) → bit_xor x (bit_xor x y) ≡ y
      twice x y = sym (xor_assoc x x y) ∙ ap (λ z. bit_xor z y) (xor_self x) ∙ xor_zero_l y

  -- The words of the syndrome of a received recovery shard.
  syndrome-words : (i j : ℕ) (shard : Shard) → t.recovery i ≡ Some shard
      → column j (shard_at shards i) ≡ bit_xor (column j (shard_at made.encoded i)) (column j shard)
  syndrome-words i j shard e =
      let (hi, sized) = g.coded_sized.each i shard e in
      column-byte-sum t.configuration.shard_bytes j (shard_at made.encoded i) shard (shard_at shards i)
      (shard_in made.coded.shards i hi) sized (made.sums i shard e)

  -- If the syndrome of a recovery shard is the sum of those of the base, the shard is the direct sum.
  pub agrees-in_row : (i : ℕ) → i < t.configuration.recovery_count → AgreesAt t base shards i
      → AgreesInRow based.all t (recovery_row (frame_at t.configuration) i)
  agrees-in_row i hi agrees shard there not =
      let e = sym (shard_in_row-coded t i (distinct g) hi) ∙ there in
      let sum = agrees shard e (sym (based.adds.coded i hi) ∙ not) in
      record {
        is_shard = (g.coded_sized.each i shard e).1;
        words = λ j hj.
            cancelled (column j (shard_at made.encoded i)) (column j shard)
            (base_sum based.all t j (recovery_row (frame_at t.configuration) i))
            (sym (syndrome-words i j shard e) ∙ sum.words j hj ∙ recovery-sum i j hi not hj);
      }

  -- If a recovery shard is the direct sum, its syndrome is the sum of those of the base.
  pub in_row-agrees : (i : ℕ) → i < t.configuration.recovery_count
      → AgreesInRow based.all t (recovery_row (frame_at t.configuration) i) → AgreesAt t base shards i
  in_row-agrees i hi agrees shard e not =
      let not_all = based.adds.coded i hi ∙ not in
      let sum = agrees shard (shard_in_row-coded t i (distinct g) hi ∙ e) not_all in
      record {
        is_shard = byte-sum-shard t.configuration.shard_bytes (shard_at made.encoded i) shard (shard_at shards i)
            (shard_in made.coded.shards i hi) (g.coded_sized.each i shard e).1 (made.sums i shard e);
        words = λ j hj.
            syndrome-words i j shard e ∙ ap (bit_xor (column j (shard_at made.encoded i))) (sum.words j hj)
            ∙ sym (recovery-sum i j hi not_all hj);
      }
