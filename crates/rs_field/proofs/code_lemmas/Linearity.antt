-- The code is linear: the recovery shards of the XOR of two messages are the XOR of their recovery shards.
use Rattle.std.proofs.Common.{rules, ◌≡◌, ℕ, ◌<◌, List, [], length, min, bit_xor, sym, ap₂, ◌∙◌, subst, arith}
use Rattle.std.specs.Prelude.{slice_index, slice_index_or, zip}
use Rattle.std.specs.Int.Bits.{xor_lt}
use Rattle.std.proofs.lemmas.Bool.{cases_lt}
use Rattle.std.proofs.lemmas.List.{get_or-map, length-map, get_or_past}
use Rattle.std.proofs.lemmas.Slice.Zip.{get_or-zip, length-zip}
use Rattle.rs_field.specs.code.Column.{Shard, IsShard, AreShards, shard_at, column, columns}
use Rattle.rs_field.specs.code.Counts.{Rate}
use Rattle.rs_field.specs.code.Frame.{frame_of, recovery_row}
use Rattle.rs_field.specs.code.Configuration.{Configuration}
use Rattle.rs_field.specs.code.Code.{Codes, AreRecoveryWords, AreRecovery}
use Rattle.rs_field.specs.code.CodeLaws.{xor_bytes, xor_shards}
use Rattle.rs_field.proofs.words_lemmas.Roots.{words_from}
use Rattle.rs_field.proofs.words_lemmas.Factors.{add, value_add, length-add, words_add, all_words}
use Rattle.rs_field.proofs.code_lemmas.Columns.{byte_lt, columns-at, shard_in}
use Rattle.rs_field.proofs.words_lemmas.Packed.{sum_of_bytes}

-- ---- polynomials

-- The first n words of a list are the sums of the words of two other lists.
abbrev AreSums : ℕ → List ℕ → List ℕ → List ℕ → Type 0
AreSums n one other sums = (i : ℕ) → i < n → slice_index sums i ≡ bit_xor (slice_index one i) (slice_index other i)

-- If two polynomials code, their sum codes the sums of the words.
codes_sums : {rate : Rate} {k r : ℕ} {one other : List ℕ} (sums : List ℕ) {p q : List ℕ} → AreSums k one other sums
    → Codes rate k r one p
    → Codes rate k r other q → Codes rate k r sums (add p q)
codes_sums sums are hp hq =
    search (rules, length-add, all_words, words_add, words_from, value_add)

-- The sums of the recovery words are the recovery words of the sums.
recovery_sums : (rate : Rate) (k r : ℕ) (one other sums one_recovery other_recovery recovery : List ℕ)
    → AreSums k one other sums → AreSums r one_recovery other_recovery recovery
    → AreRecoveryWords rate k r one one_recovery → AreRecoveryWords rate k r other other_recovery
    → AreRecoveryWords rate k r sums recovery
recovery_sums rate k r one other sums one_recovery other_recovery recovery are are_recovery (p, codes_p, at_p)
    (q, codes_q, at_q) = (
      add p q,
      codes_sums sums are codes_p codes_q,
      λ i hi. are_recovery i hi ∙ ap₂ bit_xor (at_p i hi) (at_q i hi)
          ∙ sym (value_add p q (recovery_row (frame_of rate k r) i)),
    )

-- ---- shards

length-xor_bytes : (size : ℕ) (s t : Shard) → length s ≡ size → length t ≡ size → length (xor_bytes s t) ≡ size
unfolding xor_bytes
length-xor_bytes size s t hs ht = search (rules, length-map, length-zip)

-- A byte of the XOR of two shards of one size is the XOR of their bytes.
byte-xor : (size : ℕ) (s t : Shard) (i d : ℕ) → length s ≡ size → length t ≡ size → i < size
    → slice_index_or (xor_bytes s t) i d ≡ bit_xor (slice_index s i) (slice_index t i)
unfolding xor_bytes
byte-xor size s t i d hs ht inside =
    let both : length (zip s t) ≡ min (length s) (length t) = length-zip s t in
    cc (
      get_or-map (λ pair. bit_xor pair.0 pair.1) (zip s t) i (0, 0) d (omega arith),
      get_or-zip s t i (0, 0)
          (omega arith) (omega arith),
    )

shard-xor : {size : ℕ} {s t : Shard} → IsShard size s → IsShard size t → IsShard size (xor_bytes s t)
shard-xor {size} {s} {t} hs ht =
    let same : length (xor_bytes s t) ≡ size = length-xor_bytes size s t hs.length_is ht.length_is in
    record {
      length_is = same;
      bytes = λ i d h.
          subst (λ (b : ℕ). b < 256) (sym (byte-xor size s t i d hs.length_is ht.length_is (omega arith)))
          (xor_lt 8 (slice_index s i) (slice_index t i) (byte_lt hs i) (byte_lt ht i));
    }

-- Shard i of the XOR of two lists is the XOR of shard i of each list.
shard_at-xor : (count i : ℕ) (a b : List Shard) (d : Shard) → length a ≡ count → length b ≡ count → i < count
    → slice_index_or (xor_shards a b) i d ≡ xor_bytes (shard_at a i) (shard_at b i)
unfolding xor_shards
shard_at-xor count i a b d ha hb h =
    let both : length (zip a b) ≡ min (length a) (length b) = length-zip a b in
    cc (
      get_or-map (λ pair. xor_bytes pair.0 pair.1) (zip a b) i ([], []) d (omega arith),
      get_or-zip a b i ([], [])
          (omega arith) (omega arith),
    )

shards-xor : {count size : ℕ} {a b : List Shard} → AreShards count size a → AreShards count size b
    → AreShards count size (xor_shards a b)
unfolding xor_shards
shards-xor ha hb = search (rules, length-map, length-zip, shard_at-xor, shard-xor, shard_in)

columns-xor : {count size : ℕ} (j : ℕ) {a b : List Shard} → AreShards count size a → AreShards count size b
    → AreSums count (columns j a) (columns j b) (columns j (xor_shards a b))
unfolding column
columns-xor j ha hb i below =
    search (
      rules,
      columns-at,
      shard_at-xor,
      cases_lt,
      byte-xor,
      get_or_past,
      length-xor_bytes,
      sum_of_bytes,
      byte_lt,
      shard_in,
    )

-- The XOR of the recovery shards of two messages is the list of recovery shards of the XOR of the messages.
pub recovery-xor : (c : Configuration) (one other one_recovery other_recovery : List Shard)
    → AreShards c.original_count c.shard_bytes one → AreShards c.original_count c.shard_bytes other
    → AreRecovery c one one_recovery → AreRecovery c other other_recovery
    → AreRecovery c (xor_shards one other) (xor_shards one_recovery other_recovery)
recovery-xor c one other one_recovery other_recovery a b recovery_a recovery_b = record {
  shards = shards-xor recovery_a.shards recovery_b.shards;
  words = λ j hj.
      recovery_sums c.rate c.original_count c.recovery_count (columns j one) (columns j other)
      (columns j (xor_shards one other))
      (columns j one_recovery) (columns j other_recovery) (columns j (xor_shards one_recovery other_recovery))
      (columns-xor j a b)
      (columns-xor j recovery_a.shards recovery_b.shards)
      (recovery_a.words j hj) (recovery_b.words j hj);
}
