-- Any k shards of one size are shards of exactly one codeword.
use Rattle.std.proofs.Common.{◌≡◌, ℕ, ◌+◌, ◌%◌, ◌<◌, cond, ◌∙◌, ◌^◌, sym, ap, arith, add-zero}
use Rattle.std.specs.Prelude.{is_some}
use Rattle.std.proofs.lemmas.Grind.{common_steps}
use Rattle.rs_field.specs.words.Field.{product, power}
use Rattle.rs_field.specs.words.Locator.{log_sum}
use Rattle.rs_field.specs.code.Decoder.{DecoderState, IsConsistent, originals_given, recovery_given}
use Rattle.rs_field.specs.code.DirectLaws.{HasOneMessage, shard_in_row}
use Rattle.rs_field.proofs.words_lemmas.Product.{product_lt}
use Rattle.rs_field.proofs.words_lemmas.PointValues.{coefficients_of}
use Rattle.rs_field.proofs.code_lemmas.DecodedColumn.{IsColumnOf, some_message}
use Rattle.rs_field.proofs.code_lemmas.GivenRows.{AreGiven, given_within, erased_in, words_in, row_count_of, distinct}
use Rattle.rs_field.proofs.code_lemmas.GivenRows.{word-given}
use Rattle.rs_field.specs.code.Frame.{frame_at}
use Rattle.rs_field.proofs.code_lemmas.AgreeingMessages.{consistent}
use Rattle.rs_field.proofs.code_lemmas.Agreement.{one_message}

-- The located word of a row: the word times the power of the locator if a shard is given, else 0.
located_at : DecoderState → ℕ → ℕ → ℕ
located_at s j x =
    cond (is_some (shard_in_row s x)) (product (words_in s j x) (power (log_sum (row_count_of s) (erased_in s) x))) 0

located_at_lt : (s : DecoderState) (j x : ℕ) → located_at s j x < 2 ^ 16
unfolding located_at
located_at_lt s j x = grind (arith, common_steps, product_lt)

-- The rows of a column that is made from the given shards.
is_column : (s : DecoderState) → AreGiven s → (j : ℕ)
    → (coefficients : ℕ → ℕ) × IsColumnOf s j (located_at s j) coefficients
unfolding located_at
is_column s g j =
    let (coefficients, are) = coefficients_of (frame_at s.configuration).exponent (located_at s j) (distinct g).few
    (located_at_lt s j) in (
      coefficients,
      record {
        given = λ x shard hx is.
            ap (λ o. cond (is_some o) (product (words_in s j x) (power (log_sum (row_count_of s) (erased_in s) x))) 0)
            is
            ∙ ap (λ w. product w (power (log_sum (row_count_of s) (erased_in s) x))) (word-given s j x shard is);
        none = λ x hx is.
            ap (λ o. cond (is_some o) (product (words_in s j x) (power (log_sum (row_count_of s) (erased_in s) x))) 0)
            is;
        are_words = λ x hx. are.word x;
        back = are.at;
      },
    )

-- ---- codewords

-- Some message agrees with any k shards of one size.
pub any_consistent : {s : DecoderState} → AreGiven s → s.configuration.shard_bytes % 2 ≡ 0
    → originals_given s + recovery_given s ≡ s.configuration.original_count → IsConsistent s
any_consistent {s} g even count =
    consistent g even (λ j hj.
    let (coefficients, is) = is_column s g j in
    some_message g is 0 (count ∙ sym (add-zero s.configuration.original_count))
    (λ i above below. absurd (let no : ⊥ = omega arith in no)))

-- Any k shards of one size agree with exactly one message.
pub one_codeword : HasOneMessage
one_codeword c originals recovery is even own coded count =
    let (message, agrees) = any_consistent (given_within c originals recovery is own coded) even count in
    (message, agrees, λ other a. one_message is even (omega arith) a agrees)
