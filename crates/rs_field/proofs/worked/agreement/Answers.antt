-- A message agrees with given shards if it has these shards. The laws of the code show that no other message agrees.
use Rattle.std.proofs.Common.{◌≡◌, Bool, true, cond, inl, inr, ℕ, zero, suc, List, [], ◌∷◌, refl, sym, ap, ◌∙◌, arith}
use Rattle.std.proofs.Common.{lit<, lit≤}
use Rattle.std.specs.Prelude.{Some, None, ◌&&◌, not, is_some, Ok, Err}
use Rattle.std.proofs.lemmas.Bool.{le-ltb}
use Rattle.rs_field.specs.declared.code.error.Error.TheVariants.{InconsistentShards}
use Rattle.rs_field.specs.words.Search.{first_below}
use Rattle.rs_field.specs.words.Field.{product, combine, bits, from_bits, cantor_basis, monomials, carryless, reduce}
use Rattle.rs_field.specs.words.Polynomial.{value}
use Rattle.rs_field.specs.code.Column.{Shard, AreShards, shard_at, column}
use Rattle.rs_field.specs.code.Counts.{next_power, exponent_of, supports, is_low, default_rate}
use Rattle.rs_field.specs.code.Frame.{frame_of, low_frame, high_frame}
use Rattle.rs_field.specs.code.Configuration.{configuration}
use Rattle.rs_field.specs.code.Code.{AreRecovery}
use Rattle.rs_field.specs.code.CodeLaws.{changed_shards}
use Rattle.rs_field.specs.code.Given.{Shards, nothing, with_entry, count_below}
use Rattle.rs_field.specs.code.Decoder.{IsAgreeing, IsConsistent, missing_of, Restored, DecodeAnswers}
use Rattle.rs_field.specs.worked.Codes.{low_bytes, state_of_two, state_of_surplus, MixtureExample}
use Rattle.rs_field.proofs.words_lemmas.Linear.{passes_below}
use Rattle.rs_field.proofs.code_lemmas.Agreement.{one_message}
use Rattle.rs_field.proofs.code_lemmas.Changes.{changes_noticed}
use Rattle.rs_field.proofs.code_lemmas.Given.{entered_cases, nothing_among, entered_among}
use Rattle.rs_field.proofs.code_lemmas.Decided.{shards_from, recovery_from, recovery_from_high}
use Rattle.rs_field.proofs.worked.agreement.Goals as goal

-- A message of two originals.
abbrev message : List Shard
message = low_bytes (0 ∷ 1 ∷ [])

-- The recovery shards of the message of two originals.
abbrev recovered : List Shard
recovered = low_bytes (2 ∷ 3 ∷ 4 ∷ [])

-- The message consists of two shards of two bytes.
message_shards : AreShards 2 2 message
message_shards = shards_from 2 2 message refl

-- The recovery shards of the message of two originals are values of the polynomial x.
line : AreRecovery (configuration default_rate 2 3 2) message recovered
unfolding passes_below frame_of low_frame high_frame is_low next_power exponent_of first_below value product combine
    bits
    from_bits cantor_basis monomials carryless reduce column
line = recovery_from ((0 ∷ 1 ∷ []) ∷ []) refl

-- The recovery shards of one original are values of a constant.
copies : AreRecovery (configuration default_rate 1 2 2) ((7 ∷ 9 ∷ []) ∷ []) ((7 ∷ 9 ∷ []) ∷ (7 ∷ 9 ∷ []) ∷ [])
unfolding passes_below frame_of low_frame high_frame is_low next_power exponent_of first_below value product combine
    bits
    from_bits cantor_basis monomials carryless reduce column
copies = recovery_from ((2311 ∷ []) ∷ []) refl

-- The message of two originals agrees with two of its recovery shards.
agrees : IsAgreeing state_of_two message
agrees = record {
  shards = message_shards;
  own = nothing_among message;
  coded = (
    recovered,
    line,
    entered_among _ 1 (3 ∷ 0 ∷ []) recovered
        (entered_among nothing 0 (2 ∷ 0 ∷ []) recovered (nothing_among recovered) refl) refl,
  );
}

-- No other message of two originals agrees with these two recovery shards.
only : (m : List Shard) → IsAgreeing state_of_two m → m ≡ message
unfolding supports next_power exponent_of first_below with_entry count_below
only m a = one_message refl refl (lit≤ tt) a agrees

-- The originals that are restored.
abbrev out : Shards
out = with_entry (with_entry nothing 0 (0 ∷ 0 ∷ [])) 1 (1 ∷ 0 ∷ [])

-- Both originals are restored, and nothing else.
out_missing : (i : ℕ) → out i ≡ missing_of state_of_two message i
unfolding with_entry missing_of
out_missing zero = refl
out_missing (suc zero) = refl
out_missing (suc (suc i)) =
    none ∙ sym (ap (λ (b : Bool). cond (b && true) (Some (shard_at message (suc (suc i)))) None)
    (le-ltb (suc (suc i)) 2 (omega arith)))
  where
    none : out (suc (suc i)) ≡ None
    none = elim (entered_cases (with_entry nothing 0 (0 ∷ 0 ∷ [])) 1 (suc (suc i)) (1 ∷ 0 ∷ [])) [
      | inl one ↦ absurd (omega (arith, one.0))
      | inr other ↦ elim (entered_cases nothing 0 (suc (suc i)) (0 ∷ 0 ∷ []))
          [ inl first ↦ absurd (omega (arith, first.0)) | inr last ↦ other.1 ∙ last.1 ]
    ]

-- A decoder with two of the recovery shards restores the message.
restored : Restored state_of_two out
restored = record { message = message; agrees = agrees; only = only; missing = out_missing }

-- A message of four originals.
abbrev four : List Shard
four = low_bytes (0 ∷ 0 ∷ 2 ∷ 3 ∷ [])

-- The recovery shards of the message of four originals.
abbrev four_more : List Shard
four_more = low_bytes (11 ∷ 9 ∷ 14 ∷ 13 ∷ [])

-- The recovery shards of the message of four originals are values of a polynomial that is zero from the point 8 on.
cubic : AreRecovery (configuration default_rate 4 4 2) four four_more
unfolding passes_below is_low next_power exponent_of first_below value product combine bits from_bits cantor_basis
    monomials
    carryless reduce column
cubic = recovery_from_high 3 ((11 ∷ 6 ∷ 5 ∷ 1 ∷ []) ∷ []) refl

-- The message of four originals agrees with two of its originals and two of its recovery shards.
mixture : MixtureExample
mixture = record {
  shards = shards_from 4 2 four refl;
  own = entered_among _ 1 (0 ∷ 0 ∷ []) four (entered_among nothing 3 (3 ∷ 0 ∷ []) four (nothing_among four) refl) refl;
  coded = (
    four_more,
    cubic,
    entered_among _ 0 (11 ∷ 0 ∷ []) four_more
        (entered_among nothing 2 (14 ∷ 0 ∷ []) four_more (nothing_among four_more) refl) refl,
  );
}

-- A message of one original.
abbrev original : List Shard
original = (7 ∷ 9 ∷ []) ∷ []

-- The recovery shards of the message of one original, which are copies of the original.
abbrev copied : List Shard
copied = (7 ∷ 9 ∷ []) ∷ (7 ∷ 9 ∷ []) ∷ []

-- The message of one original agrees with the original and a copy of the original.
original_agrees : IsAgreeing (state_of_surplus (7 ∷ 9 ∷ [])) original
original_agrees = record {
  shards = shards_from 1 2 original refl;
  own = entered_among nothing 0 (7 ∷ 9 ∷ []) original (nothing_among original) refl;
  coded = (copied, copies, entered_among nothing 0 (7 ∷ 9 ∷ []) copied (nothing_among copied) refl);
}

-- No message agrees with an original and a recovery shard that is no copy of the original.
inconsistent : IsConsistent (state_of_surplus (7 ∷ 8 ∷ [])) → ⊥
unfolding supports next_power exponent_of first_below with_entry count_below changed_shards
inconsistent =
    let given = state_of_surplus (7 ∷ 8 ∷ []) in
    changes_noticed given.configuration original copied given.originals given.recovery refl refl
    (shards_from 1 2 original refl) copies (lit< tt) (lit≤ tt)

-- No other message of one original agrees with the original and its copy.
only_original : (m : List Shard) → IsAgreeing (state_of_surplus (7 ∷ 9 ∷ [])) m → m ≡ original
unfolding supports next_power exponent_of first_below with_entry count_below
only_original m a =
    let given = state_of_surplus (7 ∷ 9 ∷ []) in
    one_message refl refl (lit≤ tt) a original_agrees

-- No original is missing if the only original is given.
none_missing : (i : ℕ) → nothing i ≡ missing_of (state_of_surplus (7 ∷ 9 ∷ [])) original i
unfolding with_entry missing_of
none_missing zero = refl
none_missing (suc i) =
    sym (ap (λ (b : Bool).
    cond (b && not (is_some ((state_of_surplus (7 ∷ 9 ∷ [])).originals (suc i))))
    (Some (shard_at original (suc i))) None) (le-ltb (suc i) 1 (omega arith)))

-- A decode of the original and its copy restores no original.
agreed : DecodeAnswers (state_of_surplus (7 ∷ 9 ∷ [])) (Ok nothing)
unfolding with_entry count_below
agreed = record { message = original; agrees = original_agrees; only = only_original; missing = none_missing }

-- A decode of an original and a recovery shard that is no copy of the original returns `InconsistentShards`.
refused : DecodeAnswers (state_of_surplus (7 ∷ 8 ∷ [])) (Err (InconsistentShards 1 1))
unfolding with_entry count_below
refused = record { refusal = refl; surplus = omega arith; none = inconsistent }

pub returns : goal.returns
returns c = record { restored = (agrees, only, restored); mixture = mixture; surplus = (agreed, refused) }
