-- Any k of the given shards, the base, decide whether some message agrees with all given shards.
use Rattle.std.proofs.Common.{rules, ◌≡◌, ℕ, ◌+◌, ◌/◌, ◌%◌, ◌<◌, Bool, false, List, refl, sym, ap, ◌∙◌, subst, arith}
use Rattle.std.proofs.Common.{inl, inr}
use Rattle.std.specs.Prelude.{Option, Some, is_some, ◌↔◌}
use Rattle.std.proofs.lemmas.Bool.{cases_Bool}
use Rattle.rs_field.specs.words.DirectSum.{direct_sum}
use Rattle.rs_field.specs.code.Column.{Shard, shard_at, column}
use Rattle.rs_field.specs.code.Configuration.{Configuration}
use Rattle.rs_field.specs.code.Decoder.{DecoderState, IsAgreeing, IsConsistent, originals_given, recovery_given}
use Rattle.rs_field.specs.code.DirectLaws.{locator_at, summed_word, IsPartOf, IsSummedDirectly, IsDecidedByBase}
use Rattle.rs_field.specs.code.DirectLaws.{shard_in_row}
use Rattle.rs_field.specs.code.Frame.{original_row, recovery_row, frame_at}
use Rattle.rs_field.specs.code.Given.{Shards, AreAmong, Agrees}
use Rattle.rs_field.proofs.code_lemmas.Given.{some_of}
use Rattle.rs_field.proofs.code_lemmas.Columns.{shard_from_columns, shard_in}
use Rattle.rs_field.proofs.code_lemmas.GivenRows.{AreGiven, state_with, given_within, words_in, row_count_of}
use Rattle.rs_field.proofs.code_lemmas.GivenRows.{given-own, given-coded}
use Rattle.rs_field.proofs.code_lemmas.GivenRows.{given-either}
use Rattle.rs_field.proofs.code_lemmas.DirectColumn.{IsLocated, received-own, received-coded}
use Rattle.rs_field.proofs.code_lemmas.DirectColumn.{direct_original, direct_recovery}
use Rattle.rs_field.proofs.code_lemmas.AnyShards.{any_consistent}

-- A message that agrees with given shards agrees with some of them.
pub agrees_with_part : {c : Configuration} {originals recovery some_originals some_recovery : Shards}
    {message : List Shard} → IsPartOf some_originals originals → IsPartOf some_recovery recovery
    → (a : Agrees c originals recovery message)
    → (part : Agrees c some_originals some_recovery message) × (part.coded.0 ≡ a.coded.0)
agrees_with_part own coded a = (
  record {
    shards = a.shards;
    own = λ i shard e. a.own i shard (own.entries i shard e);
    coded = (a.coded.0, a.coded.1, λ i shard e. a.coded.2 i shard (coded.entries i shard e));
  },
  refl,
)

-- An entry has one shard.
one_shard : (entry : Option Shard) (one other : Shard) → entry ≡ Some one → entry ≡ Some other → one ≡ other
one_shard entry one other e f = cc

-- The locator of all given shards.
abbrev pub locator_in : DecoderState → ℕ → ℕ
locator_in s = locator_at (frame_at s.configuration) s.configuration.original_count s.configuration.recovery_count
    s.originals s.recovery

-- The rows of all given shards, and their locator.
pub all_located : (s : DecoderState) → IsLocated s (λ x. is_some (shard_in_row s x)) (locator_in s)
unfolding locator_at
all_located s = search rules

-- Each missing word is the direct sum over the given shards.
pub summed_directly : IsSummedDirectly
unfolding summed_word
summed_directly c originals recovery message i j is own coded enough agrees hj =
    let s : DecoderState = state_with c originals recovery in
    let g = given_within c originals recovery is own coded in (
      direct_original g (all_located s) enough agrees i j hj,
      direct_recovery g (all_located s) enough agrees i j hj,
    )

-- ---- the base

-- These sums are the words of each given shard whose row is not in the base.
abbrev pub AreSums : DecoderState → (ℕ → Bool) → (ℕ → ℕ → ℕ) → Type 0
AreSums s in_base sum =
    (x j : ℕ) (shard : Shard) → shard_in_row s x ≡ Some shard → in_base x ≡ false → j < s.configuration.shard_bytes / 2
    → sum j x ≡ column j shard

-- The shards of a base are given shards.
pub base_given : {s : DecoderState} {originals recovery : Shards} → AreGiven s → IsPartOf originals s.originals
    → IsPartOf recovery s.recovery → AreGiven (state_with s.configuration originals recovery)
base_given g own coded = record {
  supported = g.supported;
  own_sized = record { each = λ i shard e. g.own_sized.each i shard (own.entries i shard e) };
  coded_sized = record { each = λ i shard e. g.coded_sized.each i shard (coded.entries i shard e) };
}

module _ {s : DecoderState} (g : AreGiven s) {base_originals base_recovery : Shards}
    (own_part : IsPartOf base_originals s.originals) (coded_part : IsPartOf base_recovery s.recovery)
    {in_base : ℕ → Bool} {locator : ℕ → ℕ}
    (l : IsLocated (state_with s.configuration base_originals base_recovery) in_base locator) where
  abbrev base : DecoderState
  base = state_with s.configuration base_originals base_recovery

  -- The sum over the base at a point.
  abbrev base_sum : ℕ → ℕ → ℕ
  base_sum j = direct_sum (row_count_of s) in_base locator
      (words_in (state_with s.configuration base_originals base_recovery) j)

  -- The shards of the base are given shards.
  given_base : AreGiven base
  given_base = base_given g own_part coded_part

  module _ (even : s.configuration.shard_bytes % 2 ≡ 0)
      (count : originals_given base + recovery_given base ≡ s.configuration.original_count) where
    module _ (message : List Shard) (a : IsAgreeing base message) where
      -- The sum at the point of an original or of a recovery shard outside the base is its word.
      own_sum : (i j : ℕ) → j < s.configuration.shard_bytes / 2 → i < s.configuration.original_count
          → in_base (original_row (frame_at s.configuration) i) ≡ false
          → base_sum j (original_row (frame_at s.configuration) i) ≡ column j (shard_at message i)
      own_sum i j hj hi none = direct_original given_base l (omega (arith, count)) a i j hj hi
          (sym (received-own given_base l i hi) ∙ none)

      coded_sum : (i j : ℕ) → j < s.configuration.shard_bytes / 2 → i < s.configuration.recovery_count
          → in_base (recovery_row (frame_at s.configuration) i) ≡ false
          → base_sum j (recovery_row (frame_at s.configuration) i) ≡ column j (shard_at a.coded.0 i)
      coded_sum i j hj hi none = direct_recovery given_base l (omega (arith, count)) a i j hj hi
          (sym (received-coded given_base l i hi) ∙ none)

      sums : AreAmong s.originals message → AreAmong s.recovery a.coded.0 → AreSums s in_base base_sum
      sums own coded x j shard is none hj = search (rules, given-either, own_sum, coded_sum)

      own_shard : AreSums s in_base base_sum → AreAmong s.originals message
      own_shard equal i shard given =
          let (hi, sized) = g.own_sized.each i shard given in
          elim (cases_Bool (is_some (base_originals i))) [
            | inl some ↦
                let (same, e) = some_of (base_originals i) some in
                a.own i same e ∙ one_shard (s.originals i) same shard (own_part.entries i same e) given
            | inr missing ↦
                shard_from_columns
                (shard_in a.shards i hi) sized even
                (λ j hj.
                sym (own_sum i j hj hi (received-own given_base l i hi ∙ missing))
                ∙ equal (original_row (frame_at s.configuration) i) j shard (given-own s i shard hi given)
                (received-own given_base l i hi ∙ missing) hj)
          ]

      coded_shard : AreSums s in_base base_sum → AreAmong s.recovery a.coded.0
      coded_shard equal i shard given =
          let (hi, sized) = g.coded_sized.each i shard given in
          elim (cases_Bool (is_some (base_recovery i))) [
            | inl some ↦
                let (same, e) = some_of (base_recovery i) some in
                a.coded.2 i same e ∙ one_shard (s.recovery i) same shard (coded_part.entries i same e) given
            | inr missing ↦
                shard_from_columns
                (shard_in a.coded.1.shards i hi)
                sized even
                (λ j hj.
                sym (coded_sum i j hj hi (received-coded given_base l i hi ∙ missing))
                ∙ equal (recovery_row (frame_at s.configuration) i) j shard (given-coded g i shard hi given)
                (received-coded given_base l i hi ∙ missing) hj)
          ]

    -- Some message agrees with all given shards if and only if the direct sums over k of them are the words of the
    -- others.
    pub consistent_by_sums : IsConsistent s ↔ AreSums s in_base base_sum
    consistent_by_sums = (
      λ m.
          let (a, same) = agrees_with_part own_part coded_part m.1 in
          sums m.0 a m.1.own (subst (AreAmong s.recovery) (sym same) m.1.coded.2),
      λ equal.
          let (message, agrees) =
          any_consistent given_base even count in (
            message,
            record {
              shards = agrees.shards;
              own = own_shard message agrees equal;
              coded = (agrees.coded.0, agrees.coded.1, coded_shard message agrees equal);
            },
          ),
    )

-- The law `IsDecidedByBase` about any k of the given shards as the base.
pub consistent_by_base : IsDecidedByBase
unfolding summed_word
consistent_by_base c originals recovery base_originals base_recovery is even own coded own_part coded_part count =
    let base : DecoderState = state_with c base_originals base_recovery in
    let g = given_within c originals recovery is own coded in
    let sum : ℕ → ℕ → ℕ = summed_word c base_originals base_recovery in
    let given_base = base_given g own_part coded_part in
    let own_is = received-own given_base (all_located base) in
    let coded_is = received-coded given_base (all_located base) in
    let both = consistent_by_sums g own_part coded_part (all_located base) even count in (
      λ m.
          let equal = both.0 m in
          record {
            own = λ i shard j given missing hj.
                let hi = (g.own_sized.each i shard given).0 in
                equal (original_row (frame_at c) i) j shard
                (given-own (state_with c originals recovery) i shard hi given) (own_is i hi ∙ missing) hj;
            coded = λ i shard j given missing hj.
                let hi = (g.coded_sized.each i shard given).0 in
                equal (recovery_row (frame_at c) i) j shard (given-coded g i shard hi given) (coded_is i hi ∙ missing)
                hj;
          },
      λ summed. both.1 (λ x j shard given none hj. elim (given-either g x shard given) [
        | inl here ↦
            ap (sum j) here.2 ∙ summed.own here.0 shard j here.3
            (sym (own_is here.0 here.1) ∙ ap (λ y. is_some (shard_in_row base y)) (sym here.2) ∙ none) hj
        | inr there ↦
            ap (sum j) there.2 ∙ summed.coded there.0 shard j there.3
            (sym (coded_is there.0 there.1) ∙ ap (λ y. is_some (shard_in_row base y)) (sym there.2) ∙ none) hj
      ]),
    )
