-- Messages that agree with given shards, column by column.
use Rattle.std.proofs.Common.{◌≡◌, ℕ, zero, suc, ◌+◌, ◌/◌, ◌%◌, ◌<◌, Bool, cond, eqb, List, [], sym, ap, ◌∙◌, subst}
use Rattle.std.proofs.Common.{arith, inl, inr, eq-eqb, ne_eqb}
use Rattle.std.specs.Prelude.{slice_index, Some}
use Rattle.std.proofs.lemmas.Bool.{cases_eq}
use Rattle.std.proofs.Math.Nat.{mod-eq_of_lt}
use Rattle.rs_field.specs.words.Polynomial.{value}
use Rattle.rs_field.specs.code.Column.{Shard, AreShards, shard_at, column, columns}
use Rattle.rs_field.specs.code.Frame.{original_row, recovery_row, frame_at}
use Rattle.rs_field.specs.code.Given.{Shards}
use Rattle.rs_field.specs.code.Code.{Codes}
use Rattle.rs_field.specs.code.Decoder.{DecoderState, IsAgreeing, IsConsistent}
use Rattle.rs_field.proofs.words_lemmas.Roots.{value_lt, words_from}
use Rattle.rs_field.proofs.code_lemmas.Columns.{columns-at, shard_from_columns}
use Rattle.rs_field.proofs.code_lemmas.DecodedColumn.{TakesGiven, IsTaken}
use Rattle.rs_field.proofs.code_lemmas.GivenRows.{AreGiven, AreSized}
use Rattle.rs_field.proofs.code_lemmas.MadeShards.{shards_of}

-- The polynomial of each column of a message that agrees has the given words as values.
pub column_taken : (s : DecoderState) {message : List Shard} (j : ℕ) → j < s.configuration.shard_bytes / 2
    → IsAgreeing s message
    → (p : List ℕ)
    × Codes s.configuration.rate s.configuration.original_count s.configuration.recovery_count (columns j message) p
    × TakesGiven s j p
column_taken s {message} j hj a =
    let (p, codes, at) = a.coded.1.words j hj in (
      p,
      codes,
      record {
        own = λ i shard hi is.
            codes.originals i hi ∙ columns-at j message i ∙ ap (column j) (a.own i shard is);
        coded = λ i shard hi is.
            sym (at i hi) ∙ columns-at j a.coded.0 i ∙ ap (column j) (a.coded.2 i shard is);
      },
    )

-- If each number below n has some polynomial with a property, there is a function that returns such polynomials.
chosen : (n : ℕ) (P : ℕ → List ℕ → Type 0) → ((j : ℕ) → j < n → (p : List ℕ) × P j p) → (f : ℕ → List ℕ)
    × ((j : ℕ) → j < n → P j (f j))
chosen zero P h = (λ j. [], λ j hj. absurd (let no : ⊥ = omega arith in no))
chosen (suc n) P h =
    let (f, at) = chosen n P (λ j hj. h j (omega arith)) in
    let (p, last) = h n (omega arith) in (
      λ j. cond (eqb j n) p (f j),
      λ j hj. elim (cases_eq j n) [
        | inl e ↦ subst (λ (q : List ℕ). P j q) (sym (ap (λ (b : Bool). cond b p (f j)) (eq-eqb j n e)))
            (subst (λ (k : ℕ). P k p) (sym e) last)
        | inr apart ↦ subst (λ (q : List ℕ). P j q) (sym (ap (λ (b : Bool). cond b p (f j)) (ne_eqb j n apart)))
            (at j (omega arith))
      ],
    )

small : (v : ℕ) → v % 65536 < 65536
small v = omega arith

module _ {s : DecoderState} (g : AreGiven s) (even : s.configuration.shard_bytes % 2 ≡ 0) where
  module _ (f : ℕ → List ℕ) (at : (j : ℕ) → j < s.configuration.shard_bytes / 2 → IsTaken s j (f j)) where
    same_word : (j x : ℕ) → j < s.configuration.shard_bytes / 2 → value (f j) x % 65536 ≡ value (f j) x
    same_word j x hj = mod-eq_of_lt (value_lt (f j) x (words_from (f j) (at j hj).1.coefficients))

    -- Shards whose columns are values of the polynomials are given shards, where these are given.
    taken : (n from : ℕ) (given : Shards) (shards : List Shard) → AreSized n s.configuration.shard_bytes given
        → AreShards n s.configuration.shard_bytes shards
        → ((i j : ℕ) → i < n → j < s.configuration.shard_bytes / 2
        → slice_index (columns j shards) i ≡ value (f j) (from + i) % 65536)
        → ((j i : ℕ) (shard : Shard) → j < s.configuration.shard_bytes / 2 → i < n → given i ≡ Some shard
        → value (f j) (from + i) ≡ column j shard)
        → (i : ℕ) (shard : Shard) → given i ≡ Some shard → shard_at shards i ≡ shard
    taken n from given shards sized are is own i shard e =
        let here = sized.each i shard e in
        shard_from_columns
        (are.each i [] (subst (λ (k : ℕ). i < k) (sym are.length_is) here.0)) here.1 even
        (λ j hj. sym (columns-at j shards i) ∙ is i j here.0 hj ∙ same_word j (from + i) hj ∙ own j i shard hj here.0 e)

    -- The polynomials have shards as their values, and these shards agree with the given shards.
    by_polynomials : IsConsistent s
    by_polynomials =
        let c = s.configuration in
        let frame = frame_at s.configuration in
        let (message, are, is) = shards_of c.original_count c.shard_bytes
        (λ i j. value (f j) (original_row (frame_at s.configuration) i) % 65536)
        (λ i j. small (value (f j) (original_row (frame_at s.configuration) i))) in
        let (coded, are_coded, is_coded) = shards_of c.recovery_count c.shard_bytes
        (λ i j. value (f j) (recovery_row (frame_at s.configuration) i) % 65536)
        (λ i j. small (value (f j) (recovery_row (frame_at s.configuration) i))) in (
          message,
          record {
            shards = are;
            own = taken c.original_count frame.originals_from s.originals message g.own_sized are is
                (λ j i shard hj hi e. (at j hj).2.own i shard hi e);
            coded = (
              coded,
              record {
                shards = are_coded;
                words = λ j hj. (
                  f j,
                  record {
                    degree = (at j hj).1.degree;
                    coefficients = (at j hj).1.coefficients;
                    originals = λ i hi.
                        sym (is i j hi hj ∙ same_word j (original_row (frame_at s.configuration) i) hj);
                    zeros = (at j hj).1.zeros;
                  },
                  λ i hi. is_coded i j hi hj ∙ same_word j (recovery_row (frame_at s.configuration) i) hj,
                );
              },
              taken c.recovery_count frame.recovery_from s.recovery coded g.coded_sized are_coded is_coded
                  (λ j i shard hj hi e. (at j hj).2.coded i shard hi e),
            );
          },
        )

  -- If each column has a polynomial that codes and has the given words as values, some message agrees with the given
  -- shards.
  pub consistent : ((j : ℕ) → j < s.configuration.shard_bytes / 2 → (p : List ℕ) × IsTaken s j p) → IsConsistent s
  consistent made =
      let (f, at) = chosen (s.configuration.shard_bytes / 2) (IsTaken s) made in by_polynomials f at
