-- Both rates in one frame: the polynomials of a code, and polynomials with one coefficient for each row from the first
-- original to the end of the zero points.
use Rattle.std.proofs.Common.{◌≡◌, ℕ, ◌+◌, ◌-◌, ◌<◌, ◌≤◌, ◌⊎◌, min, List, length, refl, sym, ◌∙◌, arith, inl, inr}
use Rattle.std.proofs.Common.{pow_mono}
use Rattle.std.specs.Prelude.{slice_index}
use Rattle.std.proofs.lemmas.Bool.{cases_lt}
use Rattle.rs_field.specs.words.Polynomial.{value}
use Rattle.rs_field.specs.code.Counts.{Rate}
use Rattle.rs_field.specs.declared.code.frame.Frame.{Frame}
use Rattle.rs_field.specs.code.Frame.{frame_of, row_count, original_row, recovery_row, degree_bound}
use Rattle.rs_field.specs.code.Code.{Codes}
use Rattle.rs_field.proofs.words_lemmas.Roots.{WordsOneByOne, words_from}
use Rattle.rs_field.proofs.words_lemmas.Factors.{all_words}
use Rattle.rs_field.proofs.words_lemmas.ZerosPast.{narrowed, widened}

-- The first row after the zero points, or after the last row
unfoldable pub zeros_end : Frame → ℕ
zeros_end frame = min frame.zeros_to (row_count frame)

-- The number of coefficients of a polynomial that is zero at the zero points among the rows
unfoldable pub coefficient_count : Frame → ℕ
coefficient_count frame = zeros_end frame - frame.originals_from

-- In a frame, k originals, r recovery shards and the zero points have different rows, at most 65536. The zero points
-- come right after the originals; recovery shards come after the zero points, or before the originals. The zero points
-- end among the rows, or they are all further points.
pub record HasDistinctRows (frame : Frame) (k r : ℕ) : Type 0 where
  pub few : frame.exponent ≤ 16
  pub originals : original_row frame k ≤ row_count frame
  pub recovery : recovery_row frame r ≤ row_count frame
  pub zeros : (frame.zeros_from ≤ zeros_end frame) × (zeros_end frame ≤ row_count frame)
  pub follow : frame.zeros_from ≡ original_row frame k
  pub order : ((frame.originals_from ≡ 0) × (frame.recovery_from ≡ zeros_end frame))
      ⊎ ((frame.recovery_from ≡ 0) × (r ≤ frame.originals_from) × (zeros_end frame ≡ row_count frame))
  pub counts : zeros_end frame ≡ coefficient_count frame + frame.originals_from
  pub whole : ((degree_bound frame ≡ coefficient_count frame) × (frame.zeros_to ≡ zeros_end frame))
      ⊎ ((degree_bound frame ≡ coefficient_count frame + (65536 - row_count frame)) × (frame.zeros_to ≡ 65536)
      × (zeros_end frame ≡ row_count frame))

-- A polynomial of the frame that has k words as values at the originals' points, and zero at the known zeros.
pub record CodesIn (frame : Frame) (k : ℕ) (words q : List ℕ) : Type 0 where
  pub degree : length q ≡ coefficient_count frame
  pub coefficients : WordsOneByOne q
  pub originals : (j : ℕ) → j < k → value q (original_row frame j) ≡ slice_index words j
  pub zeros : (x : ℕ) → frame.zeros_from ≤ x → x < zeros_end frame → value q x ≡ 0

module _ {rate : Rate} {k r : ℕ} (f : HasDistinctRows (frame_of rate k r) k r) {words p : List ℕ} where
  -- A polynomial that codes words has, at each row, the value of a polynomial of the frame.
  pub framed : Codes rate k r words p
      → (q : List ℕ) × CodesIn (frame_of rate k r) k words q
      × ((x : ℕ) → x < row_count (frame_of rate k r) → value q x ≡ value p x)
  framed c =
      let zeros = f.zeros in
      elim f.whole [
        | inl same ↦ (
          p,
          record {
            degree = c.degree ∙ same.0;
            coefficients = words_from p c.coefficients;
            originals = c.originals;
            zeros = λ x a b. c.zeros x a (omega (arith, same.1));
          },
          λ x hx. refl,
        )
        | inr wide ↦
            let q = narrowed (frame_of rate k r).exponent (coefficient_count (frame_of rate k r)) p f.few
            (c.degree ∙ wide.0) (words_from p c.coefficients)
            (λ x a b. c.zeros x (omega (arith, wide.2)) (omega (arith, wide.1))) in (
              q.0,
              record {
                degree = q.1;
                coefficients = q.2;
                originals = λ j hj. q.3 (original_row (frame_of rate k r) j) (omega arith) ∙ c.originals j hj;
                zeros = λ x a b. q.3 x (omega arith)
                    ∙ c.zeros x a
                    (omega (arith, wide.1, wide.2, pow_mono {i = (frame_of rate k r).exponent} {j = 16} f.few));
              },
              q.3,
            )
      ]

module _ (rate : Rate) {k r : ℕ} (f : HasDistinctRows (frame_of rate k r) k r) (words p : List ℕ) where
  -- A polynomial of the frame has, at each row, the value of a polynomial that codes.
  pub unframed : CodesIn (frame_of rate k r) k words p
      → (q : List ℕ) × Codes rate k r words q
      × ((x : ℕ) → x < row_count (frame_of rate k r) → value q x ≡ value p x)
  unframed c =
      let zeros = f.zeros in
      elim f.whole [
        | inl same ↦ (
          p,
          record {
            degree = c.degree ∙ sym same.0;
            coefficients = all_words p c.coefficients;
            originals = c.originals;
            zeros = λ x a b. c.zeros x a (omega (arith, same.1));
          },
          λ x hx. refl,
        )
        | inr wide ↦
            let q = widened (frame_of rate k r).exponent (coefficient_count (frame_of rate k r)) p f.few c.degree
            c.coefficients in (
              q.0,
              record {
                degree = q.1 ∙ sym wide.0;
                coefficients = all_words q.0 q.2;
                originals = λ j hj. q.3 (original_row (frame_of rate k r) j) (omega arith) ∙ c.originals j hj;
                zeros = λ x a b. elim (cases_lt x (row_count (frame_of rate k r))) [
                  | inl below ↦ q.3 x below ∙ c.zeros x a (omega (arith, wide.2))
                  | inr above ↦ q.4 x above (omega (arith, wide.1))
                ];
              },
              q.3,
            )
      ]
