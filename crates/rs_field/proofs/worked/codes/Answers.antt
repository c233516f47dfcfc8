-- Each polynomial passes the tests that decide.
use Rattle.std.proofs.Common.{[], ◌∷◌, ◌++◌, refl}
use Rattle.std.specs.Prelude.{replicate}
use Rattle.rs_field.specs.words.Search.{first_below}
use Rattle.rs_field.specs.words.Field.{product, combine, bits, from_bits, cantor_basis, monomials, carryless, reduce}
use Rattle.rs_field.specs.words.Polynomial.{value}
use Rattle.rs_field.specs.code.Column.{column}
use Rattle.rs_field.specs.code.Counts.{next_power, exponent_of, is_low, low_rate, high_rate, default_rate}
use Rattle.rs_field.specs.code.Frame.{frame_of, low_frame, high_frame}
use Rattle.rs_field.specs.code.CodeLaws.{xor_bytes, xor_shards}
use Rattle.rs_field.specs.worked.Codes.{LowExamples, HighExamples, ShortLineExample, CubicExample, TailExample}
use Rattle.rs_field.specs.worked.Codes.{ChunkAndTailExample}
use Rattle.rs_field.proofs.words_lemmas.Linear.{passes_below}
use Rattle.rs_field.proofs.code_lemmas.Decided.{codes_from, recovery_from, recovery_from_high}
use Rattle.rs_field.proofs.worked.codes.Goals as goal

-- The examples of the low rate pass the tests.
low : LowExamples low_rate × LowExamples default_rate × ShortLineExample low_rate × CubicExample low_rate × TailExample
    × ChunkAndTailExample
unfolding passes_below frame_of low_frame high_frame is_low next_power exponent_of first_below value product combine
    bits
    from_bits cantor_basis monomials carryless reduce column xor_bytes xor_shards
low = (
  (
    (codes_from refl, recovery_from ((2311 ∷ []) ∷ []) refl),
    (codes_from refl, recovery_from ((0 ∷ 1 ∷ []) ∷ []) refl),
    (
      (codes_from refl, recovery_from ((1 ∷ 0 ∷ []) ∷ []) refl),
      refl,
      (codes_from refl, recovery_from ((1 ∷ 1 ∷ []) ∷ []) refl),
      refl,
    ),
    (codes_from refl, recovery_from ((0 ∷ 3 ∷ 2 ∷ 1 ∷ []) ∷ []) refl),
  ),
  (
    (codes_from refl, recovery_from ((2311 ∷ []) ∷ []) refl),
    (codes_from refl, recovery_from ((0 ∷ 1 ∷ []) ∷ []) refl),
    (
      (codes_from refl, recovery_from ((1 ∷ 0 ∷ []) ∷ []) refl),
      refl,
      (codes_from refl, recovery_from ((1 ∷ 1 ∷ []) ∷ []) refl),
      refl,
    ),
    (codes_from refl, recovery_from ((0 ∷ 3 ∷ 2 ∷ 1 ∷ []) ∷ []) refl),
  ),
  (codes_from refl, recovery_from ((0 ∷ 1 ∷ []) ∷ []) refl),
  (codes_from refl, recovery_from ((0 ∷ 0 ∷ 1 ∷ 1 ∷ []) ∷ []) refl),
  recovery_from ((0 ∷ 0 ∷ []) ∷ (0 ∷ 1 ∷ []) ∷ []) refl,
  -- There are 32 columns that are zero, and the last column has the polynomial x.
  recovery_from (replicate 32 (0 ∷ 0 ∷ []) ++ (0 ∷ 1 ∷ []) ∷ []) refl,
)

-- The examples of the high rate pass the tests, below 4 or below 8.
high : HighExamples high_rate × HighExamples default_rate
unfolding passes_below is_low next_power exponent_of first_below value product combine bits from_bits cantor_basis
    monomials
    carryless reduce column
high = (
  (
    recovery_from_high 2 ((10773 ∷ 15782 ∷ 5554 ∷ []) ∷ []) refl,
    recovery_from_high 2 ((2 ∷ 1 ∷ []) ∷ []) refl,
    recovery_from_high 3 ((11 ∷ 6 ∷ 5 ∷ 1 ∷ []) ∷ []) refl,
    recovery_from_high 3 ((3 ∷ 6 ∷ 15 ∷ 4 ∷ 2 ∷ 9 ∷ []) ∷ []) refl,
  ),
  (
    recovery_from_high 2 ((10773 ∷ 15782 ∷ 5554 ∷ []) ∷ []) refl,
    recovery_from_high 2 ((2 ∷ 1 ∷ []) ∷ []) refl,
    recovery_from_high 3 ((11 ∷ 6 ∷ 5 ∷ 1 ∷ []) ∷ []) refl,
    recovery_from_high 3 ((3 ∷ 6 ∷ 15 ∷ 4 ∷ 2 ∷ 9 ∷ []) ∷ []) refl,
  ),
)

pub returns : goal.returns
returns c = record {
  low = low.0;
  short_line = low.2;
  cubic = low.3;
  high = high.0;
  default_low = low.1;
  tail = low.4;
  chunk_and_tail = low.5;
  default_high = high.1;
}
