-- A polynomial that is made zero at all other points codes the originals of the high rate.
use Rattle.std.proofs.Common.{rules, ◌≡◌, ℕ, ◌+◌, ◌-◌, ◌^◌, ◌<◌, ◌≤◌, List, length}
use Rattle.std.specs.Prelude.{slice_index}
use Rattle.std.proofs.lemmas.Bool.{cases_lt}
use Rattle.rs_field.specs.words.Polynomial.{value}
use Rattle.rs_field.specs.code.Counts.{Rate, next_power}
use Rattle.rs_field.specs.code.Frame.{frame_of, high_frame}
use Rattle.rs_field.specs.code.Code.{Codes}
use Rattle.rs_field.proofs.words_lemmas.Roots.{WordsOneByOne}
use Rattle.rs_field.proofs.words_lemmas.Factors.{points, times, length-times, words_times, all_words}
use Rattle.rs_field.proofs.words_lemmas.ZerosPast.{value-inside, zero_outside}

-- If the originals of the high rate are below 2 ^ d, a polynomial that codes them below 2 ^ d codes them after it is
-- made zero at the other points.
pub high_codes : (rate : Rate) (k r d : ℕ) (words p : List ℕ) → frame_of rate k r ≡ high_frame k r → d ≤ 16
    → next_power r + k ≤ 2 ^ d → length p ≡ 2 ^ d - next_power r → WordsOneByOne p
    → ((j : ℕ) → j < k → value p (next_power r + j) ≡ slice_index words j)
    → ((x : ℕ) → next_power r + k ≤ x → x < 2 ^ d → value p x ≡ 0)
    → Codes rate k r words (times (points (2 ^ d) (65536 - 2 ^ d)) p)
unfolding high_frame
high_codes rate k r d words p is hd within size w at zero_at =
    search (rules, length-times, all_words, words_times, value-inside, cases_lt, zero_outside)
