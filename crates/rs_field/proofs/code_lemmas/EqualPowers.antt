-- If both counts have the same power of two, both rates have the same recovery words.
use Rattle.std.proofs.Common.{rules, ◌≡◌, ℕ, suc, ◌+◌, ◌^◌, ◌<◌, ◌≤◌, List, [], ◌∷◌, length, bit_xor, refl, sym, ap}
use Rattle.std.proofs.Common.{◌∙◌, arith, inl, inr, one-mul, zero-add, pow_mono}
use Rattle.std.specs.Prelude.{slice_index, ◌↔◌, true}
use Rattle.std.specs.Int.Bits.{xor_comm, xor_shifted}
use Rattle.std.proofs.lemmas.Bool.{cases_lt}
use Rattle.rs_field.specs.words.Polynomial.{value}
use Rattle.rs_field.specs.code.Counts.{low_rate, high_rate, next_power, exponent_of, supports, is_low}
use Rattle.rs_field.specs.code.Frame.{frame_of, low_frame, high_frame}
use Rattle.rs_field.specs.code.Code.{Codes, AreRecoveryWords, AreRecovery}
use Rattle.rs_field.specs.code.Column.{Shard}
use Rattle.rs_field.specs.code.Configuration.{configuration}
use Rattle.rs_field.proofs.words_lemmas.Halves.{xor_undo}
use Rattle.rs_field.proofs.words_lemmas.Roots.{WordsOneByOne, value-nil, value-cons, value-one}
use Rattle.rs_field.proofs.words_lemmas.Factors.{add, with_root, value_add, value_with_root, length-add}
use Rattle.rs_field.proofs.words_lemmas.Factors.{length-with_root}
use Rattle.rs_field.proofs.words_lemmas.Factors.{words_add, words_with_root, all_words}
use Rattle.rs_field.proofs.code_lemmas.Unique.{codes_unique}
use Rattle.rs_field.proofs.code_lemmas.NextPower.{next_power-small, next_power-least, next_power-above}
use Rattle.rs_field.proofs.code_lemmas.Frame.{coefficient_count, zeros_end, framed}
use Rattle.rs_field.proofs.code_lemmas.SupportedCounts.{high_fits}
use Rattle.rs_field.proofs.code_lemmas.RateFrames.{high_distinct}
use Rattle.rs_field.proofs.code_lemmas.CodedWords.{recovered, coded_lt}

-- ---- a polynomial with its argument moved by c

moved : ℕ → List ℕ → List ℕ
moved c [] = []
moved c (a ∷ p) = add (with_root c (moved c p)) (a ∷ [])

value-moved : (c : ℕ) (p : List ℕ) (x : ℕ) → value (moved c p) x ≡ value p (bit_xor x c)
unfolding moved
value-moved c [] x = value-nil x ∙ sym (value-nil (bit_xor x c))
value-moved c (a ∷ p) x =
    search (rules, value_add, moved, value_with_root, value-one, xor_comm, value-cons, value-moved c p x)

length-moved : (c : ℕ) (p : List ℕ) → length (moved c p) ≡ length p
unfolding moved
length-moved c [] = refl
length-moved c (a ∷ p) = search (rules, moved, length-with_root, length-add, length-moved c p)

words_moved : (c : ℕ) (p : List ℕ) → WordsOneByOne p → WordsOneByOne (moved c p)
unfolding moved
words_moved c [] h = tt
words_moved c (a ∷ p) h =
    words_add (with_root c (moved c p)) (a ∷ []) (words_with_root c (moved c p) (words_moved c p h.1)) (h.0, tt)

-- ---- points moved by a power of two

up : (d j : ℕ) → j < 2 ^ d → bit_xor j (2 ^ d) ≡ 2 ^ d + j
up d j h = xor_comm j (2 ^ d) ∙ ap (λ w. bit_xor w j) (sym (one-mul (2 ^ d))) ∙ xor_shifted 1 d j h
    ∙ ap (λ w. w + j) (one-mul (2 ^ d))

down : (d j : ℕ) → j < 2 ^ d → bit_xor (2 ^ d + j) (2 ^ d) ≡ j
down d j h = ap (λ w. bit_xor w (2 ^ d)) (sym (up d j h)) ∙ xor_undo j (2 ^ d)

-- ---- the law

-- If both counts have the power m, the high rate has 2 m rows.
rows_double : (k r d e : ℕ) → 0 < k → d ≤ 16 → next_power r ≡ 2 ^ d → k ≤ 2 ^ d → next_power (next_power r + k) ≡ 2 ^ e
    → next_power r + k ≤ 2 ^ e → 2 ^ e ≡ 2 ^ d + 2 ^ d
rows_double k r d e some hd power most rows above =
    let least : next_power (next_power r + k) ≤ 2 ^ suc d =
    next_power-least (next_power r + k) (suc d) (omega arith) (omega arith) in
    elim (cases_lt d e) [
      | inl more ↦ let big : 2 ^ suc d ≤ 2 ^ e = pow_mono more in omega arith
      | inr less ↦ let small : 2 ^ e ≤ 2 ^ d = pow_mono less in absurd (omega arith)
    ]

-- The polynomial of the high rate, with its argument moved by m, codes at the low rate.
record IsMoved (k r d : ℕ) (words p q : List ℕ) : Type 0 where
  codes : Codes low_rate k r words q
  recovery : (i : ℕ) → i < r → value q (2 ^ d + i) ≡ value p i

moved_codes : {k r : ℕ} (d : ℕ) {words p : List ℕ} → 0 < k → d ≤ 16 → next_power r ≡ 2 ^ d → next_power k ≡ 2 ^ d
    → k ≤ 2 ^ d
    → r ≤ 2 ^ d → next_power r + k ≤ 65536
    → Codes high_rate k r words p → (q : List ℕ) × IsMoved k r d words p q
unfolding frame_of low_frame high_frame is_low next_power zeros_end coefficient_count
moved_codes {k} {r} d some hd power_r power_k most_k most_r fit codes =
    let f = high_distinct k r fit (omega arith) in
    let e = exponent_of (2 ^ exponent_of r + k) in
    let rows : 2 ^ exponent_of (2 ^ exponent_of r + k) ≡ 2 ^ d + 2 ^ d =
    rows_double k r d (exponent_of (2 ^ exponent_of r + k)) some hd power_r most_k refl f.originals in
    let q = framed f codes in
    let at : (j : ℕ) → j < 2 ^ d → value (moved (2 ^ d) q.0) j ≡ value q.0 (2 ^ d + j) = λ j hj.
    value-moved (2 ^ d) q.0 j ∙ ap (value q.0) (up d j hj) in (
      moved (2 ^ d) q.0,
      record {
        codes = record {
          degree = length-moved (2 ^ d) q.0 ∙ q.1.degree ∙ omega arith;
          coefficients = all_words (moved (2 ^ d) q.0) (words_moved (2 ^ d) q.0 q.1.coefficients);
          originals = λ j hj.
              ap (value (moved (2 ^ d) q.0)) (zero-add j) ∙ at j (omega arith)
              ∙ ap (λ m. value q.0 (m + j)) (sym power_r) ∙ q.1.originals j hj;
          zeros = λ x a b. at x (omega arith) ∙ q.1.zeros (2 ^ d + x) (omega arith) (omega arith);
        };
        recovery = λ i hi. value-moved (2 ^ d) q.0 (2 ^ d + i) ∙ ap (value q.0) (down d i (omega arith))
            ∙ q.2 i (omega arith);
      },
    )

equal_powers : (k r : ℕ) (words low high : List ℕ) → 0 < k → next_power k ≡ next_power r → next_power r + k ≤ 65536
    → AreRecoveryWords low_rate k r words low → AreRecoveryWords high_rate k r words high → (i : ℕ) → i < r
    → slice_index low i ≡ slice_index high i
unfolding frame_of low_frame high_frame is_low
equal_powers k r words low high some same fit (p, hp, at_low) (o, ho, at_high) i hi =
    let least_r : r ≤ next_power r = next_power-above r (omega arith) in
    let least_k : k ≤ next_power k = next_power-above k (omega arith) in
    let (d, hd, power, _) = next_power-small r (omega arith) in
    let (q, m) = moved_codes d some hd power (same ∙ power) (omega arith) (omega arith) fit ho in
    cc (
      at_low i hi,
      codes_unique
          (omega arith) hp m.codes,
      m.recovery i hi,
      zero-add i,
      at_high i hi,
    )

-- If both counts have one power, the recovery words of the low rate are recovery words of the high rate.
to_high : (k r : ℕ) (words recovery : List ℕ) → supports high_rate k r ≡ true → next_power k ≡ next_power r
    → AreRecoveryWords low_rate k r words recovery → AreRecoveryWords high_rate k r words recovery
to_high k r words recovery high same own =
    let f = high_fits k r high in
    let (other, _, (o, codes, at)) = recovered high_rate k r words high (coded_lt own.1) in
    (o, codes, λ i hi. equal_powers k r words recovery other f.0 same f.2 own (o, codes, at) i hi ∙ at i hi)

to_low : (k r : ℕ) (words recovery : List ℕ) → supports low_rate k r ≡ true → supports high_rate k r ≡ true
    → next_power k ≡ next_power r
    → AreRecoveryWords high_rate k r words recovery → AreRecoveryWords low_rate k r words recovery
to_low k r words recovery low high same own =
    let f = high_fits k r high in
    let (other, _, (o, codes, at)) = recovered low_rate k r words low (coded_lt own.1) in
    (o, codes, λ i hi. sym (equal_powers k r words other recovery f.0 same f.2 (o, codes, at) own i hi) ∙ at i hi)

-- If both counts have one power, the recovery shards of both rates are equal.
pub one_code : (k r size : ℕ) (message recovery : List Shard) → supports low_rate k r ≡ true
    → supports high_rate k r ≡ true → next_power k ≡ next_power r
    → AreRecovery (configuration low_rate k r size) message recovery
    ↔ AreRecovery (configuration high_rate k r size) message recovery
one_code k r size message recovery low high same = search (rules, to_high, to_low)
