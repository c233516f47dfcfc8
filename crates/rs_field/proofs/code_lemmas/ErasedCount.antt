-- The erased points, the given shards and the known zeros are together as many as the rows.
use Rattle.std.proofs.Common.{rules, ◌≡◌, ℕ, zero, suc, ◌+◌, ◌-◌, ◌*◌, ◌<◌, ◌≤◌, Bool, cond, length, refl, sym, ap, ◌∙◌}
use Rattle.std.proofs.Common.{arith, inl, inr, add-zero, add-suc}
use Rattle.std.specs.Prelude.{is_some}
use Rattle.std.proofs.lemmas.Bool.{cases_eq}
use Rattle.std.proofs.lemmas.Grind.{common_steps}
use Rattle.rs_field.specs.code.Given.{Shards, count_below}
use Rattle.rs_field.specs.code.Decoder.{DecoderState, originals_given, recovery_given}
use Rattle.rs_field.specs.code.Frame.{frame_at, original_row, recovery_row}
use Rattle.rs_field.specs.words.Walsh.{total}
use Rattle.rs_field.proofs.words_lemmas.Totals.{total-zero, total-suc}
use Rattle.rs_field.proofs.code_lemmas.Given.{count_below-zero, count_below-suc}
use Rattle.rs_field.proofs.words_lemmas.LocatorProduct.{marked, marked-more, marked-same, AreMarks}
use Rattle.rs_field.proofs.code_lemmas.Frame.{coefficient_count, zeros_end}
use Rattle.rs_field.proofs.code_lemmas.GivenRows.{AreGiven, erased_in, row_count_of, distinct, erasures}

total-marked : (n : ℕ) (marks : ℕ → ℕ) → AreMarks n marks → length (marked n marks) ≡ total n marks
unfolding total marked
total-marked zero marks m = refl
total-marked (suc n) marks m =
    grind (
      arith,
      common_steps,
      cases_eq,
      marked-more,
      marked-same,
      total-marked n marks
          (record { mark = λ y hy. m.mark y (omega arith) }),
    )

-- If n further entries are all m, the sum grows by n times m.
past_same : (m a n b : ℕ) (f : ℕ → ℕ) → a + n ≡ b → ((x : ℕ) → a ≤ x → x < b → f x ≡ m) → total b f ≡ total a f + n * m
past_same m a zero b f e all = omega (arith, ap (λ k. total k f) e, ap (λ k. total k f) (add-zero a))
past_same m a (suc n) b f e all =
    let last : b ≡ suc (a + n) = omega arith in
    let rest = past_same m a n (a + n) f refl (λ x h k. all x h (omega arith)) in
    omega (arith, ap (λ k. total k f) last, total-suc (a + n) f, all (a + n) (omega arith) (omega arith))

one_of_two : (b : Bool) → cond b 0 1 + cond b 1 0 ≡ 1
one_of_two b = search rules

-- If n further entries are one exactly where the map has no shard, the sum of the entries plus the number of
-- shards grows by n.
past_given : (a n : ℕ) (f : ℕ → ℕ) (g : Shards) → ((i : ℕ) → i < n → f (a + i) ≡ cond (is_some (g i)) 0 1)
    → total (a + n) f + count_below n g ≡ total a f + n
past_given a zero f g is = omega (arith, ap (λ k. total k f) (add-zero a), count_below-zero g)
past_given a (suc n) f g is =
    let rest : total (a + n) f + count_below n g ≡ total a f + n = past_given a n f g (λ i h. is i (omega arith)) in
    omega (
      arith,
      rest,
      ap (λ k. total k f) (add-suc a n),
      total-suc (a + n) f,
      count_below-suc n g,
      is n
          (omega arith),
      one_of_two (is_some (g n)),
    )

-- The erased rows, the coefficients and the given shards are together as many as the rows and the originals.
pub counted : {s : DecoderState} → AreGiven s
    → length (marked (row_count_of s) (erased_in s)) + coefficient_count (frame_at s.configuration)
    + (originals_given s + recovery_given s) ≡ row_count_of s + s.configuration.original_count
counted {s} g =
    let c = s.configuration in
    let at = frame_at s.configuration in
    let marks = erased_in s in
    let end = zeros_end (frame_at s.configuration) in
    let rows = row_count_of s in
    let f = distinct g in
    let h = erasures g in
    let erased = total-marked (row_count_of s) (erased_in s) h.are_marks in
    let own = past_given at.originals_from c.original_count (erased_in s) s.originals h.own in
    let coded = past_given at.recovery_from c.recovery_count (erased_in s) s.recovery h.coded in
    let none = past_same 0 (original_row at c.original_count) (end - original_row at c.original_count) end marks
    (omega arith) (λ x above below. h.known x (omega arith) below) in
    elim f.order [
      | inl low ↦
          let start : total at.originals_from marks ≡ 0 = ap (λ n. total n marks) low.0 ∙ total-zero marks in
          let rest = past_same 1 (recovery_row at c.recovery_count) (rows - recovery_row at c.recovery_count) rows marks
          (omega arith)
          (λ x above below. h.other x below (inr (omega (arith, low.1))) (inr above) (inr (omega (arith, low.1)))) in
          omega (arith, erased, own, coded, none, start, (ap (λ n. total n marks) low.1), rest, low.0, low.1)
      | inr high ↦
          let gap = past_same 1 (recovery_row at c.recovery_count)
          (at.originals_from - recovery_row at c.recovery_count) at.originals_from marks (omega (arith, high.0, high.1))
          (λ x above below. h.other x (omega arith) (inl below) (inr above) (inl (omega arith))) in
          let start : total at.recovery_from marks ≡ 0 = ap (λ n. total n marks) high.0 ∙ total-zero marks in
          let last : total rows marks ≡ total end marks = ap (λ n. total n marks) (sym high.2) in
          omega (arith, erased, own, coded, none, start, gap, last, high.0, high.1, high.2)
    ]
