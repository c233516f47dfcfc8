-- Lemmas that lead from the results of inner calls to the result of a decode over buffers.
use Rattle.std.proofs.Common.{rules, ◌≡◌, ℕ, zero, suc, ◌+◌, ◌*◌, ◌==◌, true, not, List, [], ◌∷◌, ◌++◌, length, take}
use Rattle.std.proofs.Common.{drop, None, Result, Ok, inl, inr, sym, ap, ◌∙◌, refl, arith}
use Rattle.std.proofs.lemmas.Bool.{cases_eq, eq-eqb, ne_eqb}
use Rattle.std.proofs.Math.Nat.{suc-mul}
use Rattle.std.proofs.lemmas.List.{length-drop, take-append-drop, nil_from_length}
use Rattle.std.specs.List.{count_by}
use Rattle.rs_field.specs.declared.code.error.Error.{Error}
use Rattle.rs_field.specs.code.Counts.{default_rate, supports}
use Rattle.rs_field.specs.code.Given.{Shards, nothing}
use Rattle.rs_field.specs.code.Outcome.{result_and_then}
use Rattle.rs_field.specs.code.OneCall.{OneDecodeAnswers}
use Rattle.reed_solomon_simd.specs.Giving.{IsDecoding}
use Rattle.rs_ffi.specs.declared.fault.Fault.{Fault}
use Rattle.rs_ffi.specs.Buffers.{length_outcome, marked_shards, with_restored}
use Rattle.rs_ffi.specs.Answers.{DecodesBuffer, Writes, all_or_refused}
use Rattle.rs_ffi.proofs.EncodeLemmas.{lengths-ok}
use Rattle.rs_ffi.proofs.MarkedLemmas.{present, count-present, originals_alone-marked}

-- If all marks are 0, there is no marked shard.
pub marked-none : (i size : ℕ) (marks bytes : List ℕ) → present marks ≡ 0 → marked_shards i size marks bytes ≡ []
marked-none i size [] bytes none = refl
marked-none i size (mark ∷ marks) bytes none = elim (cases_eq mark 0) [
  | inl lost ↦ rw (eq-eqb mark 0 lost)
      (marked-none (i + 1) size marks (drop size bytes) (rw (eq-eqb mark 0 lost) at none))
  | inr kept ↦ let some = rw (ne_eqb mark 0 kept) at none in absurd (omega (arith, some))
]

-- If no recovery shard is marked, the result of one call is the result of the check that all originals are marked.
pub decodes-unmarked : (k r size : ℕ) (own other old recovery : List ℕ) (o : Result (Unit {0}) Error)
    → supports default_rate k r ≡ true → length own ≡ k → count_by (λ mark. not (mark == 0)) other ≡ 0
    → o ≡ all_or_refused (length own) (count_by (λ mark. not (mark == 0)) own)
    → IsDecoding k r (marked_shards 0 size own old) (marked_shards 0 size other recovery)
    (result_and_then (λ _. Ok None) o)
decodes-unmarked k r size own other old recovery o supported many none is =
    search (rules, marked-none, count-present, originals_alone-marked)

-- If nothing is restored, the buffer is unchanged.
pub with-nothing : (i size n : ℕ) (bytes : List ℕ) → length bytes ≡ n * size
    → with_restored nothing i size n bytes ≡ bytes
with-nothing i size zero bytes sized = sym (nil_from_length bytes (omega (arith, sized)))
with-nothing i size (suc n) bytes sized =
    let more = suc-mul n size in
    ap (λ (l : List ℕ). take size bytes ++ l)
    (with-nothing (i + 1) size n (drop size bytes) (length-drop size bytes ∙ omega (arith, sized, more)))
    ∙ take-append-drop size bytes

-- If the counts and lengths are right, the result of the decode over buffers is the result of one call.
pub decodes : (k r size : ℕ) (marks recovery old new : List ℕ) (answer : Result (Unit {0}) Fault)
    (decoded : Result Shards Error) → supports default_rate k r ≡ true → Ok tt ≡ length_outcome 0 k size (length old)
    → Ok tt ≡ length_outcome 1 r size (length recovery) → Ok tt ≡ length_outcome 2 (k + r) 1 (length marks)
    → OneDecodeAnswers k r (marked_shards 0 size (take k marks) old)
    (marked_shards 0 size (drop k marks) recovery) decoded
    → Writes decoded (λ restored. with_restored restored 0 size k old) old new answer
    → DecodesBuffer k r size marks recovery old new answer
decodes k r size marks recovery old new answer decoded supported own other all answers writes =
    rw (lengths-ok k r size (length old) (length recovery) supported own other, ← all) (decoded, answers, writes)
