-- Lemmas that lead from the results of inner calls to the result of an encode over buffers.
use Rattle.std.proofs.Common.{rules, ◌≡◌, ℕ, ◌*◌, ◌<◌, true, List, [], length, Result, Ok, Err, All, sym, subst, ◌∙◌}
use Rattle.std.proofs.Common.{refl, arith}
use Rattle.std.proofs.lemmas.List.{get_or_default}
use Rattle.rs_field.specs.declared.code.error.Error.{Error}
use Rattle.rs_field.specs.code.Column.{Shard, IsShard}
use Rattle.rs_field.specs.code.Configuration.{start_outcome}
use Rattle.rs_field.specs.code.Counts.{default_rate, supports}
use Rattle.rs_field.specs.code.Frame.{encoder_rows}
use Rattle.rs_field.specs.code.OneCall.{default_of, OneEncodeAnswers}
use Rattle.reed_solomon_simd.specs.Checked.{AreChecked}
use Rattle.reed_solomon_simd.proofs.CallerLemmas.{some_originals}
use Rattle.reed_solomon_simd.proofs.Checking.{are-checked, checked-unset}
use Rattle.rs_ffi.specs.declared.fault.Fault.{Fault}
use Rattle.rs_ffi.specs.Buffers.{length_outcome, shards_in_buffer, concatenation}
use Rattle.rs_ffi.specs.Answers.{EncodesBuffer, Writes, encode_lengths}
use Rattle.rs_ffi.proofs.CutLemmas.{cut-length, cut-at, cut-sized}
use Rattle.rs_ffi.proofs.MarkedState.{place-long, place-bytes}

-- If the check of a length finds no fault, the length is right.
pub fits-length : (place count size got : ℕ) → Ok tt ≡ length_outcome place count size got → got ≡ count * size
fits-length place count size got is = search rules

-- If the counts are supported and the checks of both lengths find no fault, the checks before the library is called
-- succeed.
pub lengths-ok : (k r size originals recovery : ℕ) → supports default_rate k r ≡ true
    → Ok tt ≡ length_outcome 0 k size originals → Ok tt ≡ length_outcome 1 r size recovery
    → encode_lengths k r size originals recovery ≡ Ok tt
lengths-ok k r size originals recovery supported own other = rw (supported, ← own, ← other) refl

-- If the counts are supported, the length is right and the size can be set up, the shards of a buffer are checked
-- originals.
pub buffer-checked : (k r size : ℕ) (bytes : List ℕ) → supports default_rate k r ≡ true → length bytes ≡ k * size
    → All (λ b. b < 256) bytes
    → Ok tt ≡ start_outcome (encoder_rows default_rate k r) (default_of k r size)
    → AreChecked k r size (shards_in_buffer k size bytes)
buffer-checked k r size bytes supported whole all made =
    are-checked k r size (shards_in_buffer k size bytes) (some_originals default_rate k r supported)
    (cut-length k size bytes) each made
  where
    each : All (IsShard size) (shards_in_buffer k size bytes)
    each i d h =
        let inside : i < k = (let number = cut-length k size bytes in omega (arith, h, number)) in
        let long = place-long size bytes k i whole inside in
        subst (IsShard size)
        (sym (get_or_default (shards_in_buffer k size bytes) i d [] h ∙ cut-at k size bytes i inside))
        (record { length_is = long; bytes = place-bytes size bytes i all long })

-- If the size cannot be set up, one call for the shards of a buffer fails with the same error.
pub buffer-unset : (k r size : ℕ) (bytes : List ℕ) (e : Error) → supports default_rate k r ≡ true
    → length bytes ≡ k * size
    → Err e ≡ start_outcome (encoder_rows default_rate k r) (default_of k r size)
    → OneEncodeAnswers k r (shards_in_buffer k size bytes) (Err e)
buffer-unset k r size bytes e supported whole refused =
    search (rules, some_originals, cut-length, checked-unset, cut-sized)

-- If the counts and lengths are right, the result of the encode over buffers is the result of one call.
pub encodes : (k r size : ℕ) (originals old new : List ℕ) (answer : Result (Unit {0}) Fault)
    (coded : Result (List Shard) Error) → supports default_rate k r ≡ true
    → Ok tt ≡ length_outcome 0 k size (length originals)
    → Ok tt ≡ length_outcome 1 r size (length old) → OneEncodeAnswers k r (shards_in_buffer k size originals) coded
    → Writes coded concatenation old new answer → EncodesBuffer k r size originals old new answer
encodes k r size originals old new answer coded supported own other answers writes =
    rw (lengths-ok k r size (length originals) (length old) supported own other) (coded, answers, writes)
