-- The results of the calls over buffers, and the bytes that they write.
use Rattle.std.specs.Prelude.{◌≡◌, ◌≢◌, ℕ, ◌+◌, ◌==◌, not, count_by, List, take, drop, length, nat_lt, if◌then◌else◌}
use Rattle.std.specs.Prelude.{Result, Ok, Err, MatchResult}
use Rattle.rs_field.specs.declared.code.error.Error.{Error}
use Rattle.rs_field.specs.declared.code.error.Error.TheVariants.{NotEnoughShards, OutOfMemory}
use Rattle.rs_field.specs.code.Outcome.{result_and_then}
use Rattle.reed_solomon_simd.specs.Column.{Shard}
use Rattle.reed_solomon_simd.specs.Given.{Shards}
use Rattle.reed_solomon_simd.specs.OneCall.{OneEncodeAnswers, OneDecodeAnswers, counts_outcome}
use Rattle.rs_ffi.specs.declared.fault.Fault.{Fault}
use Rattle.rs_ffi.specs.declared.fault.Fault.TheVariants.{Refused}
use Rattle.rs_ffi.specs.Faults.{as_fault}
use Rattle.rs_ffi.specs.Buffers.{length_outcome, shards_in_buffer, marked_shards, concatenation, with_restored}

-- a call succeeds and its buffer holds these bytes, or it returns the error and its buffer is not changed
abbrev pub Writes : {T : Type 0} → Result T Error → (T → List ℕ) → List ℕ → List ℕ → Result (Unit {0}) Fault → Type 0
Writes outcome bytes old new answer =
    MatchResult outcome (λ x. (answer ≡ Ok tt) × (new ≡ bytes x)) (λ e. (answer ≡ Err (Refused e)) × (new ≡ old))

-- the result of the checks of an encode over buffers that come before the library is called: first the counts, then the
-- length of the originals (buffer 0), then the length of the recovery shards (buffer 1)
abbrev pub encode_lengths : ℕ → ℕ → ℕ → ℕ → ℕ → Result (Unit {0}) Fault
encode_lengths k r size originals recovery =
    result_and_then (λ _. result_and_then (λ _. length_outcome 1 r size recovery) (length_outcome 0 k size originals))
    (as_fault (counts_outcome k r))

-- the result of `rs_encode` and the bytes that it writes. If the counts and lengths are right, this is the result of
-- one-call `encode` for these shards, one recovery shard after the other
abbrev pub EncodesBuffer : ℕ → ℕ → ℕ → List ℕ → List ℕ → List ℕ → Result (Unit {0}) Fault → Type 0
EncodesBuffer k r size originals old new answer =
    MatchResult (encode_lengths k r size (length originals) (length old))
    (λ _. (coded : Result (List Shard) Error) × OneEncodeAnswers k r (shards_in_buffer k size originals) coded
    × Writes coded concatenation old new answer)
    (λ fault. (answer ≡ Err fault) × (new ≡ old))

-- the result of the checks of a decode over buffers that come before the library is called: first the counts, then the
-- lengths of the originals, of the recovery shards and of the marks (buffer 2)
abbrev pub decode_lengths : ℕ → ℕ → ℕ → ℕ → ℕ → ℕ → Result (Unit {0}) Fault
decode_lengths k r size originals recovery marks =
    result_and_then (λ _. length_outcome 2 (k + r) 1 marks) (encode_lengths k r size originals recovery)

-- the result of `rs_decode` and the bytes that it writes. If the counts and lengths are right, this is the result of
-- one-call `decode` for the marked shards, with each restored original in its place
abbrev pub DecodesBuffer : ℕ → ℕ → ℕ → List ℕ → List ℕ → List ℕ → List ℕ → Result (Unit {0}) Fault → Type 0
DecodesBuffer k r size marks recovery old new answer =
    MatchResult (decode_lengths k r size (length old) (length recovery) (length marks))
    (λ _. (decoded : Result Shards Error)
    × OneDecodeAnswers k r (marked_shards 0 size (take k marks) old)
    (marked_shards 0 size (drop k marks) recovery) decoded
    × Writes decoded (λ restored. with_restored restored 0 size k old) old new answer)
    (λ fault. (answer ≡ Err fault) × (new ≡ old))

-- the number of marks that are not 0
abbrev pub marked_number : List ℕ → ℕ
marked_number marks = count_by (λ mark. not (mark == 0)) marks

-- a decode does not fail with `OutOfMemory` if the number of recovery shards is 0
abbrev pub WantsNoMemory : ℕ → Result (Unit {0}) Fault → Type 0
WantsNoMemory number answer = number ≡ 0 → answer ≢ Err (Refused OutOfMemory)

-- the result of a decode without recovery shards that received `given` of the k originals
abbrev pub all_or_refused : ℕ → ℕ → Result (Unit {0}) Error
all_or_refused k given = if nat_lt given k then Err (NotEnoughShards k given 0) else Ok tt
