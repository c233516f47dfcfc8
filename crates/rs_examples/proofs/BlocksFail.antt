-- Why a creation and a restore of known blocks in memory fail: only because memory cannot be allocated.
use Rattle.std.proofs.Common.{◌≡◌, ◌⊎◌, ℕ, ◌+◌, ◌-◌, ◌^◌, ◌<◌, ◌≤◌, true, false, List, [], length, get_or}
use Rattle.std.proofs.Common.{Some, Ok, Err, refl, sym, ap, subst, ◌∙◌, inl, inr, arith}
use Rattle.std.specs.Prelude.{Option}
use Rattle.std.specs.IoError.{error_kind}
use Rattle.std.specs.declared.io.Error.{Error as IoError}
use Rattle.std.specs.declared.io.ErrorKind.TheVariants as kinds
use Rattle.std.specs.Global.{Vec}
use Rattle.std.proofs.lemmas.Bool.{le-ltb}
use Rattle.std.proofs.lemmas.List.{length-map}
use Rattle.std.proofs.lemmas.List.Elements.{All-contains}
use Rattle.rs_field.specs.code.Pieces.{pieces}
use Rattle.rs_field.proofs.code_lemmas.OneRoundTrip.{encodes_in_one_call, restores_in_one_call}
use Rattle.rs_field.proofs.code_lemmas.PieceStates.{shards-cut, recovery-cut}
use Rattle.reed_solomon_simd.specs.declared.Error.{Error}
use Rattle.reed_solomon_simd.specs.declared.Error.TheVariants as code
use Rattle.reed_solomon_simd.specs.Column.{Shard, shard_at}
use Rattle.reed_solomon_simd.specs.Configuration.{validation_outcome}
use Rattle.reed_solomon_simd.specs.Given.{Shards}
use Rattle.reed_solomon_simd.specs.OneCall.{Items, default_of}
use Rattle.reed_solomon_simd.specs.RoundTrip.{AreCoded, enough_left}
use Rattle.rs_volumes.specs.declared.coding_error.CodingError.{CodingError}
use Rattle.rs_volumes.specs.declared.coding_error.CodingError.TheVariants as errors
use Rattle.rs_volumes.specs.declared.creating.Shape.{Shape}
use Rattle.rs_volumes.specs.declared.restoring.Plan.{Plan}
use Rattle.rs_volumes.specs.Creating.{CreatingFails}
use Rattle.rs_volumes.specs.Failing.{FailsToWrite}
use Rattle.rs_volumes.specs.Restoring.{AreRead, FailsToDecode, HasDigest, Names, ReadsSet, RestoringFails, WritesAll}
use Rattle.rs_volumes.specs.Restoring.{items_of}
use Rattle.rs_volumes.proofs.Originals.{pieces-left}
use Rattle.rs_examples.specs.Blocks.{SaysNoMemory, read_lacks_memory, write_lacks_memory}
use Rattle.rs_examples.proofs.BlocksBack.{strip-valid}

-- A block of which nothing was written at first only fails to be written if memory cannot be allocated.
unwritten : {first : Option Shard} {e : IoError} → first ≡ Some [] → FailsToWrite write_lacks_memory first e
    → error_kind e ≡ kinds.OutOfMemory
unwritten none fails = let next = fails.next none in fails.fails next.0 next.1 next.2

module _ (shape : Shape) (valid : validation_outcome
    (default_of shape.original_count shape.recovery_count shape.block_bytes) ≡ Ok tt) where
  -- A creation from known blocks only fails if memory cannot be allocated.
  pub creating_lacks : (known before : Shards) (e : CodingError)
      → ((i : ℕ) → i < shape.original_count
      → (block : Shard) × (known i ≡ Some block) × (length block ≡ shape.block_bytes))
      → ((i : ℕ) → i < shape.original_count + shape.recovery_count → before i ≡ Some [])
      → CreatingFails shape read_lacks_memory write_lacks_memory known before e → SaysNoMemory e
  creating_lacks known before errors.Memory whole none fails = tt
  creating_lacks known before (errors.Read i e) whole none fails =
      let block = whole i fails.0 in
      let (end, inside, fails) = fails.1 in
      fails block.0 block.1 (omega (arith, inside, block.2))
  creating_lacks known before (errors.Write i e) whole none fails = unwritten (none i fails.0) fails.1
  creating_lacks known before (errors.Code e) whole none fails =
      encodes_in_one_call shape.original_count shape.recovery_count (fails.end - fails.start) fails.pieces (Err e)
      (strip-valid shape.original_count shape.recovery_count shape.block_bytes fails.start fails.end fails.order
      fails.strip valid)
      fails.are.number fails.are.sized fails.answers
  creating_lacks known before (errors.Missing n) whole none fails = fails
  creating_lacks known before (errors.NotFound i) whole none fails = fails
  creating_lacks known before (errors.Digest i) whole none fails = fails

  module _ {plan : Plan} (digests : List ℕ) {known : Shards} (before after : Shards) {originals recovery : List Shard}
      (set : ReadsSet shape plan known originals recovery)
      (few : shape.original_count + shape.recovery_count < 2 ^ 64)
      (enough : shape.original_count ≤ length plan.originals.items + length plan.recovery.items) where
    -- a block that is read has the size of a block
    read_whole : (i : ℕ) → (Names 0 plan.originals.items i ⊎ Names shape.original_count plan.recovery.items i)
        → (block : Shard) × (known i ≡ Some block) × (length block ≡ shape.block_bytes)
    read_whole i (inl named) =
        let own = All-contains (λ n. (n < length originals) × (known (0 + n) ≡ Some (shard_at originals n)))
        plan.originals.items named.0 set.originals_known.each named.1 in (
          shard_at originals named.0,
          ap known named.2 ∙ own.1,
          (set.shards.each named.0 [] own.0).length_is,
        )
    read_whole i (inr named) =
        let own = All-contains
        (λ n. (n < length recovery) × (known (shape.original_count + n) ≡ Some (shard_at recovery n)))
        plan.recovery.items named.0 set.recovery_known.each named.1 in (
          shard_at recovery named.0,
          ap known named.2 ∙ own.1,
          (set.coded.shards.each named.0 [] own.0).length_is,
        )

    -- the number of pieces is the number of blocks
    long_items : {first start end : ℕ} {numbers : List ℕ} {ps : List (ℕ × Vec ℕ)}
        → AreRead first numbers start end known ps → length (items_of ps) ≡ length numbers
    long_items {ps = ps} read =
        let view : ℕ × Vec ℕ → ℕ × Shard = λ q. (q.0, q.1.items) in
        length-map ps view ∙ sym (length-map ps (λ (q : ℕ × Vec ℕ). q.0)) ∙ ap length read.numbers_are

    -- The code only fails if memory cannot be allocated.
    code_lacks : (e : Error) → FailsToDecode shape plan known e → e ≡ code.OutOfMemory
    code_lacks e fails =
        let k : ℕ = shape.original_count in
        let r : ℕ = shape.recovery_count in
        let read : Items = items_of fails.read in
        let received : Items = items_of fails.received in
        let message : List Shard = pieces fails.start fails.end originals in
        let all : List Shard = pieces fails.start fails.end recovery in
        let was : AreCoded k r message all =
        record {
          size = fails.end - fails.start;
          valid = strip-valid k r shape.block_bytes fails.start fails.end fails.order fails.strip valid;
          shards = shards-cut fails.strip set.shards;
          coded = recovery-cut fails.strip set.shards set.coded;
        } in
        let back = restores_in_one_call k r message all read received (Err e) was
        (pieces-left set.originals_known fails.are_read) (pieces-left set.recovery_known fails.are_received)
        fails.answers in
        let least : length message ≤ length read + length received = omega (
          arith,
          was.shards.length_is,
          long_items fails.are_read,
          long_items fails.are_received,
          enough,
        ) in
        let given : enough_left (length message) read received ≡ Ok tt =
        rw (le-ltb (length read + length received) (length message) least) refl in
        elim back.answer [
          | inl same ↦ absurd (let no : ⊥ = cc in no)
          | inr out ↦ cc
        ]

    -- A restore from known blocks of a set, of which enough are read, only fails if memory cannot be allocated.
    pub restoring_lacks : (e : CodingError)
        → ((i : ℕ) → get_or plan.wanted.items i false ≡ true → before i ≡ Some [])
        → (WritesAll (Err e) → (i : ℕ) → get_or plan.wanted.items i false ≡ true
        → after i ≡ Some (shard_at originals i))
        → ((i : ℕ) → get_or plan.wanted.items i false ≡ true → HasDigest digests i (shard_at originals i))
        → RestoringFails shape plan digests read_lacks_memory write_lacks_memory known before after e → SaysNoMemory e
    restoring_lacks errors.Memory none written same fails = tt
    restoring_lacks (errors.Read i e) none written same fails =
        let block = read_whole i fails.0 in
        let (end, inside, may) = fails.1 in
        may block.0 block.1 (omega (arith, inside, block.2))
    restoring_lacks (errors.Write i e) none written same fails = unwritten (none i fails.0) fails.1
    restoring_lacks (errors.Code e) none written same fails = code_lacks e fails
    restoring_lacks (errors.Missing n) none written same fails =
        let own = All-contains
        (λ n. (n < length recovery) × (known (shape.original_count + n) ≡ Some (shard_at recovery n)))
        plan.recovery.items n set.recovery_known.each fails.0 in
        omega (arith, own.0, set.coded.shards.length_is, fails.1, few)
    restoring_lacks (errors.NotFound i) none written same fails = fails
    restoring_lacks (errors.Digest i) none written same fails =
        let (bytes, is, other) = fails.1 (none i fails.0) in
        let own : shard_at originals i ≡ bytes = cc (written tt i fails.0) in
        other (subst (HasDigest digests i) own (same i fails.0))
