-- Blocks that were found: bytes with their digests were read.
use Rattle.std.specs.Prelude.{◌≡◌, ℕ, ◌+◌, ◌/◌, ◌^◌, ◌<◌, ◌≤◌, ◌⊎◌, List, length, Option, None, IsSome, slice_index_or}
use Rattle.std.specs.Prelude.{All, take}
use Rattle.rs_volumes.specs.Computed.{IsComputed, digest_at}
use Rattle.rs_volumes.specs.declared.coding_error.CodingError.{CodingError}
use Rattle.rs_volumes.specs.declared.coding_error.CodingError.TheVariants as errors
use Rattle.rs_volumes.specs.declared.creating.Shape.{Shape}
use Rattle.rs_volumes.specs.declared.restoring.Plan.{Plan}

-- block i was found: its place is known
abbrev pub IsFound : {P : Type 0} → List (Option P) → ℕ → Type 0
IsFound places i = IsSome (slice_index_or places i None)

-- the digest of each block that was found is the SHA-256 of some bytes
abbrev pub AreRight : {P : Type 0} → List ℕ → List (Option P) → Type 0
AreRight digests places = (i : ℕ) → IsFound places i → IsComputed (digest_at digests i)

-- block i was found, and its digest is the SHA-256 of some bytes
abbrev pub IsRight : {P : Type 0} → List ℕ → List (Option P) → ℕ → Type 0
IsRight digests places i = IsFound places i × IsComputed (digest_at digests i)

-- digests i and j are there, and are the same
abbrev pub HaveSameDigest : List ℕ → ℕ → ℕ → Type 0
HaveSameDigest digests i j =
    (i < length digests / 32) × (j < length digests / 32) × (digest_at digests i ≡ digest_at digests j)

-- each block that a plan reads was found, and its digest is the SHA-256 of some bytes
pub record ReadsRight {P : Type 0} (shape : Shape) (plan : Plan) (digests : List ℕ) (places : List (Option P)) : Type 0
  where
    pub originals : All (λ n. IsRight digests places (0 + n)) plan.originals.items
    pub recovery : All (λ n. IsRight digests places (shape.original_count + n)) plan.recovery.items

-- block n, counted from `first` on, was not found: the error has its index, or its number if its index does not fit
-- into 64 bits
abbrev pub NamesBlock : {P : Type 0} → List (Option P) → ℕ → ℕ → CodingError → Type 0
NamesBlock places first n errors.Memory = ⊥
NamesBlock places first n (errors.Read i e) = ⊥
NamesBlock places first n (errors.Write i e) = ⊥
NamesBlock places first n (errors.Code e) = ⊥
NamesBlock places first n (errors.Missing m) = (m ≡ n) × (n < 2 ^ 64) × (2 ^ 64 ≤ first + n)
NamesBlock places first n (errors.NotFound i) = (i ≡ first + n) × (IsFound places i → ⊥)
NamesBlock places first n (errors.Digest i) = ⊥

-- the error names the first one of the blocks with these numbers, counted from `first` on, that was not found
pub record NamesLost {P : Type 0} (places : List (Option P)) (first : ℕ) (numbers : List ℕ) (e : CodingError) : Type 0
  where
    pub at : ℕ
    pub inside : at < length numbers
    pub before : All (λ n. IsFound places (first + n)) (take at numbers)
    pub named : NamesBlock places first (slice_index_or numbers at 0) e

-- the error names the first block that a plan reads and that was not found: original blocks come before recovery blocks
abbrev pub NamesLostOf : {P : Type 0} → Shape → Plan → List (Option P) → CodingError → Type 0
NamesLostOf shape plan places e =
    NamesLost places 0 plan.originals.items e
    ⊎ (All (λ n. IsFound places (0 + n)) plan.originals.items
    × NamesLost places shape.original_count plan.recovery.items e)
