-- Digests that were computed from bytes.
use Rattle.std.specs.Prelude.{◌≡◌, ℕ, ◌+◌, ◌*◌, List}
use Rattle.std.specs.List.{between}
use Rattle.sha2.specs.Hashers.{Holds256}
use Rattle.sha2.specs.Sha256.{sha256}
use Rattle.sha2.specs.declared.Sha256.{Sha256}
use Rattle.rs_field.specs.code.Column.{Shard}

-- a hasher has taken some bytes
abbrev pub HasTaken : Sha256 → Type 0
HasTaken hasher = ∥ ((bytes : Shard) × Holds256 hasher bytes) ∥₁

-- a digest is the SHA-256 of some bytes
abbrev pub IsComputed : List ℕ → Type 0
IsComputed digest = ∥ ((bytes : Shard) × (digest ≡ sha256 bytes)) ∥₁

-- the digest with index i, in digests of 32 bytes each
abbrev pub digest_at : List ℕ → ℕ → List ℕ
digest_at digests i = between (32 * i) (32 * i + 32) digests
