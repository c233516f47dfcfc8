-- Rows that change places.
use Rattle.std.specs.Prelude.{◌≡◌, ℕ, ◌+◌, ◌*◌, ◌<◌, ◌≤◌, ◌⊎◌}
use Rattle.reed_solomon_simd.specs.Rows.{chunk}
use Rattle.reed_solomon_simd.specs.View.{SameExtent, cell}
use Rattle.rs_field.specs.declared.rows.shards.ShardsRefMut.{ShardsRefMut}

-- chunk c is before row i or after row i
abbrev pub IsOutside : ShardsRefMut → ℕ → ℕ → Type 0
IsOutside r i c = (c < i * r.shard_len_64) ⊎ (i * r.shard_len_64 + r.shard_len_64 ≤ c)

-- rows i and j changed places, and all other chunks are the same, also the chunks after the last row
pub record AreSwapped (i j : ℕ) (old new : ShardsRefMut) : Type 0 where
  pub extent : SameExtent old new
  pub first : (k : ℕ) → k < old.shard_len_64 → cell new k i ≡ cell old k j
  pub second : (k : ℕ) → k < old.shard_len_64 → cell new k j ≡ cell old k i
  pub others : (c : ℕ) → IsOutside old i c → IsOutside old j c → chunk new.chunks.now c ≡ chunk old.chunks.now c

-- rows i and j changed places, and then rows k and l
abbrev pub AreSwappedTwice : ℕ → ℕ → ℕ → ℕ → ShardsRefMut → ShardsRefMut → Type 0
AreSwappedTwice i j k l old new = (mid : ShardsRefMut) × AreSwapped i j old mid × AreSwapped k l mid new
