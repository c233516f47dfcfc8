-- Loops over the strips of shards, from the first bytes of the shards to the last.
use Rattle.std.proofs.Common.{rules, ◌≡◌, ◌⊎◌, ℕ, ◌+◌, ◌-◌, ◌%◌, ◌<◌, ◌≤◌, min, refl, inl, arith}
use Rattle.rs_field.specs.code.Pieces.{IsStrip}

-- The next strip may begin at `start`: a chunk begins there, or the shards end there.
pub record IsCut (start size : ℕ) : Type 0 where
  pub inside : start ≤ size
  pub begins : (start % 64 ≡ 0) ⊎ (start ≡ size)

-- The first strip begins at zero.
pub cut-first : (size : ℕ) → IsCut 0 size
cut-first size = record { inside = omega arith; begins = inl refl }

-- The strip at `start` lies inside the shards, and the strip after it begins where it ends.
pub record IsNext (start part width size whole : ℕ) : Type 0 where
  pub strip : IsStrip start (start + part) whole
  pub cut : IsCut (start + part) size

-- If bytes are left at `start`, the next ones are a strip.
pub strip-next : (bytes : ℕ) {start part width size whole : ℕ} → width ≡ min bytes size
    → part ≡ min width (size - start) → bytes % 64 ≡ 0 → IsCut start size → start < size → size ≡ whole
    → IsNext start part width size whole
strip-next bytes {start} {part} {width} {size} width_is part_is chunks cut more long = search rules

-- If no bytes are left, the strips end where the shards end.
pub cut-last : {start size whole : ℕ} → IsCut start size → size ≤ start → size ≡ whole → start ≡ whole
cut-last cut none long = let inside = cut.inside in omega (arith, inside, none, long)

-- A strip of a shard of even size has an even number of bytes.
pub strip-even : {start end size : ℕ} → IsStrip start end size → size % 2 ≡ 0 → (end - start) % 2 ≡ 0
strip-even strip even = search rules

-- A strip of a shard without a tail has no tail.
pub strip-whole : {start end size : ℕ} → IsStrip start end size → size % 64 ≡ 0 → (end - start) % 64 ≡ 0
strip-whole strip whole = search rules
