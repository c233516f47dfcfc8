-- Symbols, and the two bytes of each symbol.
use Rattle.std.proofs.Common.{◌≡◌, ℕ, ◌+◌, ◌*◌, ◌<◌, List, [], ◌∷◌, zero, suc, Fits, w8, length, get_or, take}
use Rattle.std.proofs.Common.{replicate, arith, ap, ap₂, subst, ◌∙◌}
use Rattle.std.specs.Prelude.{flat_map}
use Rattle.std.proofs.lemmas.List.{get_or-replicate}
use Rattle.std.proofs.lemmas.List.Concat.{get_or-flat_map}
use Rattle.rs_field.specs.rows.Rows.{Chunks, chunk, symbol}
use lib.Lanes.{Each1}

pub symbol-zero : (s : ℕ) → s < 32 → symbol (replicate 64 0) s ≡ 0
symbol-zero s h =
    let P : ℕ → ℕ → ℕ = λ a b. a + 256 * b in
    ap₂ P (get_or-replicate 64 s 0 0 (omega arith)) (get_or-replicate 64 (s + 32) 0 0 (omega arith))

-- An element of a chunk is a byte, if the chunks joined are bytes.
pub byte_fits : (chunks : Chunks) (bytes : List ℕ) → bytes ≡ flat_map (λ x. x) chunks
    → ((j : ℕ) → get_or bytes j 0 < 256)
    → (k i : ℕ) → k < length chunks → i < length (chunk chunks k) → get_or (chunk chunks k) i 0 < 256
byte_fits chunks bytes e fits k i hk hi =
    let offset : ℕ = length (flat_map (λ (x : List ℕ). x) (take k chunks)) + i in
    let P : ℕ → Type 0 = λ n. n < 256 in
    subst P (ap (λ b. get_or b offset 0) e ∙ get_or-flat_map (λ x. x) chunks k i [] 0 hk hi) (fits offset)

pub byte_of : (v : List ℕ) (i : ℕ) → Each1 (Fits w8) v → get_or v i 0 < 256
byte_of [] i h = omega arith
byte_of (x ∷ v) zero h = h.0.fits
byte_of (x ∷ v) (suc i) h = byte_of v i h.1
