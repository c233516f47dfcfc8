-- One chunk of bytes is written: all other bytes stay as they are.
use Rattle.std.proofs.Common.{◌≡◌, ℕ, ◌+◌, ◌-◌, ◌*◌, ◌<◌, ◌≤◌, ◌≢◌, ◌⊎◌, List, length, take, drop, get_or}
use Rattle.std.proofs.Common.{◌++◌, ap, ap₂, sym, subst, ◌∙◌, inl, inr, arith}
use Rattle.std.proofs.lemmas.Bool.{cases_lt}
use Rattle.std.proofs.lemmas.List.{length-take-le, drop-drop}
use Rattle.std.proofs.Math.Seq.{drop-append_seam}
use Rattle.std.proofs.lemmas.Grind.{common_steps}
use borrow.Rule.Slice.PartMut.{put_mid}
use Rattle.rs_field.specs.rows.Rows.{byte_symbol}

-- A byte outside a part that was written is unchanged.
outside : (bytes part : List ℕ) (a n i : ℕ) → a + n ≤ length bytes → length part ≡ n → (i < a) ⊎ (a + n ≤ i)
    → get_or (put_mid a n bytes part) i 0 ≡ get_or bytes i 0
outside bytes part a n i fits same (inl before) = grind (arith, common_steps)
outside bytes part a n i fits same (inr after) = grind (arith, common_steps)

-- After chunk k was written, the other chunks are as before.
pub other_chunks : (bytes part : List ℕ) (k : ℕ) → k * 64 + 64 ≤ length bytes
    → length part ≡ k * 64 + 64 - k * 64
    → (j s : ℕ) → s < 32 → j ≢ k
    → byte_symbol (put_mid (k * 64) (k * 64 + 64 - k * 64) bytes part) j s ≡ byte_symbol bytes j s
other_chunks bytes part k fits long j s small other =
    let n : ℕ = k * 64 + 64 - k * 64 in
    let far : (i : ℕ) → i < 64
    → (j * 64 + i < k * 64) ⊎ (k * 64 + (k * 64 + 64 - k * 64) ≤ j * 64 + i) =
    λ i h. elim (cases_lt j k) [
      | inl before ↦ inl (omega (arith, before))
      | inr from ↦ inr (omega (arith, from, other))
    ] in
    ap₂ (λ a b. a + 256 * b)
    (outside bytes part (k * 64) n (j * 64 + s) (omega (arith, fits)) long (far s (omega arith)))
    (outside bytes part (k * 64) n (j * 64 + (s + 32)) (omega (arith, fits)) long (far (s + 32) (omega arith)))

-- After chunk k was written, the bytes after it are as before.
pub after_chunk : (bytes part : List ℕ) (k n : ℕ) → k * 64 + 64 ≤ length bytes
    → length part ≡ k * 64 + 64 - k * 64 → k < n
    → drop (n * 64) (put_mid (k * 64) (k * 64 + 64 - k * 64) bytes part) ≡ drop (n * 64) bytes
after_chunk bytes part k n fits long later =
    let a : ℕ = k * 64 in let e : ℕ = k * 64 + 64 in
    let after : List ℕ = put_mid (k * 64) (k * 64 + 64 - k * 64) bytes part in
    let front : length (take (k * 64) bytes) ≡ k * 64 = length-take-le (k * 64) bytes (omega (arith, fits)) in
    let behind : drop (k * 64) (put_mid (k * 64) (k * 64 + 64 - k * 64) bytes part)
    ≡ part ++ drop (k * 64 + 64) bytes =
    subst (λ m. drop m after ≡ part ++ drop e bytes) front
    (ap (drop (length (take a bytes))) (spliced bytes part k fits long)
    ∙ drop-append_seam (take a bytes) (part ++ drop e bytes)) in
    let chunk_end : drop (k * 64 + 64) (put_mid (k * 64) (k * 64 + 64 - k * 64) bytes part) ≡ drop (k * 64 + 64) bytes =
    subst (λ m. drop m after ≡ drop e bytes) (let s : k * 64 + length part ≡ k * 64 + 64 = omega (arith, long) in s)
    (sym (drop-drop (length part) a after) ∙ ap (drop (length part)) behind ∙ drop-append_seam part (drop e bytes)) in
    let more : k * 64 + 64 + (n * 64 - (k * 64 + 64)) ≡ n * 64 = omega (arith, later) in
    subst (λ m. drop m after ≡ drop m bytes) more
    (sym (drop-drop (n * 64 - e) e after) ∙ ap (drop (n * 64 - e)) chunk_end ∙ drop-drop (n * 64 - e) e bytes)
  where
    spliced : (bytes part : List ℕ) (k : ℕ) → k * 64 + 64 ≤ length bytes → length part ≡ k * 64 + 64 - k * 64
        → put_mid (k * 64) (k * 64 + 64 - k * 64) bytes part
        ≡ take (k * 64) bytes ++ (part ++ drop (k * 64 + 64) bytes)
    spliced bytes part k fits long = grind (arith, common_steps)
