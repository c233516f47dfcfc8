-- Lemmas about the shards that a buffer is cut into, and about a piece that is written into one of these shards.
use Rattle.std.proofs.Common.{rules, ◌≡◌, ℕ, zero, suc, ◌+◌, ◌-◌, ◌*◌, ◌<◌, ◌≤◌, List, [], ◌∷◌, ◌++◌, length, take}
use Rattle.std.proofs.Common.{drop, get_or, refl, sym, ap, ap₂, ◌∙◌, inl, inr, arith, All}
use Rattle.std.proofs.Math.Nat.{suc-mul, mul-le-mul_right}
use Rattle.std.proofs.Math.Seq.{take-append-add}
use Rattle.std.proofs.lemmas.Bool.{cases_order}
use Rattle.std.proofs.lemmas.List.{append_assoc, length-append, length-take-le, length-drop, take-take, take-append-le}
use Rattle.std.proofs.lemmas.List.{drop-append-le, drop-take, drop-drop, drop_at, take-append-drop}
use Rattle.std.proofs.lemmas.List.Elements.{All-cons}
use Rattle.rs_ffi.specs.Buffers.{shards_in_buffer, concatenation}

-- Cutting a buffer into n shards gives n shards.
pub cut-length : (n size : ℕ) (bytes : List ℕ) → length (shards_in_buffer n size bytes) ≡ n
cut-length zero size bytes = refl
cut-length (suc n) size bytes = ap suc (cut-length n size (drop size bytes))

-- Shard i of a buffer consists of the bytes from i times the size on.
pub cut-at : (n size : ℕ) (bytes : List ℕ) (i : ℕ) → i < n
    → get_or (shards_in_buffer n size bytes) i [] ≡ take size (drop (i * size) bytes)
cut-at zero size bytes i inside = absurd (let no : ⊥ = omega (arith, inside) in no)
cut-at (suc n) size bytes zero inside =
    ap (λ (m : ℕ). take size (drop m bytes)) (let e : 0 ≡ 0 * size = omega arith in e)
cut-at (suc n) size bytes (suc i) inside =
    let more = suc-mul i size in
    cut-at n size (drop size bytes) i (omega (arith, inside))
    ∙ ap (take size) (drop-drop (i * size) size bytes
    ∙ ap (λ (m : ℕ). drop m bytes) (let e : size + i * size ≡ suc i * size = omega (arith, more) in e))

-- If a buffer has the length of n shards, its n shards, one after the other, are the buffer.
pub joined-cut : (n size : ℕ) (bytes : List ℕ) → length bytes ≡ n * size
    → concatenation (shards_in_buffer n size bytes) ≡ bytes
joined-cut zero size [] whole = refl
joined-cut zero size (b ∷ bytes) whole = absurd (let no : ⊥ = omega (arith, whole) in no)
joined-cut (suc n) size bytes whole =
    let more = suc-mul n size in let left = length-drop size bytes in
    ap (λ (l : List ℕ). take size bytes ++ l) (joined-cut n size (drop size bytes) (omega (arith, whole, more, left)))
    ∙ take-append-drop size bytes

-- If a buffer has the length of n shards, each of its n shards has the shard size.
pub cut-sized : (n size : ℕ) (bytes : List ℕ) → length bytes ≡ n * size
    → All (λ s. length s ≡ size) (shards_in_buffer n size bytes)
cut-sized zero size bytes whole k d h = absurd (let no : ⊥ = omega (arith, h) in no)
cut-sized (suc n) size bytes whole k d h =
    let more = suc-mul n size in let left = length-drop size bytes in
    All-cons (λ s. length s ≡ size) (take size bytes) (shards_in_buffer n size (drop size bytes))
    (length-take-le size bytes (omega (arith, whole, more)))
    (cut-sized n size (drop size bytes) (omega (arith, whole, more, left))) k d h

-- If two buffers have the length of n shards and the same n shards, they are equal.
pub cut-same : (n size : ℕ) (one other : List ℕ) → length one ≡ n * size → length one ≡ length other
    → shards_in_buffer n size one ≡ shards_in_buffer n size other → one ≡ other
cut-same n size one other whole long same = sym (joined-cut n size one whole) ∙ ap concatenation same
    ∙ joined-cut n size other (sym long ∙ whole)

module _ (size i start : ℕ) (bytes piece : List ℕ) (fits : start + length piece ≤ size)
    (inside : i * size + start + length piece ≤ length bytes) where
  -- the buffer after the piece was written
  abbrev with_piece : List ℕ
  with_piece = take (i * size + start) bytes ++ (piece ++ drop (i * size + start + length piece) bytes)

  front : length (take (i * size + start) bytes) ≡ i * size + start
  front = length-take-le (i * size + start) bytes (omega (arith, inside))

  -- Writing the piece does not change the length of the buffer.
  pub put-long : length with_piece ≡ length bytes
  put-long = search (rules, length-drop, length-append)

  -- the bytes of the new buffer from shard i on
  from-shard : drop (i * size) with_piece ≡ take start (drop (i * size) bytes)
      ++ (piece ++ drop (start + length piece) (drop (i * size) bytes))
  from-shard = search (rules, drop-append-le, drop-take, drop-drop)

  -- Shard i of the new buffer is the old shard i with the piece written into it.
  pub put-here : take size (drop (i * size) with_piece)
      ≡ take start (take size (drop (i * size) bytes))
      ++ (piece ++ drop (start + length piece) (take size (drop (i * size) bytes)))
  put-here =
      let own : List ℕ = drop (i * size) bytes in
      let left = length-drop (i * size) bytes in
      let first : length (take start (drop (i * size) bytes)) ≡ start =
      length-take-le start (drop (i * size) bytes) (omega (arith, left, inside)) in
      let rest : ℕ = size - (start + length piece) in
      let both : length (take start (drop (i * size) bytes) ++ piece) ≡ start + length piece =
      length-append (take start (drop (i * size) bytes)) piece ∙ ap (λ (m : ℕ). m + length piece) first in
      let parts : size ≡ length (take start (drop (i * size) bytes) ++ piece) + (size - (start + length piece)) =
      omega (arith, both, fits) in
      let whole : start + length piece + (size - (start + length piece)) ≡ size = omega (arith, fits) in
      ap (take size) (from-shard ∙ sym (append_assoc (take start own) piece (drop (start + length piece) own)))
      ∙ ap (λ (m : ℕ). take m ((take start own ++ piece) ++ drop (start + length piece) own)) parts
      ∙ take-append-add (take start own ++ piece) (drop (start + length piece) own) rest
      ∙ append_assoc (take start own) piece (take rest (drop (start + length piece) own))
      ∙ ap₂ (λ (a b : List ℕ). a ++ (piece ++ b)) (sym (take-take start size own (omega (arith, fits))))
      (sym (ap (λ (m : ℕ). drop (start + length piece) (take m own)) (sym whole)
      ∙ drop-take (start + length piece) rest own))

  -- Each other shard is unchanged.
  pub put-other : (j : ℕ) → (j ≡ i → ⊥) → take size (drop (j * size) with_piece) ≡ take size (drop (j * size) bytes)
  put-other j other = elim (cases_order j i) [
    | inl same ↦ absurd (other same)
    | inr (inl before) ↦
        let room : suc j * size ≤ i * size = mul-le-mul_right size (let k : suc j ≤ i = omega (arith, before) in k) in
        let more = suc-mul j size in
        let tail : List ℕ = piece ++ drop (i * size + start + length piece) bytes in
        let gap : ℕ = i * size + start - j * size in
        let joins : i * size + start ≡ j * size + (i * size + start - j * size) = omega (arith, room, more) in
        let cutoff : drop (j * size) (take (i * size + start) bytes)
        ≡ take (i * size + start - j * size) (drop (j * size) bytes) =
        ap (λ (m : ℕ). drop (j * size) (take m bytes)) joins ∙ drop-take (j * size) gap bytes in
        let left = length-drop (j * size) (take (i * size + start) bytes) in
        ap (take size) (drop-append-le (j * size) (take (i * size + start) bytes) tail
        (omega (arith, front, room, more)))
        ∙ take-append-le size (drop (j * size) (take (i * size + start) bytes)) tail
        (omega (arith, left, front, room, more))
        ∙ ap (take size) cutoff
        ∙ take-take size gap (drop (j * size) bytes) (omega (arith, room, more))
    | inr (inr after) ↦
        let room : suc i * size ≤ j * size = mul-le-mul_right size (let k : suc i ≤ j = omega (arith, after) in k) in
        let more = suc-mul i size in
        let end : ℕ = i * size + start + length piece in
        let back : ℕ = j * size - (i * size + start + length piece) in
        let joins : i * size + start + length piece + (j * size - (i * size + start + length piece)) ≡ j * size =
        omega (arith, room, more, fits) in
        let both : length (take (i * size + start) bytes ++ piece) ≡ i * size + start + length piece =
        length-append (take (i * size + start) bytes) piece ∙ ap (λ (m : ℕ). m + length piece) front in
        ap (take size)
        (ap (drop (j * size)) (sym (append_assoc (take (i * size + start) bytes) piece (drop end bytes)))
        ∙ ap (λ (m : ℕ). drop m ((take (i * size + start) bytes ++ piece) ++ drop end bytes)) (sym joins)
        ∙ sym (drop-drop back end ((take (i * size + start) bytes ++ piece) ++ drop end bytes))
        ∙ ap (drop back) (drop_at (take (i * size + start) bytes ++ piece) (drop end bytes) end both)
        ∙ drop-drop back end bytes ∙ ap (λ (m : ℕ). drop m bytes) joins)
  ]
