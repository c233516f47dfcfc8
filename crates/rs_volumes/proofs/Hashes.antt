-- Hashers of blocks whose bytes come piece by piece.
use Rattle.std.proofs.Common.{◌≡◌, ℕ, zero, suc, ◌<◌, List, [], ◌∷◌, ◌++◌, length, get_or, refl, sym, ap, subst, arith}
use Rattle.std.specs.Prelude.{Bool, true, false, if◌then◌else◌}
use Rattle.sha2.specs.Hashers.{Holds256}
use Rattle.sha2.specs.declared.Sha256.{Sha256}
use Rattle.rs_field.specs.code.Column.{Shard, shard_at}
use Rattle.rs_volumes.specs.Hashing.{joined, emptied, empty_blocks, AreHashed}

-- joining pieces changes no number of blocks
pub length-joined : (blocks pieces : List Shard) → length (joined blocks pieces) ≡ length blocks
unfolding joined
length-joined [] pieces = refl
length-joined (block ∷ blocks) [] = refl
length-joined (block ∷ blocks) (piece ∷ pieces) = ap suc (length-joined blocks pieces)

-- a block that is joined with its piece
pub shard_at-joined : (blocks pieces : List Shard) (i : ℕ) → i < length blocks → i < length pieces
    → shard_at (joined blocks pieces) i ≡ shard_at blocks i ++ shard_at pieces i
unfolding joined
shard_at-joined [] pieces i h k = absurd (omega arith)
shard_at-joined (block ∷ blocks) [] i h k = absurd (omega arith)
shard_at-joined (block ∷ blocks) (piece ∷ pieces) zero h k = refl
shard_at-joined (block ∷ blocks) (piece ∷ pieces) (suc i) h k =
    shard_at-joined blocks pieces i (omega arith) (omega arith)

-- emptying changes no number of blocks
pub length-emptied : (marks : List Bool) (blocks : List Shard) → length (emptied marks blocks) ≡ length blocks
unfolding emptied
length-emptied marks [] = refl
length-emptied [] (block ∷ blocks) = refl
length-emptied (mark ∷ marks) (block ∷ blocks) = ap suc (length-emptied marks blocks)

-- without a mark, no block is emptied
pub emptied-none : (blocks : List Shard) → emptied [] blocks ≡ blocks
unfolding emptied
emptied-none [] = refl
emptied-none (block ∷ blocks) = refl

-- a block that is marked has no bytes, and the others have their bytes
pub emptied-at : (marks : List Bool) (blocks : List Shard) (i : ℕ) → i < length blocks
    → shard_at (emptied marks blocks) i ≡ if get_or marks i false then [] else shard_at blocks i
unfolding emptied
emptied-at marks [] i lt = absurd (omega arith)
emptied-at [] (block ∷ blocks) i lt = refl
emptied-at (mark ∷ marks) (block ∷ blocks) zero lt = refl
emptied-at (mark ∷ marks) (block ∷ blocks) (suc i) lt = emptied-at marks blocks i (omega arith)

-- blocks without bytes stay as they are
pub emptied-empty : (marks : List Bool) (n : ℕ) → emptied marks (empty_blocks n) ≡ empty_blocks n
unfolding emptied
emptied-empty marks zero = refl
emptied-empty [] (suc n) = refl
emptied-empty (true ∷ marks) (suc n) = ap (λ (bs : List Shard). [] ∷ bs) (emptied-empty marks n)
emptied-empty (false ∷ marks) (suc n) = ap (λ (bs : List Shard). [] ∷ bs) (emptied-empty marks n)

-- joining pieces and emptying blocks can change places
pub joined-emptied : (marks : List Bool) (blocks pieces : List Shard)
    → joined (emptied marks blocks) (emptied marks pieces) ≡ emptied marks (joined blocks pieces)
unfolding emptied joined
joined-emptied marks [] pieces = refl
joined-emptied [] (block ∷ blocks) [] = refl
joined-emptied (mark ∷ marks) (block ∷ blocks) [] = refl
joined-emptied [] (block ∷ blocks) (piece ∷ pieces) = refl
joined-emptied (true ∷ marks) (block ∷ blocks) (piece ∷ pieces) =
    ap (λ (bs : List Shard). [] ∷ bs) (joined-emptied marks blocks pieces)
joined-emptied (false ∷ marks) (block ∷ blocks) (piece ∷ pieces) =
    ap (λ (bs : List Shard). (block ++ piece) ∷ bs) (joined-emptied marks blocks pieces)

-- hashers that took the next piece of each block
pub absorbed : {old new : List Sha256} {blocks : List Shard} (pieces : List Shard) → length old ≡ length pieces
    → length new ≡ length pieces
    → ((i : ℕ) (d : Sha256) (m : List ℕ) → i < length pieces → Holds256 (get_or old i d) m
    → Holds256 (get_or new i d) (m ++ shard_at pieces i))
    → AreHashed old blocks → AreHashed new (joined blocks pieces)
absorbed {old = old} {new = new} {blocks = blocks} pieces one other step is =
    let count : length old ≡ length blocks = is.number in
    record {
      number = omega (arith, length-joined blocks pieces);
      each = λ i d h. let inside : i < length pieces = omega arith in
          let before : i < length old = omega arith in
          let block : i < length blocks = omega arith in
          let P : List ℕ → Type 0 = λ m. Holds256 (get_or new i d) m in
          subst P (sym (shard_at-joined blocks pieces i block inside))
          (step i d (shard_at blocks i) inside (is.each i d before));
    }
