-- The number of original blocks of an accepted description is that of the blocks of its data, in both versions.
use Rattle.std.proofs.Common.{rules, ◌≡◌, ℕ, ◌+◌, ◌-◌, ◌*◌, ◌/◌, ◌<◌, Bool, true, false, not, cond, eqb, List, [], ◌∷◌}
use Rattle.std.proofs.Common.{Result}
use Rattle.std.proofs.Common.{Ok, Err, refl, sym, ap, ◌∙◌, arith, ◌⊎◌, inl, inr}
use Rattle.std.specs.Prelude.{IfOk}
use Rattle.std.proofs.Math.Nat.{add-mul-div_right, div-eq_of_lt}
use Rattle.std.proofs.lemmas.Bool.{eqb-true}
use Rattle.rs_volumes.specs.declared.description.Version.TheVariants.{First, Second}
use Rattle.rs_volumes.specs.declared.description.Description.{Description}
use Rattle.rs_volumes.specs.declared.fault.Fault.TheVariants as faults
use Rattle.rs_volumes.specs.declared.fault.ReadError.{ReadError}
use Rattle.rs_volumes.specs.Description.{SetEntry, FileSet, set_of, spelling}
use Rattle.rs_volumes.specs.Data.{blocks_of, round_up, end_after, end_of, unit_in, unit_of, data_of}
use Rattle.rs_volumes.specs.Sound.{allows_block, entries_outcome, data_outcome}
use Rattle.rs_volumes.specs.Sound.{set_outcome, IsSound}
use Rattle.rs_volumes.specs.First.{blocks_in, files_outcome, is_too_large, first_outcome, first_spelling}
use Rattle.rs_volumes.specs.First.{IsFirstSound}
use Rattle.rs_volumes.proofs.Fields.{bind_ok, guard_ok, guard_passed}

by_cases : (b : Bool) → (b ≡ true) ⊎ (b ≡ false)
by_cases true = inl refl
by_cases false = inr refl

-- ---- version 2

data_counts : (block count : ℕ) (es : List SetEntry) → data_outcome block count es ≡ Ok tt
    → count ≡ blocks_of block (end_of 64 0 es)
unfolding data_outcome
data_counts block count es ok =
    let long = guard_ok faults.Length ok in
    let large = guard_ok faults.LargeBlock long.1 in
    let same = guard_passed faults.Blocks large.1 in
    sym (eqb-true _ _ same.0)

second_unit : (s : FileSet) → s.version ≡ Second → unit_of s ≡ 64
unfolding unit_of unit_in
second_unit s e = rw e refl

sound_counts : (s : FileSet) → IsSound s → s.original_count ≡ blocks_of s.block_bytes (data_of s)
unfolding set_outcome data_of
sound_counts s sound =
    let block = guard_ok faults.BlockSize sound.outcome in
    let counts = guard_ok faults.Counts block.1 in
    let volumes = guard_ok faults.Volumes counts.1 in
    let fields = guard_ok faults.Field volumes.1 in
    let entries = bind_ok {r = entries_outcome [] s.entries}
    {f = λ done. data_outcome s.block_bytes s.original_count s.entries} fields.1 in
    data_counts s.block_bytes s.original_count s.entries entries.2
    ∙ ap (λ (u : ℕ). blocks_of s.block_bytes (end_of u 0 s.entries)) (sym (second_unit s sound.fits.version))

-- A description that a function returns has as many original blocks as its data has blocks.
pub is_counted : (r : Result Description ReadError) (bytes : List ℕ)
    → IfOk r (λ d. IsSound (set_of d) × (bytes ≡ spelling (set_of d)))
    → IfOk r (λ d. d.original_count ≡ blocks_of d.block_bytes (data_of (set_of d)))
is_counted (Ok d) bytes found = sound_counts (set_of d) found.0
is_counted (Err e) bytes found = tt

-- ---- version 1

whole_blocks : (block q size : ℕ) → 0 < block → blocks_of block (q * block + size) ≡ q + blocks_of block size
unfolding blocks_of
whole_blocks block q size some =
    let same : q * block + size + (block - 1) ≡ size + (block - 1) + q * block = omega arith in
    ap (λ (n : ℕ). n / block) same ∙ add-mul-div_right (size + (block - 1)) q some
    ∙ (let swap : (size + (block - 1)) / block + q ≡ q + (size + (block - 1)) / block = omega arith in swap)

no_blocks : (block : ℕ) → 0 < block → blocks_of block 0 ≡ 0
unfolding blocks_of
no_blocks block some = div-eq_of_lt (let lt : 0 + (block - 1) < block = omega (arith, some) in lt)

blocks_after : (block at size : ℕ) → 0 < block
    → blocks_of block (end_after block at size) ≡ blocks_of block at + blocks_of block size
unfolding end_after round_up
blocks_after block at size some =
    elim (by_cases (eqb size 0)) [
      | inl none ↦
          let zero : size ≡ 0 = eqb-true size 0 none in
          let no = no_blocks block some in
          let same : blocks_of block size ≡ 0 = ap (blocks_of block) zero ∙ no in
          let sum : blocks_of block at ≡ blocks_of block at + blocks_of block size = omega (arith, same) in
          rw none sum
      | inr more ↦ rw more (whole_blocks block (blocks_of block at) size some)
    ]

blocks_from : (block at : ℕ) (es : List SetEntry) → 0 < block
    → blocks_of block (end_of block at es) ≡ blocks_of block at + blocks_in block es
unfolding end_of blocks_in
blocks_from block at [] some = omega arith
blocks_from block at (e ∷ es) some =
    let others = blocks_from block (end_after block at e.size) es some in
    let here = blocks_after block at e.size some in
    omega (arith, others, here)

block_some : (block : ℕ) → not (allows_block block) ≡ false → 0 < block
unfolding allows_block
block_some block good = search rules

first_unit : (s : FileSet) → s.version ≡ First → unit_of s ≡ s.block_bytes
unfolding unit_of unit_in
first_unit s e = rw e refl

first_counts : (s : FileSet) → IsFirstSound s → s.original_count ≡ blocks_of s.block_bytes (data_of s)
unfolding first_outcome data_of
first_counts s sound =
    let block = guard_ok faults.BlockSize sound.outcome in
    let counts = guard_ok faults.Counts block.1 in
    let files = bind_ok {r = files_outcome [] s.entries}
    {f = λ done. cond (is_too_large s.block_bytes s.entries) (Err faults.LargeBlock)
    (cond (eqb (blocks_in s.block_bytes s.entries) s.original_count) (Ok tt) (Err faults.Blocks))}
    counts.1 in
    let large = guard_ok faults.LargeBlock files.2 in
    let same = guard_passed faults.Blocks large.1 in
    let count : blocks_in s.block_bytes s.entries ≡ s.original_count = eqb-true _ _ same.0 in
    let some : 0 < s.block_bytes = block_some s.block_bytes block.0 in
    let all = blocks_from s.block_bytes 0 s.entries some in
    let none = no_blocks s.block_bytes some in
    let unit : blocks_of s.block_bytes (end_of (unit_of s) 0 s.entries)
    ≡ blocks_of s.block_bytes (end_of s.block_bytes 0 s.entries) =
    ap (λ (u : ℕ). blocks_of s.block_bytes (end_of u 0 s.entries)) (first_unit s sound.fits.version) in
    omega (arith, all, none, count, unit)

-- A description of version 1 that a reader returned has as many original blocks as its data has.
pub is_first_counted : (r : Result Description ReadError) (bytes : List ℕ)
    → IfOk r (λ d. IsFirstSound (set_of d) × (bytes ≡ first_spelling (set_of d)))
    → IfOk r (λ d. d.original_count ≡ blocks_of d.block_bytes (data_of (set_of d)))
is_first_counted (Ok d) bytes found = first_counts (set_of d) found.0
is_first_counted (Err e) bytes found = tt
