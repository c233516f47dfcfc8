-- The numbers with which a description begins are read as they are spelled.
use Rattle.std.proofs.Common.{◌≡◌, ℕ, List, ◌++◌, Ok, refl, ap, subst, ◌∙◌, append_assoc, arith}
use Rattle.std.specs.Int.{w32, w64, to_le_bytes}
use Rattle.rs_volumes.specs.declared.fault.Fault.TheVariants.{Code, Digest}
use Rattle.rs_volumes.specs.declared.opening.Opening.{Opening}
use Rattle.rs_volumes.specs.Description.{opening_spelling, OpeningFits}
use Rattle.rs_volumes.specs.Reading.{opening_at}
use Rattle.rs_volumes.proofs.Fields.{IsBytes, ok_is, Takes, Takes-then, wide32, wide64, number_first, number_again}
use Rattle.rs_volumes.proofs.Fields.{fixed_first, fixed_again}

-- An opening that is read fits its fields, and the bytes that were taken are its spelling.
pub opening_takes : {bytes : List ℕ} {x : Opening × List ℕ} → IsBytes bytes → opening_at bytes ≡ Ok x
    → Takes bytes (opening_spelling x.0) x.1 × OpeningFits x.0
unfolding opening_at
opening_takes {bytes = bytes} fits e =
    let code = fixed_first 1 Code fits e in
    let digest = fixed_first 1 Digest code.1.rest_fits code.2 in
    let block = number_first wide64 digest.1.rest_fits digest.2 in
    let k = number_first wide32 block.1.rest_fits block.3 in
    let r = number_first wide32 k.1.rest_fits k.3 in
    let count = number_first wide32 r.1.rest_fits r.3 in
    subst (λ (y : Opening × List ℕ). Takes bytes (opening_spelling y.0) y.1 × OpeningFits y.0) (ok_is count.3) (
      Takes-then code.1
          (Takes-then digest.1 (Takes-then block.1 (Takes-then k.1 (Takes-then r.1 count.1)))),
      record { block_bytes = block.2; original_count = k.2; recovery_count = r.2; entry_count = count.2 },
    )

-- An opening that fits its fields is read from its spelling.
pub opening_again : (o : Opening) (rest : List ℕ) → OpeningFits o
    → opening_at (opening_spelling o ++ rest) ≡ Ok (o, rest)
unfolding opening_at
opening_again o rest fits =
    let n : List ℕ = to_le_bytes w32 o.entry_count ++ rest in
    let r : List ℕ = to_le_bytes w32 o.recovery_count ++ n in
    let k : List ℕ = to_le_bytes w32 o.original_count ++ r in
    let b : List ℕ = to_le_bytes w64 o.block_bytes ++ k in
    let regrouped : opening_spelling o ++ rest ≡ to_le_bytes w32 1 ++ (to_le_bytes w32 1 ++ b) = simp append_assoc in
    ap opening_at regrouped
    ∙ rw (
      fixed_again 1 Code (to_le_bytes w32 1 ++ b) (omega arith),
      fixed_again 1 Digest b (omega arith),
      number_again wide64 fits.block_bytes k,
      number_again wide32 fits.original_count r,
      number_again wide32 fits.recovery_count n,
      number_again wide32 fits.entry_count rest,
    ) refl
