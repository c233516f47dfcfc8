-- The bytes from which a head of version 1 is read are its spelling, and a head is read again from its spelling.
use Rattle.std.proofs.Common.{◌≡◌, ℕ, List, ◌++◌, Result, Ok, Err, refl, subst, arith}
use Rattle.std.specs.Prelude.{IfOk}
use Rattle.std.specs.Int.{w32, w64, to_le_bytes}
use Rattle.rs_volumes.specs.declared.fault.Fault.{Fault}
use Rattle.rs_volumes.specs.declared.fault.Fault.TheVariants.{Version, Reserved}
use Rattle.rs_volumes.specs.declared.first.Head.{Head}
use Rattle.rs_volumes.specs.Heads.{VolumeHead, HeadFits, head_of, magic, head_spelling, head_in}
use Rattle.rs_volumes.specs.Reading.{Reads, magic_at}
use Rattle.rs_volumes.proofs.Fields.{IsBytes, bind_ok, ok_is, also, wide64, number_first, number_again, fixed_first}
use Rattle.rs_volumes.proofs.Fields.{fixed_again, magic_takes}

magic_again : (rest : List ℕ) → magic_at magic (magic ++ rest) ≡ Ok rest
unfolding magic_at
magic_again rest = refl

head_takes : {bytes : List ℕ} {h : VolumeHead} → IsBytes bytes → head_in bytes ≡ Ok h → bytes ≡ head_spelling h
unfolding head_in
head_takes {bytes = bytes} fits e =
    let m = bind_ok e in
    let first = magic_takes fits m.1 in
    let version = fixed_first 1 Version first.rest_fits m.2 in
    let reserved = fixed_first 0 Reserved version.1.rest_fits version.2 in
    let size = number_first wide64 reserved.1.rest_fits reserved.2 in
    let count = number_first wide64 size.1.rest_fits size.3 in
    subst (λ (x : VolumeHead). bytes ≡ head_spelling x) (ok_is count.3)
    (also first (also version.1 (also reserved.1 (also size.1 count.1.parts))))

-- A head whose numbers fit their fields is read from its spelling.
pub head_again : (h : VolumeHead) → HeadFits h → head_in (head_spelling h) ≡ Ok h
unfolding head_in
head_again h fits =
    let counted : List ℕ = to_le_bytes w64 h.record_count ++ h.digest in
    let sized : List ℕ = to_le_bytes w64 h.description_bytes ++ counted in
    rw (
      magic_again (to_le_bytes w32 1 ++ (to_le_bytes w32 0 ++ sized)),
      fixed_again 1 Version (to_le_bytes w32 0 ++ sized) (omega arith),
      fixed_again 0 Reserved sized (omega arith),
      number_again wide64 fits.description_bytes counted,
      number_again wide64 fits.record_count h.digest,
    ) refl

-- The bytes from which a function reads a head are the spelling of this head.
pub head_found : (bytes : List ℕ) (r : Result Head Fault) → IsBytes bytes → Reads head_of r (head_in bytes)
    → IfOk r (λ h. bytes ≡ head_spelling (head_of h))
head_found bytes (Ok h) fits given = head_takes fits given
head_found bytes (Err e) fits given = tt
