-- The bytes from which the head of a record is read are its spelling, and a head is read again from its spelling.
use Rattle.std.proofs.Common.{◌≡◌, ℕ, List, ◌++◌, length, take, drop, true, Result, Ok, Err, refl, sym, ap, subst}
use Rattle.std.proofs.Common.{◌∙◌, arith}
use Rattle.std.specs.Prelude.{IfOk}
use Rattle.std.specs.Int.{w32, w64, to_le_bytes}
use Rattle.std.specs.Str.{bytes_eq}
use Rattle.std.proofs.lemmas.List.{take-append-drop, take_at, drop_at, length-append}
use Rattle.std.proofs.lemmas.Slice.Eq.{bytes_eq-Decides}
use Rattle.rs_volumes.specs.declared.fault.Fault.{Fault}
use Rattle.rs_volumes.specs.declared.fault.Fault.TheVariants.{Check}
use Rattle.rs_volumes.specs.declared.record.RecordHead.{RecordHead}
use Rattle.rs_volumes.specs.Records.{Head, HeadFits, head_of, record_magic, front_spelling, head_spelling, check_of}
use Rattle.rs_volumes.specs.Records.{front_in, head_in}
use Rattle.rs_volumes.specs.Reading.{Reads, magic_at}
use Rattle.rs_volumes.proofs.Fields.{IsBytes, IsBytes-take, bind_ok, guard_passed, ok_is, also, wide32, wide64}
use Rattle.rs_volumes.proofs.Fields.{number_first, number_again, magic_takes}

magic_again : (rest : List ℕ) → magic_at record_magic (record_magic ++ rest) ≡ Ok rest
unfolding magic_at
magic_again rest = refl

front_takes : {bytes : List ℕ} {h : Head} → IsBytes bytes → front_in bytes ≡ Ok h → bytes ≡ front_spelling h
unfolding front_in
front_takes {bytes = bytes} fits e =
    let m = bind_ok e in
    let first = magic_takes fits m.1 in
    let kind = number_first wide32 first.rest_fits m.2 in
    let index = number_first wide32 kind.1.rest_fits kind.3 in
    let size = number_first wide64 index.1.rest_fits index.3 in
    subst (λ (x : Head). bytes ≡ front_spelling x) (ok_is size.3)
    (also first (also kind.1 (also index.1 size.1.parts)))

front_again : (h : Head) → HeadFits h → front_in (front_spelling h) ≡ Ok h
unfolding front_in
front_again h fits =
    let sized : List ℕ = to_le_bytes w64 h.body_bytes ++ h.set in
    let indexed : List ℕ = to_le_bytes w32 h.index ++ sized in
    rw (
      magic_again (to_le_bytes w32 h.kind ++ indexed),
      number_again wide32 fits.kind indexed,
      number_again wide32 fits.index sized,
      number_again wide64 fits.body_bytes h.set,
    ) refl

front_length : (h : Head) → HeadFits h → length (front_spelling h) ≡ 56
front_length h fits =
    let a = length-append record_magic (to_le_bytes w32 h.kind ++ (to_le_bytes w32 h.index
    ++ (to_le_bytes w64 h.body_bytes ++ h.set))) in
    let b =
    length-append (to_le_bytes w32 h.kind) (to_le_bytes w32 h.index ++ (to_le_bytes w64 h.body_bytes ++ h.set)) in
    let c = length-append (to_le_bytes w32 h.index) (to_le_bytes w64 h.body_bytes ++ h.set) in
    let d = length-append (to_le_bytes w64 h.body_bytes) h.set in
    let two = wide32.len h.kind in
    let three = wide32.len h.index in
    let four = wide64.len h.body_bytes in
    omega (arith, a, b, c, d, two, three, four, fits.set)

head_takes : {bytes : List ℕ} {h : Head} → IsBytes bytes → head_in bytes ≡ Ok h → bytes ≡ head_spelling h
unfolding head_in
head_takes {bytes = bytes} {h = h} fits e =
    let a = bind_ok e in
    let g = guard_passed Check a.2 in
    let front : take 56 bytes ≡ front_spelling a.0 = front_takes (IsBytes-take 56 bytes fits) a.1 in
    let check : drop 56 bytes ≡ check_of (take 56 bytes) =
    (bytes_eq-Decides (drop 56 bytes) (check_of (take 56 bytes))).0 g.0 in
    let whole : bytes ≡ head_spelling a.0 =
    sym (take-append-drop 56 bytes) ∙ ap (λ (t : List ℕ). take 56 bytes ++ t) check
    ∙ ap (λ (t : List ℕ). t ++ check_of t) front in
    subst (λ (x : Head). bytes ≡ head_spelling x) g.1 whole

-- A head whose numbers fit their fields is read from its spelling.
pub head_again : (h : Head) → HeadFits h → head_in (head_spelling h) ≡ Ok h
unfolding head_in
head_again h fits =
    let front : List ℕ = front_spelling h in
    let len : length front ≡ 56 = front_length h fits in
    let same : bytes_eq (check_of front) (check_of front) ≡ true =
    (bytes_eq-Decides (check_of front) (check_of front)).1 refl in
    rw (take_at front (check_of front) 56 len, drop_at front (check_of front) 56 len, front_again h fits, same) refl

-- The bytes from which a function reads a head are the spelling of this head.
pub head_found : (bytes : List ℕ) (r : Result RecordHead Fault) → IsBytes bytes → Reads head_of r (head_in bytes)
    → IfOk r (λ h. bytes ≡ head_spelling (head_of h))
head_found bytes (Ok h) fits given = head_takes fits given
head_found bytes (Err e) fits given = tt
