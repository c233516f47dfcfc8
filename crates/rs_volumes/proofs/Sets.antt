-- A description that is read is sound, and its bytes are its spelling. A sound set is read from its spelling.
use Rattle.std.proofs.Common.{◌≡◌, ℕ, ◌+◌, ◌*◌, ◌^◌, ◌<◌, ◌≤◌, List, ◌++◌, length, take, drop, Result, Ok, Err, refl}
use Rattle.std.proofs.Common.{sym}
use Rattle.std.proofs.Common.{subst, ◌∙◌, append_assoc, arith, false, ltb}
use Rattle.std.specs.Prelude.{IfOk}
use Rattle.std.specs.List.{flat_map, AllByRecursion}
use Rattle.std.specs.Int.{w32, to_le_bytes}
use Rattle.std.proofs.lemmas.Bool.{ltb-false, le-ltb}
use Rattle.std.proofs.lemmas.List.{take-append-drop, length-take, length-drop, length-append, take_at, drop_at}
use Rattle.rs_volumes.specs.declared.fault.Fault.TheVariants.{Short, Trailing}
use Rattle.rs_volumes.specs.declared.fault.ReadError.{ReadError}
use Rattle.rs_volumes.specs.declared.description.Description.{Description}
use Rattle.rs_volumes.specs.Description.{SetField, FileSet, set_of, opening_spelling, opening_of, spelling}
use Rattle.rs_volumes.specs.Description.{field_spelling, fields_spelling, entry_spelling, EntryFits, FieldFits, Fits}
use Rattle.rs_volumes.specs.Reading.{Gives, fields_in, fields_at, entry_at, tail_in, description_in}
use Rattle.rs_volumes.specs.Sound.{IsSound, reading}
use Rattle.rs_volumes.proofs.Fields.{IsBytes, bind_ok, guard_ok, ok_is, Takes, Takes-then, also, wide32, number_first}
use Rattle.rs_volumes.proofs.Fields.{number_again, taken_first, taken_again, taken_fits}
use Rattle.rs_volumes.proofs.Openings.{opening_takes, opening_again}
use Rattle.rs_volumes.proofs.Loops.{items_take, items_again}
use Rattle.rs_volumes.proofs.Entries.{entry_takes, entry_again, fields_take, fields_again}

-- ---- the fields

-- Fields that are read fit, and the bytes that were taken are their spelling.
all_fields_take : {bytes : List ℕ} {x : List SetField × List ℕ} → IsBytes bytes → fields_at bytes ≡ Ok x
    → Takes bytes (fields_spelling x.0) x.1 × AllByRecursion FieldFits x.0
    × (length (flat_map field_spelling x.0) < 2 ^ 32)
unfolding fields_at
all_fields_take {bytes = bytes} {x = x} fits e =
    let size = number_first wide32 fits e in
    let taken = taken_first size.1.rest_fits size.3 in
    let text : List ℕ = taken.0.0 in
    let fields = bind_ok taken.3 in
    let all = fields_take (length text) text fields.0 (taken_fits size.1.rest_fits taken.1) fields.1 in
    let sized : Takes bytes (to_le_bytes w32 (length text) ++ text) taken.0.1 =
    subst (λ (m : ℕ). Takes bytes (to_le_bytes w32 m ++ text) taken.0.1) (sym taken.2) (Takes-then size.1 taken.1) in
    let small : length text < 2 ^ 32 = omega (arith, size.2, taken.2) in
    subst (λ (y : List SetField × List ℕ). Takes bytes (fields_spelling y.0) y.1 × AllByRecursion FieldFits y.0
    × (length (flat_map field_spelling y.0) < 2 ^ 32)) (ok_is fields.2) (
      subst (λ (t : List ℕ). Takes bytes (to_le_bytes w32 (length t) ++ t) taken.0.1) all.0 sized,
      all.1,
      subst (λ (t : List ℕ). length t < 2 ^ 32) all.0 small,
    )

all_fields_again : (fs : List SetField) (rest : List ℕ) → AllByRecursion FieldFits fs
    → length (flat_map field_spelling fs) < 2 ^ 32 → fields_at (fields_spelling fs ++ rest) ≡ Ok (fs, rest)
unfolding fields_at
all_fields_again fs rest fits small =
    let text : List ℕ = flat_map field_spelling fs in
    let all : fields_in (length text) text ≡ Ok fs = fields_again (length text) fs fits (omega arith) in
    rw (
      append_assoc (to_le_bytes w32 (length text)) text rest,
      number_again wide32 small (text ++ rest),
      taken_again text rest (length text) refl,
      all,
    ) refl

-- ---- the digests and sums

tail_takes : (k r : ℕ) (bytes : List ℕ) (x : List ℕ × List ℕ) → tail_in k r bytes ≡ Ok x → (bytes ≡ x.0 ++ x.1)
    × (length x.0 ≡ 32 * (k + r)) × (length x.1 ≡ 8 * k)
unfolding tail_in
tail_takes k r bytes x e =
    let short = guard_ok Short e in
    let long = guard_ok Trailing short.1 in
    let enough : 32 * (k + r) + 8 * k ≤ length bytes = ltb-false _ _ short.0 in
    let no_more : length bytes ≤ 32 * (k + r) + 8 * k = ltb-false _ _ long.0 in
    let n : ℕ = 32 * (k + r) in
    subst (λ (y : List ℕ × List ℕ). (bytes ≡ y.0 ++ y.1) × (length y.0 ≡ 32 * (k + r)) × (length y.1 ≡ 8 * k))
    {x = (take n bytes, drop n bytes)} (ok_is long.1) (
      sym (take-append-drop n bytes),
      omega (arith, length-take n bytes, enough, no_more),
      omega (arith, length-drop n bytes, enough, no_more),
    )

tail_again : (k r : ℕ) (digests sums : List ℕ) → length digests ≡ 32 * (k + r) → length sums ≡ 8 * k
    → tail_in k r (digests ++ sums) ≡ Ok (digests, sums)
unfolding tail_in
tail_again k r digests sums one two =
    let all : length (digests ++ sums) ≡ 32 * (k + r) + 8 * k = length-append digests sums ∙ omega (arith, one, two) in
    let no : ltb (length (digests ++ sums)) (32 * (k + r) + 8 * k) ≡ false = le-ltb _ _ (omega (arith, all)) in
    let less : ltb (32 * (k + r) + 8 * k) (length (digests ++ sums)) ≡ false =
    le-ltb _ _ (omega (arith, all)) in
    rw (no, less, take_at digests sums (32 * (k + r)) one, drop_at digests sums (32 * (k + r)) one) refl

-- ---- a description

-- A description that is read fits its fields, and all bytes are its spelling.
description_takes : {bytes : List ℕ} {s : FileSet} → IsBytes bytes → description_in bytes ≡ Ok s → Fits s
    × (bytes ≡ spelling s)
unfolding description_in
description_takes {bytes = bytes} fits e =
    let a = bind_ok e in
    let opening = opening_takes fits a.1 in
    let volumes = number_first wide32 opening.0.rest_fits a.2 in
    let f = bind_ok volumes.3 in
    let fields = all_fields_take volumes.1.rest_fits f.1 in
    let b = bind_ok f.2 in
    let entries =
    items_take entry_at entry_spelling EntryFits entry_takes a.0.0.entry_count fields.0.rest_fits b.1 in
    let c = bind_ok b.2 in
    let ending = tail_takes a.0.0.original_count a.0.0.recovery_count b.0.1 c.0 c.1 in
    let whole : bytes ≡ opening_spelling a.0.0 ++ (to_le_bytes w32 volumes.0.0
    ++ (fields_spelling f.0.0 ++ (flat_map entry_spelling b.0.0 ++ (c.0.0 ++ c.0.1)))) =
    also opening.0 (also volumes.1 (also fields.0 (also entries.0 ending.0))) in
    subst (λ (v : FileSet). Fits v × (bytes ≡ spelling v)) (ok_is c.2) (
      record {
        version = refl;
        opening = record {
          block_bytes = opening.1.block_bytes;
          original_count = opening.1.original_count;
          recovery_count = opening.1.recovery_count;
          entry_count = rw entries.1 opening.1.entry_count;
        };
        volumes = volumes.2;
        fields = fields.1;
        field_bytes = fields.2;
        entries = entries.2;
        digests = ending.1;
        sums = ending.2;
      },
      rw entries.1 whole,
    )

description_again : (s : FileSet) → Fits s → description_in (spelling s) ≡ Ok s
unfolding description_in
description_again s fits =
    let ending : List ℕ = s.digests ++ s.sums in
    let entries : List ℕ = flat_map entry_spelling s.entries ++ ending in
    let fields : List ℕ = fields_spelling s.fields ++ entries in
    rw (
      opening_again (opening_of s) (to_le_bytes w32 s.volumes ++ fields) fits.opening,
      number_again wide32 fits.volumes fields,
      all_fields_again s.fields entries fits.fields fits.field_bytes,
      items_again entry_at entry_spelling EntryFits entry_again s.entries ending fits.entries,
      tail_again s.original_count s.recovery_count s.digests s.sums fits.digests fits.sums,
      fits.version,
    ) refl

-- ---- a sound set

reading_takes : {bytes : List ℕ} {s : FileSet} → IsBytes bytes → reading bytes ≡ Ok s → IsSound s × (bytes ≡ spelling s)
unfolding reading
reading_takes {bytes = bytes} fits e =
    let a = bind_ok e in
    let b = bind_ok a.2 in
    let t = description_takes fits a.1 in
    subst (λ (v : FileSet). IsSound v × (bytes ≡ spelling v)) (ok_is b.2) (record { fits = t.0; outcome = b.1 }, t.1)

-- A sound set is read from its spelling.
pub reading_again : (s : FileSet) → IsSound s → reading (spelling s) ≡ Ok s
unfolding reading
reading_again s sound = rw (description_again s sound.fits, sound.outcome) refl

-- A description that a function returns is sound, and the bytes are its spelling.
pub is_found : (bytes : List ℕ) (r : Result Description ReadError) → IsBytes bytes → Gives set_of r (reading bytes)
    → IfOk r (λ d. IsSound (set_of d) × (bytes ≡ spelling (set_of d)))
is_found bytes (Ok d) fits given = reading_takes fits given
is_found bytes (Err e) fits given = tt
