-- A description of version 1 that is read is sound, and its bytes are its spelling. A sound set is read from its
-- spelling.
use Rattle.std.proofs.Common.{rules, ◌≡◌, ℕ, ◌+◌, ◌*◌, List, ◌++◌, length, Result, Ok, Err, refl}
use Rattle.std.proofs.Common.{ap, subst, ◌∙◌, append_assoc}
use Rattle.std.specs.Prelude.{IfOk}
use Rattle.std.specs.List.{flat_map}
use Rattle.std.specs.Int.{w32, w64, to_le_bytes}
use Rattle.rs_volumes.specs.declared.fault.ReadError.{ReadError}
use Rattle.rs_volumes.specs.declared.description.Description.{Description}
use Rattle.rs_volumes.specs.Description.{SetEntry, FileSet, set_of, name_spelling, opening_spelling, opening_of}
use Rattle.rs_volumes.specs.Reading.{Gives}
use Rattle.rs_volumes.specs.First.{IsFirstEntry, FirstFits, IsFirstSound, first_entry_at, first_entry_spelling}
use Rattle.rs_volumes.specs.First.{first_spelling, digests_in, first_description_in, first_reading}
use Rattle.rs_volumes.proofs.Fields.{IsBytes, bind_ok, ok_is, Takes, Takes-then, also, wide32, wide64, number_first}
use Rattle.rs_volumes.proofs.Fields.{number_again, name_takes, name_again}
use Rattle.rs_volumes.proofs.Openings.{opening_takes, opening_again}
use Rattle.rs_volumes.proofs.Loops.{items_take, items_again}

-- ---- a file

entry_takes : (bytes : List ℕ) (x : SetEntry × List ℕ) → IsBytes bytes → first_entry_at bytes ≡ Ok x
    → Takes bytes (first_entry_spelling x.0) x.1 × IsFirstEntry x.0
unfolding first_entry_at
entry_takes bytes x fits e =
    let size = number_first wide64 fits e in
    let seconds = number_first wide64 size.1.rest_fits size.3 in
    let mode = number_first wide32 seconds.1.rest_fits seconds.3 in
    let named = bind_ok mode.3 in
    let name = name_takes mode.1.rest_fits named.1 in
    subst (λ (y : SetEntry × List ℕ). Takes bytes (first_entry_spelling y.0) y.1 × IsFirstEntry y.0) (ok_is named.2) (
      Takes-then size.1 (Takes-then seconds.1 (Takes-then mode.1 name.0)),
      record {
        size = size.2;
        seconds = seconds.2;
        mode = mode.2;
        name = name.1;
        kind = refl;
        nanoseconds = refl;
        target = refl;
        digest = refl;
      },
    )

entry_again : (f : SetEntry) (rest : List ℕ) → IsFirstEntry f
    → first_entry_at (first_entry_spelling f ++ rest) ≡ Ok (f, rest)
unfolding first_entry_at
entry_again f rest fits =
    let mode : List ℕ = to_le_bytes w32 f.mode ++ (name_spelling f.name ++ rest) in
    let seconds : List ℕ = to_le_bytes w64 f.seconds ++ mode in
    let regrouped : first_entry_spelling f ++ rest ≡ to_le_bytes w64 f.size ++ seconds = simp append_assoc in
    ap first_entry_at regrouped
    ∙ rw (
      number_again wide64 fits.size seconds,
      number_again wide64 fits.seconds mode,
      number_again wide32 fits.mode (name_spelling f.name ++ rest),
      name_again f.name rest fits.name,
      fits.kind,
      fits.nanoseconds,
      fits.target,
      fits.digest,
    ) refl

-- ---- the digests

digests_take : (blocks : ℕ) (bytes digests : List ℕ) → digests_in blocks bytes ≡ Ok digests → (bytes ≡ digests)
    × (length digests ≡ 32 * blocks)
unfolding digests_in
digests_take blocks bytes digests e = search rules

digests_again : (blocks : ℕ) (digests : List ℕ) → length digests ≡ 32 * blocks → digests_in blocks digests ≡ Ok digests
unfolding digests_in
digests_again blocks digests len = search rules

-- ---- a description

description_takes : {bytes : List ℕ} {s : FileSet} → IsBytes bytes → first_description_in bytes ≡ Ok s → FirstFits s
    × (bytes ≡ first_spelling s)
unfolding first_description_in
description_takes {bytes = bytes} fits e =
    let a = bind_ok e in
    let b = bind_ok a.2 in
    let c = bind_ok b.2 in
    let opening = opening_takes fits a.1 in
    let files = items_take first_entry_at first_entry_spelling IsFirstEntry entry_takes a.0.0.entry_count
    opening.0.rest_fits b.1 in
    let digests = digests_take (a.0.0.original_count + a.0.0.recovery_count) b.0.1 c.0 c.1 in
    let whole : bytes ≡ opening_spelling a.0.0 ++ (flat_map first_entry_spelling b.0.0 ++ c.0) =
    also opening.0 (also files.0 digests.0) in
    subst (λ (v : FileSet). FirstFits v × (bytes ≡ first_spelling v)) (ok_is c.2) (
      record {
        version = refl;
        opening = record {
          block_bytes = opening.1.block_bytes;
          original_count = opening.1.original_count;
          recovery_count = opening.1.recovery_count;
          entry_count = rw files.1 opening.1.entry_count;
        };
        volumes = refl;
        fields = refl;
        entries = files.2;
        digests = digests.1;
        sums = refl;
      },
      rw files.1 whole,
    )

description_again : (s : FileSet) → FirstFits s → first_description_in (first_spelling s) ≡ Ok s
unfolding first_description_in
description_again s fits =
    rw (
      opening_again (opening_of s) (flat_map first_entry_spelling s.entries ++ s.digests) fits.opening,
      items_again first_entry_at first_entry_spelling IsFirstEntry entry_again s.entries s.digests fits.entries,
      digests_again (s.original_count + s.recovery_count) s.digests fits.digests,
      fits.version,
      fits.volumes,
      fits.fields,
      fits.sums,
    ) refl

-- ---- a sound set

reading_takes : {bytes : List ℕ} {s : FileSet} → IsBytes bytes → first_reading bytes ≡ Ok s → IsFirstSound s
    × (bytes ≡ first_spelling s)
unfolding first_reading
reading_takes {bytes = bytes} fits e =
    let a = bind_ok e in
    let b = bind_ok a.2 in
    let t = description_takes fits a.1 in
    subst (λ (v : FileSet). IsFirstSound v × (bytes ≡ first_spelling v)) (ok_is b.2)
    (record { fits = t.0; outcome = b.1 }, t.1)

-- A sound set is read from its spelling.
pub reading_again : (s : FileSet) → IsFirstSound s → first_reading (first_spelling s) ≡ Ok s
unfolding first_reading
reading_again s sound = rw (description_again s sound.fits, sound.outcome) refl

-- A description that a function returns is sound, and the bytes are its spelling.
pub is_found : (bytes : List ℕ) (r : Result Description ReadError) → IsBytes bytes
    → Gives set_of r (first_reading bytes)
    → IfOk r (λ d. IsFirstSound (set_of d) × (bytes ≡ first_spelling (set_of d)))
is_found bytes (Ok d) fits given = reading_takes fits given
is_found bytes (Err e) fits given = tt
