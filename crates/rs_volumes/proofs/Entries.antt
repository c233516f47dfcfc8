-- The entries and fields of a description are read as they are spelled.
use Rattle.std.proofs.Common.{rules, ◌≡◌, ◌≢◌, ℕ, zero, suc, ◌+◌, ◌-◌, ◌^◌, ◌<◌, ◌≤◌, List, [], ◌∷◌, ◌++◌, length}
use Rattle.std.proofs.Common.{Result, Ok, Err}
use Rattle.std.proofs.Common.{refl, sym, ap, subst, ◌∙◌, append_assoc, arith}
use Rattle.std.specs.List.{flat_map, AllByRecursion}
use Rattle.std.specs.Int.{w16, w32, w64, to_le_bytes}
use Rattle.std.proofs.lemmas.List.{append-nil}
use Rattle.std.proofs.lemmas.List.Concat.{flat_map-cons}
use Rattle.rs_volumes.specs.declared.description.Kind.{Kind}
use Rattle.rs_volumes.specs.declared.description.Kind.TheVariants.{File, Link, Folder}
use Rattle.rs_volumes.specs.declared.fault.Fault.{Fault}
use Rattle.rs_volumes.specs.declared.fault.ReadError.{ReadError}
use Rattle.rs_volumes.specs.declared.fault.ReadError.TheVariants as errors
use Rattle.rs_volumes.specs.Description.{SetEntry, SetField, kind_number, name_spelling, entry_spelling}
use Rattle.rs_volumes.specs.Description.{field_spelling, EntryFits, FieldFits}
use Rattle.rs_volumes.specs.Reading.{◌>>=◌, Fails, kind_with, kind_at, entry_at, field_at, fields_in}
use Rattle.rs_volumes.proofs.Fields.{IsBytes, bind_ok, ok_is, Takes, Takes-then, wide16, wide32, wide64, number_first}
use Rattle.rs_volumes.proofs.Fields.{number_again, taken_first, taken_again, name_first, name_again, also}
use Rattle.rs_volumes.proofs.Fields.{number_length, number_enough, taken_length}

-- ---- kinds

kind_numbered : (n : ℕ) (kind : Kind) → kind_with n ≡ Ok kind → n ≡ kind_number kind
unfolding kind_with kind_number
kind_numbered n kind e = search rules

-- A kind is found by its number.
pub kind_again : (kind : Kind) → kind_with (kind_number kind) ≡ Ok kind
unfolding kind_with kind_number
kind_again File = refl
kind_again Link = refl
kind_again Folder = refl

kind_small : (kind : Kind) → kind_number kind < 2 ^ 16
unfolding kind_number
kind_small File = omega arith
kind_small Link = omega arith
kind_small Folder = omega arith

kind_takes : {bytes : List ℕ} {x : Kind × List ℕ} → IsBytes bytes → kind_at bytes ≡ Ok x
    → Takes bytes (to_le_bytes w16 (kind_number x.0)) x.1
unfolding kind_at
kind_takes {bytes = bytes} {x = x} fits e =
    let n = number_first wide16 fits e in
    let k = bind_ok n.3 in
    subst (λ (y : Kind × List ℕ). Takes bytes (to_le_bytes w16 (kind_number y.0)) y.1) (ok_is k.2)
    (subst (λ (m : ℕ). Takes bytes (to_le_bytes w16 m) n.0.1) (kind_numbered n.0.0 k.0 k.1) n.1)

kind_read : (kind : Kind) (rest : List ℕ) → kind_at (to_le_bytes w16 (kind_number kind) ++ rest) ≡ Ok (kind, rest)
unfolding kind_at
kind_read kind rest = rw (number_again wide16 (kind_small kind) rest, kind_again kind) refl

-- ---- entries

-- An entry that is read fits its fields, and the bytes that were taken are its spelling.
pub entry_takes : (bytes : List ℕ) (x : SetEntry × List ℕ) → IsBytes bytes → entry_at bytes ≡ Ok x
    → Takes bytes (entry_spelling x.0) x.1 × EntryFits x.0
unfolding entry_at
entry_takes bytes x fits e =
    let first = bind_ok e in
    let kind = kind_takes fits first.1 in
    let mode = number_first wide16 kind.rest_fits first.2 in
    let nanoseconds = number_first wide32 mode.1.rest_fits mode.3 in
    let size = number_first wide64 nanoseconds.1.rest_fits nanoseconds.3 in
    let seconds = number_first wide64 size.1.rest_fits size.3 in
    let name = name_first seconds.1.rest_fits seconds.3 in
    let target = name_first name.1.rest_fits name.3 in
    let digest = taken_first target.1.rest_fits target.3 in
    let numbers =
    Takes-then kind (Takes-then mode.1 (Takes-then nanoseconds.1 (Takes-then size.1 seconds.1))) in
    subst (λ (y : SetEntry × List ℕ). Takes bytes (entry_spelling y.0) y.1 × EntryFits y.0) (ok_is digest.3) (
      Takes-then numbers (Takes-then name.1 (Takes-then target.1 digest.1)),
      record {
        mode = mode.2;
        nanoseconds = nanoseconds.2;
        size = size.2;
        seconds = seconds.2;
        name = name.2;
        target = target.2;
        digest = digest.2;
      },
    )

regroup_all : (a b c d e f g h rest : List ℕ) → ((a ++ (b ++ (c ++ (d ++ e)))) ++ (f ++ (g ++ h))) ++ rest
    ≡ a ++ (b ++ (c ++ (d ++ (e ++ (f ++ (g ++ (h ++ rest)))))))
regroup_all a b c d e f g h rest = simp append_assoc

-- An entry that fits its fields is read from its spelling.
pub entry_again : (e : SetEntry) (rest : List ℕ) → EntryFits e → entry_at (entry_spelling e ++ rest) ≡ Ok (e, rest)
unfolding entry_at
entry_again e rest fits =
    let digest : List ℕ = e.digest ++ rest in
    let target : List ℕ = name_spelling e.target ++ digest in
    let name : List ℕ = name_spelling e.name ++ target in
    let seconds : List ℕ = to_le_bytes w64 e.seconds ++ name in
    let size : List ℕ = to_le_bytes w64 e.size ++ seconds in
    let nanoseconds : List ℕ = to_le_bytes w32 e.nanoseconds ++ size in
    let mode : List ℕ = to_le_bytes w16 e.mode ++ nanoseconds in
    let regrouped : entry_spelling e ++ rest ≡ to_le_bytes w16 (kind_number e.kind) ++ mode =
    regroup_all (to_le_bytes w16 (kind_number e.kind)) (to_le_bytes w16 e.mode) (to_le_bytes w32 e.nanoseconds)
    (to_le_bytes w64 e.size) (to_le_bytes w64 e.seconds) (name_spelling e.name) (name_spelling e.target) e.digest
    rest in
    ap entry_at regrouped
    ∙ rw (
      kind_read e.kind mode,
      number_again wide16 fits.mode nanoseconds,
      number_again wide32 fits.nanoseconds size,
      number_again wide64 fits.size seconds,
      number_again wide64 fits.seconds name,
      name_again e.name target fits.name,
      name_again e.target digest fits.target,
      taken_again e.digest rest 32 fits.digest,
    ) refl

-- ---- fields

-- A field that is read fits, and the bytes that were taken are its spelling.
pub field_takes : {bytes : List ℕ} {x : SetField × List ℕ} → IsBytes bytes → field_at bytes ≡ Ok x
    → Takes bytes (field_spelling x.0) x.1 × FieldFits x.0
unfolding field_at
field_takes {bytes = bytes} {x = x} fits e =
    let kind = number_first wide32 fits e in
    let size = number_first wide32 kind.1.rest_fits kind.3 in
    let taken = taken_first size.1.rest_fits size.3 in
    let text : List ℕ = taken.0.0 in
    let sized : Takes kind.0.1 (to_le_bytes w32 (length text)) size.0.1 =
    subst (λ (m : ℕ). Takes kind.0.1 (to_le_bytes w32 m) size.0.1) (sym taken.2) size.1 in
    subst (λ (y : SetField × List ℕ). Takes bytes (field_spelling y.0) y.1 × FieldFits y.0) (ok_is taken.3) (
      Takes-then kind.1 (Takes-then sized taken.1),
      record { kind = kind.2; bytes = omega (arith, size.2, taken.2) },
    )

-- A field that fits is read from its spelling.
pub field_again : (f : SetField) (rest : List ℕ) → FieldFits f → field_at (field_spelling f ++ rest) ≡ Ok (f, rest)
unfolding field_at
field_again f rest fits =
    let text : List ℕ = f.bytes ++ rest in
    let size : List ℕ = to_le_bytes w32 (length f.bytes) ++ text in
    let regrouped : field_spelling f ++ rest ≡ to_le_bytes w32 f.kind ++ size = simp append_assoc in
    ap field_at regrouped
    ∙ rw (
      number_again wide32 fits.kind size,
      number_again wide32 fits.bytes text,
      taken_again f.bytes rest (length f.bytes) refl,
    ) refl

-- A field takes eight bytes at least.
pub field_shorter : (bytes : List ℕ) (x : SetField × List ℕ) → field_at bytes ≡ Ok x → length x.1 + 8 ≤ length bytes
unfolding field_at
field_shorter bytes x e =
    let kind = bind_ok e in
    let size = bind_ok kind.2 in
    let taken = bind_ok size.2 in
    let one = number_length w32 bytes kind.0.0 kind.0.1 kind.1 in
    let two = number_length w32 kind.0.1 size.0.0 size.0.1 size.1 in
    let first = number_enough w32 bytes kind.0 kind.1 in
    let second = number_enough w32 kind.0.1 size.0 size.1 in
    let three = taken_length size.0.0 size.0.1 taken.0 taken.1 in
    let same : length x.1 ≡ length taken.0.1 =
    sym (ap (λ (p : SetField × List ℕ). length p.1) (ok_is taken.2)) in
    omega (arith, one, two, first, second, three, same)

same_after : (r : Result (SetField × List ℕ) Fault) (f g : List ℕ → Result (List SetField) Fault)
    → ((x : SetField × List ℕ) → r ≡ Ok x → f x.1 ≡ g x.1)
    → (r >>= λ first. f first.1 >>= λ others. Ok (first.0 ∷ others))
    ≡ (r >>= λ first. g first.1 >>= λ others. Ok (first.0 ∷ others))
same_after (Ok x) f g same = rw (same x refl) refl
same_after (Err d) f g same = refl

-- As many fields as there are bytes may be read, and more make no difference.
fields_same : (n m : ℕ) (bytes : List ℕ) → length bytes ≤ n → length bytes ≤ m → fields_in n bytes ≡ fields_in m bytes
unfolding fields_in
fields_same n m [] one other = refl
fields_same zero m (b ∷ bs) one other = absurd (let no : ⊥ = omega (arith, one) in no)
fields_same (suc n) zero (b ∷ bs) one other = absurd (let no : ⊥ = omega (arith, other) in no)
fields_same (suc n) (suc m) (b ∷ bs) one other =
    same_after (field_at (b ∷ bs)) (fields_in n) (fields_in m) (λ x e.
    let shorter : length x.1 + 8 ≤ suc (length bs) = field_shorter (b ∷ bs) x e in
    fields_same n m x.1 (omega (arith, shorter, one)) (omega (arith, shorter, other)))

-- Fields that are read fit, and all bytes are their spelling.
pub fields_take : (n : ℕ) (bytes : List ℕ) (fs : List SetField) → IsBytes bytes → fields_in n bytes ≡ Ok fs
    → (bytes ≡ flat_map field_spelling fs) × AllByRecursion FieldFits fs
unfolding fields_in
fields_take n [] fs fits e =
    subst (λ (y : List SetField). ([] ≡ flat_map field_spelling y) × AllByRecursion FieldFits y) (ok_is e) (refl, tt)
fields_take zero (b ∷ bs) fs fits e = absurd cc
fields_take (suc n) (b ∷ bs) fs fits e =
    let a = bind_ok e in
    let c = bind_ok a.2 in
    let first = field_takes fits a.1 in
    let others = fields_take n a.0.1 c.0 first.0.rest_fits c.1 in
    let all : b ∷ bs ≡ flat_map field_spelling (a.0.0 ∷ c.0) =
    also first.0 others.0 ∙ sym (flat_map-cons field_spelling a.0.0 c.0) in
    subst (λ (y : List SetField). (b ∷ bs ≡ flat_map field_spelling y) × AllByRecursion FieldFits y) (ok_is c.2)
    (all, (first.1, others.1))

fields_step : (n : ℕ) (bytes : List ℕ) (f : SetField) (after : List ℕ) → field_at bytes ≡ Ok (f, after)
    → fields_in (suc n) bytes ≡ (fields_in n after >>= λ others. Ok (f ∷ others))
unfolding fields_in
fields_step n [] f after e =
    absurd (let shorter : length after + 8 ≤ 0 = field_shorter [] (f, after) e in
    let no : ⊥ = omega (arith, shorter) in no)
fields_step n (b ∷ bs) f after e = rw e refl

-- Fields that fit are read from their spelling.
pub fields_again : (n : ℕ) (fs : List SetField) → AllByRecursion FieldFits fs
    → length (flat_map field_spelling fs) ≤ n → fields_in n (flat_map field_spelling fs) ≡ Ok fs
unfolding fields_in
fields_again n [] fits le = refl
fields_again zero (f ∷ fs) fits le =
    absurd (let cut = flat_map-cons field_spelling f fs in
    let shorter : length (flat_map field_spelling fs) + 8 ≤ length (field_spelling f ++ flat_map field_spelling fs) =
    field_shorter _ _ (field_again f (flat_map field_spelling fs) fits.0) in
    let same : length (flat_map field_spelling (f ∷ fs)) ≡ length (field_spelling f ++ flat_map field_spelling fs) =
    ap length cut in
    let no : ⊥ = omega (arith, le, shorter, same) in no)
fields_again (suc n) (f ∷ fs) fits le =
    let others : List ℕ = flat_map field_spelling fs in
    let cut : flat_map field_spelling (f ∷ fs) ≡ field_spelling f ++ others = flat_map-cons field_spelling f fs in
    let shorter : length others + 8 ≤ length (field_spelling f ++ others) =
    field_shorter (field_spelling f ++ others) (f, others) (field_again f others fits.0) in
    let same : length (flat_map field_spelling (f ∷ fs)) ≡ length (field_spelling f ++ others) = ap length cut in
    let fewer : length others ≤ n = omega (arith, le, shorter, same) in
    ap (fields_in (suc n)) cut
    ∙ fields_step n (field_spelling f ++ others) f others (field_again f others fits.0)
    ∙ rw (fields_again n fs fits.1 fewer) refl

-- ---- the loop over the fields

pub no_more : (bytes : List ℕ) → length bytes ≡ 0 → bytes ≡ []
no_more [] e = refl
no_more (b ∷ bs) e = absurd (let no : ⊥ = omega (arith, e) in no)

-- what was read before, and what is still read
abbrev pub after_front : List SetField → Result (List SetField) Fault → Result (List SetField) Fault
after_front front read = read >>= λ fs. Ok (front ++ fs)

regroup : (front : List SetField) (f : SetField) (read : Result (List SetField) Fault)
    → after_front front (read >>= λ others. Ok (f ∷ others)) ≡ after_front (front ++ f ∷ []) read
regroup front f (Ok fs) = ap (λ (all : List SetField). Ok all) (simp append_assoc)
regroup front f (Err d) = refl

fields_fault : (bytes : List ℕ) (d : Fault) → bytes ≢ [] → field_at bytes ≡ Err d
    → fields_in (length bytes) bytes ≡ Err d
unfolding fields_in
fields_fault [] d some h = absurd (some refl)
fields_fault (b ∷ bs) d some h = rw h refl

-- Some fields were read, and the outcome of reading all is known from the outcome for the bytes that are left.
module _ (front : List SetField) (bytes : List ℕ) {total : Result (List SetField) Fault}
    (so_far : after_front front (fields_in (length bytes) bytes) ≡ total) where
  -- The next field is read.
  pub field_goes_on : {f : SetField} {after : List ℕ} → field_at bytes ≡ Ok (f, after)
      → after_front (front ++ f ∷ []) (fields_in (length after) after) ≡ total
  field_goes_on {f = f} {after = after} h =
      let shorter : length after + 8 ≤ length bytes = field_shorter bytes (f, after) h in
      let k : length bytes ≡ suc (length bytes - 1) = omega (arith, shorter) in
      let step : fields_in (length bytes) bytes ≡ (fields_in (length bytes - 1) after >>= λ others. Ok (f ∷ others)) =
      ap (λ (n : ℕ). fields_in n bytes) k ∙ fields_step (length bytes - 1) bytes f after h in
      let fuel : fields_in (length bytes - 1) after ≡ fields_in (length after) after =
      fields_same (length bytes - 1) (length after) after (omega (arith, shorter)) (omega arith) in
      sym (ap (after_front front) step ∙ regroup front f (fields_in (length bytes - 1) after)
      ∙ ap (after_front (front ++ f ∷ [])) fuel) ∙ so_far

  -- The next field cannot be read.
  pub field_ends : (e : ReadError) → bytes ≢ [] → Fails e (field_at bytes) → Fails e total
  field_ends errors.Memory some h = tt
  field_ends (errors.Fault d) some h = sym so_far ∙ ap (after_front front) (fields_fault bytes d some h)

  -- All fields were read.
  pub fields_done : bytes ≡ [] → total ≡ Ok front
  unfolding fields_in
  fields_done e = sym so_far ∙ rw e (ap (λ (fs : List SetField). Ok fs) (append-nil front))
