-- The places of each file of a set.
use Rattle.std.proofs.Common.{◌≡◌, ◌≢◌, ℕ, zero, suc, ◌+◌, ◌-◌, ◌<◌, List, [], ◌∷◌, ◌++◌, length}
use Rattle.std.proofs.Common.{cond, get_or, refl, sym, ap, subst, ◌∙◌, arith, inl, inr}
use Rattle.std.specs.Prelude.{◌==◌, ◌&&◌, nat_le, nat_lt, false, count_by, if◌then◌else◌}
use Rattle.std.specs.List.{All, AllByRecursion, flat_map}
use Rattle.std.proofs.lemmas.Bool.{and_left, eq-eqb, ne_eqb}
use Rattle.std.proofs.lemmas.Grind.{flat_map-append}
use Rattle.std.proofs.lemmas.List.{append-nil, length-map}
use Rattle.std.proofs.lemmas.List.Elements.{recursion_from_All}
use Rattle.std.proofs.lemmas.List.Sums.{sum_by-append, sum_by-cons}
use Rattle.rs_field.specs.code.Column.{Shard, shard_at}
use Rattle.rs_volumes.specs.declared.placement.Place.{Place}
use Rattle.rs_volumes.specs.declared.description.Kind.TheVariants.{File}
use Rattle.rs_volumes.specs.Description.{SetEntry, FileSet}
use Rattle.rs_volumes.specs.Data.{round_up, unit_of}
use Rattle.rs_volumes.specs.Places.{IsPlaced, bytes_at, file_places, set_places}
use Rattle.rs_volumes.specs.Laid.{AreFilesOf, bytes_in, file_in, is_at, laid, EachByteOnce, HoldFiles}
use Rattle.rs_volumes.proofs.LaidLemmas.{file-long, laid_at}
use Rattle.rs_volumes.proofs.Layouts.{no_bytes, places-none, places-some, size_cases}
use Rattle.rs_volumes.proofs.PlaceLemmas.{file_all, file_covers, file_is, file_once}

-- the bytes of a place, if it is a place of the file with index i
abbrev own : (Place → Shard) → ℕ → Place → Shard
own f i place = if place.file == i then f place else []

-- the bytes of the places of the file with index i
abbrev own_bytes : (Place → Shard) → ℕ → List Place → Shard
own_bytes f i places = flat_map (own f i) places

abbrev Same : ℕ → Place → Type 0
Same i place = place.file ≡ i

-- Places of the file have all their bytes.
own-same : (f : Place → Shard) (i : ℕ) (ps : List Place) → AllByRecursion (Same i) ps
    → own_bytes f i ps ≡ flat_map f ps
own-same f i [] all = refl
own-same f i (p ∷ ps) all = rw (eq-eqb p.file i all.0, own-same f i ps all.1) refl

-- Places of another file have none.
own-other : (f : Place → Shard) (i file : ℕ) (ps : List Place) → file ≢ i → AllByRecursion (Same file) ps
    → own_bytes f i ps ≡ []
own-other f i file [] differ all = refl
own-other f i file (p ∷ ps) differ all =
    rw (ne_eqb p.file i (λ e. differ (sym all.0 ∙ e)), own-other f i file ps differ all.1) refl

at-other : (i file offset : ℕ) (ps : List Place) → file ≢ i → AllByRecursion (Same file) ps
    → count_by (is_at i offset) ps ≡ 0
at-other i file offset [] differ all = refl
at-other i file offset (p ∷ ps) differ all =
    let here : is_at i offset p ≡ false =
    and_left (p.file == i) (nat_le p.offset offset && nat_lt offset (p.offset + p.bytes))
    (ne_eqb p.file i (λ e. differ (sym all.0 ∙ e))) in
    sum_by-cons (λ (q : Place). cond (is_at i offset q) 1 0) p ps
    ∙ rw (here, at-other i file offset ps differ all.1) refl

-- The places of a file are places of this file.
all_same : (size file start end : ℕ) → 0 < size → start < end
    → AllByRecursion (Same file) (file_places size file start end)
all_same size file start end some order =
    recursion_from_All (Same file) (file_places size file start end)
    (file_all (Same file) size file start end some order (λ block h. file_is size file start end block))

own-append : (f : Place → Shard) (i : ℕ) (ps qs : List Place)
    → own_bytes f i (ps ++ qs) ≡ own_bytes f i ps ++ own_bytes f i qs
own-append f i ps qs = flat_map-append (own f i) ps qs

at-append : (i offset : ℕ) (ps qs : List Place) → count_by (is_at i offset) (ps ++ qs)
    ≡ count_by (is_at i offset) ps + count_by (is_at i offset) qs
at-append i offset ps qs = sum_by-append (λ (q : Place). cond (is_at i offset q) 1 0) ps qs

none_own : (f : Place → Shard) (i unit size at index : ℕ) → own_bytes f i (set_places unit size at index []) ≡ []
unfolding set_places
none_own f i unit size at index = refl

none_at : (i offset unit size at index : ℕ) → count_by (is_at i offset) (set_places unit size at index []) ≡ 0
unfolding set_places
none_at i offset unit size at index = refl

module _ (unit size : ℕ) (some : 0 < size) where
  -- The places of the files from `index` on are no places of an earlier file.
  own_before : (f : Place → Shard) (i at index : ℕ) (es : List SetEntry) → i < index
      → own_bytes f i (set_places unit size at index es) ≡ []
  own_before f i at index [] lt = none_own f i unit size at index
  own_before f i at index (e ∷ es) lt =
      let next : i < suc index = omega (arith, lt) in
      elim (size_cases e.size) [
        | inl none ↦
            rw (places-none unit size at index e es none) (own_before f i at (suc index) es next)
        | inr bytes ↦
            let start : ℕ = round_up unit at in
            let order : start < start + e.size = omega (arith, bytes) in
            let differ : index ≢ i = λ e. omega (arith, lt, e) in
            let first : own_bytes f i (file_places size index start (start + e.size)) ≡ [] =
            own-other f i index (file_places size index start (start + e.size)) differ
            (all_same size index start (start + e.size) some order) in
            rw (
              places-some unit size at index e es bytes,
              own-append f i (file_places size index start (start + e.size))
                  (set_places unit size (start + e.size) (suc index) es),
              first,
              own_before f i (start + e.size) (suc index) es next,
            ) refl
      ]

  at_before : (i offset at index : ℕ) (es : List SetEntry) → i < index
      → count_by (is_at i offset) (set_places unit size at index es) ≡ 0
  at_before i offset at index [] lt = none_at i offset unit size at index
  at_before i offset at index (e ∷ es) lt =
      let next : i < suc index = omega (arith, lt) in
      elim (size_cases e.size) [
        | inl none ↦
            rw (places-none unit size at index e es none) (at_before i offset at (suc index) es next)
        | inr bytes ↦
            let start : ℕ = round_up unit at in
            let order : start < start + e.size = omega (arith, bytes) in
            let differ : index ≢ i = λ e. omega (arith, lt, e) in
            let first : count_by (is_at i offset) (file_places size index start (start + e.size)) ≡ 0 =
            at-other i index offset (file_places size index start (start + e.size)) differ
            (all_same size index start (start + e.size) some order) in
            rw (
              places-some unit size at index e es bytes,
              at-append i offset (file_places size index start (start + e.size))
                  (set_places unit size (start + e.size) (suc index) es),
              first,
              at_before i offset (start + e.size) (suc index) es next,
            ) refl
      ]

  -- The bytes at the places of a file are those of the file.
  own_from : (contents : List Shard) (i j at index : ℕ) (es : List SetEntry) (d : SetEntry) → i ≡ index + j
      → j < length es → length (shard_at contents i) ≡ (get_or es j d).size
      → own_bytes (bytes_at contents) i (set_places unit size at index es) ≡ shard_at contents i
  own_from contents i j at index [] d is inside long = absurd (let no : ⊥ = omega (arith, inside) in no)
  own_from contents i zero at index (e ∷ es) d is inside long =
      let same : index ≡ i = omega (arith, is) in
      let next : i < suc index = omega (arith, is) in
      elim (size_cases e.size) [
        | inl none ↦
            rw (places-none unit size at index e es none)
            (own_before (bytes_at contents) i at (suc index) es next
            ∙ sym (no_bytes (shard_at contents i) (long ∙ none)))
        | inr bytes ↦
            let start : ℕ = round_up unit at in
            let order : start < start + e.size = omega (arith, bytes) in
            let len : length (shard_at contents index) ≡ start + e.size - start =
            ap (λ (m : ℕ). length (shard_at contents m)) same ∙ long ∙ omega arith in
            let first : own_bytes (bytes_at contents) i (file_places size index start (start + e.size))
            ≡ shard_at contents i =
            ap (λ (m : ℕ). own_bytes (bytes_at contents) m (file_places size index start (start + e.size))) (sym same)
            ∙ own-same (bytes_at contents) index (file_places size index start (start + e.size))
            (all_same size index start (start + e.size) some order)
            ∙ file_covers size index start (start + e.size) contents some order len
            ∙ ap (shard_at contents) same in
            rw (
              places-some unit size at index e es bytes,
              own-append (bytes_at contents) i (file_places size index start (start + e.size))
                  (set_places unit size (start + e.size) (suc index) es),
              first,
              own_before (bytes_at contents) i (start + e.size) (suc index) es next,
            ) (append-nil (shard_at contents i))
      ]
  own_from contents i (suc j) at index (e ∷ es) d is inside long =
      let less : j < length es = omega (arith, inside) in
      let sum : i ≡ suc index + j = omega (arith, is) in
      elim (size_cases e.size) [
        | inl none ↦
            rw (places-none unit size at index e es none)
            (own_from contents i j at (suc index) es d sum less long)
        | inr bytes ↦
            let start : ℕ = round_up unit at in
            let order : start < start + e.size = omega (arith, bytes) in
            let differ : index ≢ i = λ e. omega (arith, is, e) in
            let first : own_bytes (bytes_at contents) i (file_places size index start (start + e.size)) ≡ [] =
            own-other (bytes_at contents) i index (file_places size index start (start + e.size)) differ
            (all_same size index start (start + e.size) some order) in
            rw (
              places-some unit size at index e es bytes,
              own-append (bytes_at contents) i (file_places size index start (start + e.size))
                  (set_places unit size (start + e.size) (suc index) es),
              first,
            ) (own_from contents i j (start + e.size) (suc index) es d sum less long)
      ]

  -- A byte of a file is at exactly one place.
  at_from : (i j offset at index : ℕ) (es : List SetEntry) (d : SetEntry) → i ≡ index + j
      → j < length es → offset < (get_or es j d).size
      → count_by (is_at i offset) (set_places unit size at index es) ≡ 1
  at_from i j offset at index [] d is inside lt = absurd (let no : ⊥ = omega (arith, inside) in no)
  at_from i zero offset at index (e ∷ es) d is inside lt =
      let same : index ≡ i = omega (arith, is) in
      let next : i < suc index = omega (arith, is) in
      let bytes : 0 < e.size = omega (arith, lt) in
      let start : ℕ = round_up unit at in
      let order : start < start + e.size = omega (arith, bytes) in
      let less : offset < start + e.size - start = omega (arith, lt) in
      let first : count_by (is_at i offset) (file_places size index start (start + e.size)) ≡ 1 =
      ap (λ (m : ℕ). count_by (is_at m offset) (file_places size index start (start + e.size))) (sym same)
      ∙ file_once size index start (start + e.size) offset some order less in
      rw (
        places-some unit size at index e es bytes,
        at-append i offset (file_places size index start (start + e.size))
            (set_places unit size (start + e.size) (suc index) es),
        first,
        at_before i offset (start + e.size) (suc index) es next,
      ) refl
  at_from i (suc j) offset at index (e ∷ es) d is inside lt =
      let less : j < length es = omega (arith, inside) in
      let sum : i ≡ suc index + j = omega (arith, is) in
      elim (size_cases e.size) [
        | inl none ↦
            rw (places-none unit size at index e es none)
            (at_from i j offset at (suc index) es d sum less lt)
        | inr bytes ↦
            let start : ℕ = round_up unit at in
            let order : start < start + e.size = omega (arith, bytes) in
            let differ : index ≢ i = λ e. omega (arith, is, e) in
            let first : count_by (is_at i offset) (file_places size index start (start + e.size)) ≡ 0 =
            at-other i index offset (file_places size index start (start + e.size)) differ
            (all_same size index start (start + e.size) some order) in
            rw (
              places-some unit size at index e es bytes,
              at-append i offset (file_places size index start (start + e.size))
                  (set_places unit size (start + e.size) (suc index) es),
              first,
              at_from i j offset (start + e.size) (suc index) es d sum less lt,
            ) refl
      ]

-- ---- the files of a set

-- Equal bytes at each place are equal bytes of a file.
own-equal : (f g : Place → Shard) (i : ℕ) (ps : List Place) → AllByRecursion (λ p. f p ≡ g p) ps
    → own_bytes f i ps ≡ own_bytes g i ps
own-equal f g i [] all = refl
own-equal f g i (p ∷ ps) all =
    ap (λ (x : Shard). cond (p.file == i) x [] ++ own_bytes f i ps) all.0
    ∙ ap (λ (xs : Shard). own g i p ++ xs) (own-equal f g i ps all.1)

module _ (s : FileSet) (some : 0 < s.block_bytes) where
  -- Each byte of each file is at exactly one place.
  pub places_once : (i offset : ℕ) (d : SetEntry) → i < length s.entries → offset < (get_or s.entries i d).size
      → count_by (is_at i offset) (set_places (unit_of s) s.block_bytes 0 0 s.entries) ≡ 1
  places_once i offset d inside lt =
      let sum : i ≡ 0 + i = omega arith in
      at_from (unit_of s) s.block_bytes some i i offset 0 0 s.entries d sum inside lt

  -- In the blocks of files, the bytes at the places of a file are those of the file.
  pub files_in_laid : (files : List Shard) (i : ℕ) → AreFilesOf s.entries files → i < length s.entries
      → All (IsPlaced s) (set_places (unit_of s) s.block_bytes 0 0 s.entries)
      → file_in (set_places (unit_of s) s.block_bytes 0 0 s.entries) (laid s files) i ≡ shard_at files i
  files_in_laid files i same inside placed =
      let none : SetEntry = record {
        kind = File;
        mode = 0;
        size = 0;
        seconds = 0;
        nanoseconds = 0;
        name = [];
        target = [];
        digest = [];
      } in
      let places : List Place = set_places (unit_of s) s.block_bytes 0 0 s.entries in
      let sum : i ≡ 0 + i = omega arith in
      own-equal (bytes_in (laid s files)) (bytes_at files) i places
      (recursion_from_All (λ p. bytes_in (laid s files) p ≡ bytes_at files p) places
      (λ j d h. laid_at s files some same (get_or places j d) (placed j d h)))
      ∙ own_from (unit_of s) s.block_bytes some files i i 0 0 s.entries none sum inside
      (file-long s.entries files i none same inside).0

  -- The places of a set have each byte once.
  pub once_if : (places : List Place) → places ≡ set_places (unit_of s) s.block_bytes 0 0 s.entries
      → EachByteOnce s.entries places
  once_if places are i offset d inside lt =
      ap (count_by (is_at i offset)) are ∙ places_once i offset d inside lt

  -- The places of a set hold the files.
  pub files_if : (places : List Place) → places ≡ set_places (unit_of s) s.block_bytes 0 0 s.entries
      → All (IsPlaced s) places → HoldFiles s places
  files_if places are placed files same i inside =
      let long : length s.entries ≡ length files =
      sym (length-map s.entries (λ (e : SetEntry). e.size)) ∙ ap length (sym same)
      ∙ length-map files (λ (bytes : Shard). length bytes) in
      ap (λ (ps : List Place). file_in ps (laid s files) i) are
      ∙ files_in_laid files i same (omega (arith, inside, long))
      (subst (λ (ps : List Place). All (IsPlaced s) ps) are placed)
