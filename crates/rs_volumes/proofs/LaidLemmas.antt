-- The files of a set, laid end to end and cut into blocks, are at their places.
use Rattle.std.proofs.Common.{◌≡◌, ℕ, zero, suc, ◌+◌, ◌-◌, ◌*◌, ◌<◌, ◌≤◌, List, [], ◌∷◌, ◌++◌, length, get_or}
use Rattle.std.proofs.Common.{take, drop, refl, sym, ap, subst, ◌∙◌, append_assoc, arith, min, inl, inr}
use Rattle.std.specs.Prelude.{replicate}
use Rattle.std.specs.List.{All, between}
use Rattle.std.proofs.Math.Nat.{min-le_right, suc-mul}
use Rattle.std.proofs.lemmas.Bool.{cases_lt, eq-eqb, ne_eqb}
use Rattle.std.proofs.lemmas.List.{length-append, length-take, length-drop, length-replicate, take_at}
use Rattle.std.proofs.lemmas.List.{drop_at, drop-drop, take-take, drop-take, drop-append-le, take-append-le}
use Rattle.std.proofs.lemmas.List.{append-nil, drop_min, length-take-le, take_all, take_min}
use Rattle.std.proofs.lemmas.List.Elements.{All-nil, All-cons}
use Rattle.rs_field.specs.code.Column.{Shard, shard_at}
use Rattle.rs_volumes.specs.declared.placement.Place.{Place}
use Rattle.rs_volumes.specs.declared.description.Kind.TheVariants.{File}
use Rattle.rs_volumes.specs.Description.{SetEntry, FileSet}
use Rattle.rs_volumes.specs.Data.{blocks_of, data_of, end_after, round_up, start_of, unit_of}
use Rattle.rs_volumes.specs.Places.{IsPlaced, bytes_at}
use Rattle.rs_volumes.specs.Laid.{AreFilesOf, data_after, cut_blocks, laid, bytes_in}
use Rattle.rs_volumes.proofs.DataLemmas.{end_after_none, end_after_some, round_up_least}
use Rattle.rs_volumes.proofs.Layouts.{size_cases, unit_some}

-- ---- the data

data-none : (unit at : ℕ) (x : Shard) (xs : List Shard) → length x ≡ 0
    → data_after unit at (x ∷ xs) ≡ data_after unit at xs
unfolding data_after
data-none unit at x xs none = rw (eq-eqb (length x) 0 none) refl

data-some : (unit at : ℕ) (x : Shard) (xs : List Shard) → 0 < length x
    → data_after unit at (x ∷ xs)
    ≡ replicate (round_up unit at - at) 0 ++ (x ++ data_after unit (round_up unit at + length x) xs)
unfolding data_after
data-some unit at x xs some = rw (ne_eqb (length x) 0 (λ none. let no : ⊥ = omega (arith, some, none) in no)) refl

-- Data of no files has no bytes.
pub data-nil : (unit at : ℕ) → data_after unit at [] ≡ []
unfolding data_after
data-nil unit at = refl

-- A file without bytes does not move the next file.
pub data-empty : (unit at : ℕ) (x : Shard) → length x ≡ 0 → data_after unit at (x ∷ []) ≡ []
data-empty unit at x none = data-none unit at x [] none ∙ data-nil unit at

-- Another file follows zeros up to the next multiple of the unit.
pub data-one : (unit at : ℕ) (x : Shard) → 0 < length x
    → data_after unit at (x ∷ []) ≡ replicate (round_up unit at - at) 0 ++ x
data-one unit at x full =
    data-some unit at x [] full
    ∙ ap (λ (ds : Shard). replicate (round_up unit at - at) 0 ++ ds)
    (ap (λ (ds : Shard). x ++ ds) (data-nil unit (round_up unit at + length x)) ∙ append-nil x)

-- The first file is laid, and then the others.
pub data-further : (unit at : ℕ) (x : Shard) (xs : List Shard) → 0 < unit
    → data_after unit at (x ∷ xs) ≡ data_after unit at (x ∷ [])
    ++ data_after unit (at + length (data_after unit at (x ∷ []))) xs
data-further unit at x xs some =
    elim (size_cases (length x)) [
      | inl none ↦
          let alone : data_after unit at (x ∷ []) ≡ [] = data-empty unit at x none in
          let here : at + length (data_after unit at (x ∷ [])) ≡ at =
          let long : length (data_after unit at (x ∷ [])) ≡ 0 = ap (λ (ds : Shard). length ds) alone in
          omega (arith, long) in
          rw (here, alone) (data-none unit at x xs none)
      | inr full ↦
          let gap : Shard = replicate (round_up unit at - at) 0 in
          let alone : data_after unit at (x ∷ []) ≡ gap ++ x = data-one unit at x full in
          let end : at + length (data_after unit at (x ∷ [])) ≡ round_up unit at + length x =
          let long : length (data_after unit at (x ∷ [])) ≡ length (gap ++ x) = ap (λ (ds : Shard). length ds) alone in
          let sum = length-append gap x in
          let zeros : length gap ≡ round_up unit at - at = length-replicate (round_up unit at - at) zero in
          let least = round_up_least unit at some in
          omega (arith, long, sum, zeros, least) in
          rw (end, alone) (data-some unit at x xs full
          ∙ sym (append_assoc gap x (data_after unit (round_up unit at + length x) xs)))
    ]

start-zero : (unit at : ℕ) (e : SetEntry) (es : List SetEntry) → start_of unit at (e ∷ es) 0 ≡ round_up unit at
unfolding start_of
start-zero unit at e es = refl

start-suc : (unit at : ℕ) (e : SetEntry) (es : List SetEntry) (i : ℕ)
    → start_of unit at (e ∷ es) (suc i) ≡ start_of unit (end_after unit at e.size) es i
unfolding start_of
start-suc unit at e es i = refl

-- a file lies in the data from its start on, where the data begins at `at`
pub record LiesAt (all : Shard) (at start : ℕ) (file : Shard) : Type 0 where
  pub after : at ≤ start
  pub bytes : take (length file) (drop (start - at) all) ≡ file

-- The first file lies at the next multiple of the unit.
first_lies : (unit at : ℕ) (x rest : Shard) → 0 < unit
    → LiesAt (replicate (round_up unit at - at) 0 ++ (x ++ rest)) at (round_up unit at) x
first_lies unit at x rest some =
    let gap : Shard = replicate (round_up unit at - at) 0 in
    record {
      after = round_up_least unit at some;
      bytes = ap (take (length x)) (drop_at gap (x ++ rest) (round_up unit at - at)
          (length-replicate (round_up unit at - at) 0))
          ∙ take_at x rest (length x) refl;
    }

-- A file lies in the data if it lies in the data after the first file.
later_lies : (at from start : ℕ) (gap x rest file : Shard) → at ≤ from → length gap ≡ from - at
    → LiesAt rest (from + length x) start file → LiesAt (gap ++ (x ++ rest)) at start file
later_lies at from start gap x rest file order long h =
    let after = h.after in
    let n : ℕ = from + length x - at in
    let sum : n + (start - (from + length x)) ≡ start - at = omega (arith, after, order) in
    let len = length-append gap x in
    let front : length (gap ++ x) ≡ n = omega (arith, len, long, order) in
    record {
      after = omega (arith, after, order);
      bytes = ap (λ (m : ℕ). take (length file) (drop m (gap ++ (x ++ rest)))) (sym sum)
          ∙ ap (take (length file)) (sym (drop-drop (start - (from + length x)) n (gap ++ (x ++ rest)))
          ∙ ap (λ (ys : Shard). drop (start - (from + length x)) (drop n ys)) (sym (append_assoc gap x rest))
          ∙ ap (drop (start - (from + length x))) (drop_at (gap ++ x) rest n front))
          ∙ h.bytes;
    }

-- Each file with bytes lies in the data from its start on.
files_lie : (unit at : ℕ) (es : List SetEntry) (xs : List Shard) (i : ℕ) → 0 < unit → AreFilesOf es xs
    → i < length xs → 0 < length (shard_at xs i)
    → LiesAt (data_after unit at xs) at (start_of unit at es i) (shard_at xs i)
files_lie unit at es [] i some same inside bytes = absurd (let no : ⊥ = omega (arith, inside) in no)
files_lie unit at [] (x ∷ xs) i some same inside bytes = absurd (let no : ⊥ = cc in no)
files_lie unit at (e ∷ es) (x ∷ xs) zero some same inside bytes =
    rw (start-zero unit at e es, data-some unit at x xs bytes)
    (first_lies unit at x (data_after unit (round_up unit at + length x) xs) some)
files_lie unit at (e ∷ es) (x ∷ xs) (suc i) some same inside bytes =
    let long : length x ≡ e.size = cc in
    let others : AreFilesOf es xs = cc in
    let less : i < length xs = omega (arith, inside) in
    elim (size_cases (length x)) [
      | inl none ↦
          rw (start-suc unit at e es i, data-none unit at x xs none, end_after_none unit at e.size (sym long ∙ none))
          (files_lie unit at es xs i some others less bytes)
      | inr full ↦
          let from : ℕ = round_up unit at in
          let end : end_after unit at e.size ≡ from + length x =
          end_after_some unit at e.size (subst (λ (n : ℕ). 0 < n) long full) ∙ ap (λ (n : ℕ). from + n) (sym long) in
          rw (start-suc unit at e es i, data-some unit at x xs full, end)
          (later_lies at from (start_of unit (from + length x) es i) (replicate (from - at) 0) x
          (data_after unit (from + length x) xs) (shard_at xs i) (round_up_least unit at some)
          (length-replicate (from - at) 0)
          (files_lie unit (from + length x) es xs i some others less bytes))
    ]

-- ---- the blocks

pub cut-nil : (size : ℕ) (ds : Shard) → cut_blocks size 0 ds ≡ []
unfolding cut_blocks
cut-nil size ds = refl

cut-first : (size n : ℕ) (ds : Shard)
    → cut_blocks size (suc n) ds ≡ take size (ds ++ replicate size 0) ∷ cut_blocks size n (drop size ds)
unfolding cut_blocks
cut-first size n ds = refl

-- Only the front of data is in the first block.
front_filled : (size : ℕ) (ds : Shard) → take size (take size ds ++ replicate size 0)
    ≡ take size (ds ++ replicate size 0)
front_filled size ds =
    elim (cases_lt size (length ds)) [
      | inl lt ↦
          let le : size ≤ length ds = omega (arith, lt) in
          let front : length (take size ds) ≡ size = length-take-le size ds le in
          let whole : size ≤ length (take size ds) = omega (arith, front) in
          let same : size ≤ size = omega arith in
          take-append-le size (take size ds) (replicate size 0) whole
          ∙ take-take size size ds same
          ∙ sym (take-append-le size ds (replicate size 0) le)
      | inr le ↦ rw (take_all size ds le) refl
    ]

-- The bytes from a position on are cut into the next blocks.
pub cut-further : (size n : ℕ) (ds : Shard)
    → cut_blocks size (suc n) ds
    ≡ take size (take (min size (length ds)) ds ++ replicate size 0)
    ∷ cut_blocks size n (drop (min size (length ds)) ds)
cut-further size n ds =
    cut-first size n ds
    ∙ rw (take_min size ds, drop_min size ds)
    (ap (λ (block : Shard). block ∷ cut_blocks size n (drop size ds)) (sym (front_filled size ds)))

-- Block i of data.
cut-at : (size n i : ℕ) (ds : Shard) → i < n
    → shard_at (cut_blocks size n ds) i ≡ take size (drop (i * size) ds ++ replicate size 0)
cut-at size zero i ds inside = absurd (let no : ⊥ = omega (arith, inside) in no)
cut-at size (suc n) zero ds inside =
    rw (cut-first size n ds) (let none : 0 * size ≡ 0 = omega arith in rw none refl)
cut-at size (suc n) (suc i) ds inside =
    let less : i < n = omega (arith, inside) in
    let next : size + i * size ≡ suc i * size = (let k = suc-mul i size in omega (arith, k)) in
    rw (cut-first size n ds) (cut-at size n i (drop size ds) less
    ∙ ap (λ (ys : Shard). take size (ys ++ replicate size 0)) (drop-drop (i * size) size ds
    ∙ ap (λ (m : ℕ). drop m ds) next))

pub length-cut : (size n : ℕ) (ds : Shard) → length (cut_blocks size n ds) ≡ n
unfolding cut_blocks
length-cut size zero ds = refl
length-cut size (suc n) ds = let h = length-cut size n (drop size ds) in omega (arith, h)

-- ---- the bytes at a place

-- bytes of a run of bytes
within_run : (from many start long : ℕ) (ds : Shard) → from + many ≤ long
    → between from (from + many) (take long (drop start ds)) ≡ take many (drop (start + from) ds)
within_run from many start long ds le =
    let sum : from + (long - from) ≡ long = omega (arith, le) in
    let less : many ≤ long - from = omega (arith, le) in
    let count : from + many - from ≡ many = omega arith in
    ap (λ (m : ℕ). take m (drop from (take long (drop start ds)))) count
    ∙ ap (λ (m : ℕ). take many (drop from (take m (drop start ds)))) (sym sum)
    ∙ ap (take many) (drop-take from (long - from) (drop start ds))
    ∙ take-take many (long - from) (drop from (drop start ds)) less
    ∙ ap (take many) (drop-drop from start ds)

-- bytes of a block, which has enough bytes before it is filled
within_block : (size at many : ℕ) (ds : Shard) → at + many ≤ size → at + many ≤ length ds
    → between at (at + many) (take size (ds ++ replicate size 0)) ≡ take many (drop at ds)
within_block size at many ds le held =
    let filled : Shard = ds ++ replicate size 0 in
    let some : at ≤ length ds = omega (arith, held) in
    let left = length-drop at ds in
    let enough : many ≤ length (drop at ds) = omega (arith, left, held) in
    let first : 0 + at ≡ at = omega arith in
    within_run at many 0 size filled le
    ∙ ap (λ (m : ℕ). take many (drop m filled)) first
    ∙ ap (take many) (drop-append-le at ds (replicate size 0) some)
    ∙ take-append-le many (drop at ds) (replicate size 0) enough

-- A file is as long as its entry says.
pub file-long : (es : List SetEntry) (xs : List Shard) (i : ℕ) (d : SetEntry) → AreFilesOf es xs → i < length es
    → (length (shard_at xs i) ≡ (get_or es i d).size) × (i < length xs)
file-long [] xs i d same inside = absurd (let no : ⊥ = omega (arith, inside) in no)
file-long (e ∷ es) [] i d same inside = absurd (let no : ⊥ = cc in no)
file-long (e ∷ es) (x ∷ xs) zero d same inside = (let long : length x ≡ e.size = cc in long, omega arith)
file-long (e ∷ es) (x ∷ xs) (suc i) d same inside =
    let others : AreFilesOf es xs = cc in
    let less : i < length es = omega (arith, inside) in
    let rest = file-long es xs i d others less in
    (rest.0, (let h = rest.1 in omega (arith, h)))

module _ (s : FileSet) (files : List Shard) (some : 0 < s.block_bytes) (same : AreFilesOf s.entries files) where
  -- In the blocks of files, a place holds the bytes of the file that it names.
  pub laid_at : (place : Place) → IsPlaced s place → bytes_in (laid s files) place ≡ bytes_at files place
  unfolding laid
  laid_at place p =
      let none : SetEntry = record {
        kind = File;
        mode = 0;
        size = 0;
        seconds = 0;
        nanoseconds = 0;
        name = [];
        target = [];
        digest = [];
      } in
      let size : ℕ = s.block_bytes in
      let ds : Shard = data_after (unit_of s) 0 files in
      let file : Shard = shard_at files place.file in
      let start : ℕ = start_of (unit_of s) 0 s.entries place.file in
      let own = file-long s.entries files place.file none same p.file in
      let long = own.0 in
      let inside = p.inside none in
      let bytes = p.some in
      let le : place.offset + place.bytes ≤ length file = omega (arith, long, inside) in
      let full : 0 < length file = omega (arith, le, bytes) in
      let lie = files_lie (unit_of s) 0 s.entries files place.file (unit_some s some) same own.1 full in
      let begin : start - 0 ≡ start = omega arith in
      let whole : take (length file) (drop start ds) ≡ file =
      ap (λ (m : ℕ). take (length file) (drop m ds)) (sym begin) ∙ lie.bytes in
      let is = p.position_is in
      let within = p.within in
      let held : start + length file ≤ length ds =
      let taken = length-take (length file) (drop start ds) in
      let left = length-drop start ds in
      let same_length : length (take (length file) (drop start ds)) ≡ length file = ap length whole in
      let least = min-le_right (length file) (length (drop start ds)) in
      omega (arith, taken, left, same_length, least, full) in
      let block_held : place.at + place.bytes ≤ length (drop (place.block * size) ds) =
      let left = length-drop (place.block * size) ds in
      omega (arith, left, held, is, le, bytes) in
      ap (between place.at (place.at + place.bytes))
      (cut-at size (blocks_of size (data_of s)) place.block ds p.counted)
      ∙ within_block size place.at place.bytes (drop (place.block * size) ds) within block_held
      ∙ ap (take place.bytes) (drop-drop place.at (place.block * size) ds
      ∙ ap (λ (m : ℕ). drop m ds) is)
      ∙ sym (within_run place.offset place.bytes start (length file) ds le)
      ∙ ap (between place.offset (place.offset + place.bytes)) whole

-- Files have as many blocks as their data.
pub length-laid : (s : FileSet) (files : List Shard) → length (laid s files) ≡ blocks_of s.block_bytes (data_of s)
unfolding laid
length-laid s files =
    length-cut s.block_bytes (blocks_of s.block_bytes (data_of s)) (data_after (unit_of s) 0 files)

cut_sized : (size n : ℕ) (ds : Shard) → All (λ block. length block ≡ size) (cut_blocks size n ds)
unfolding cut_blocks
cut_sized size zero ds = All-nil (λ block. length block ≡ size)
cut_sized size (suc n) ds =
    let filled : Shard = ds ++ replicate size 0 in
    let taken = length-take size filled in
    let sum = length-append ds (replicate size 0) in
    let zeros : length (replicate size 0) ≡ size = length-replicate size (zero) in
    let le : size ≤ length filled = omega (arith, sum, zeros) in
    All-cons (λ block. length block ≡ size) (take size filled) (cut_blocks size n (drop size ds))
    (length-take-le size filled le) (cut_sized size n (drop size ds))

-- Each block has the size of a block.
pub laid_sized : (s : FileSet) (files : List Shard) → All (λ block. length block ≡ s.block_bytes) (laid s files)
unfolding laid
laid_sized s files =
    cut_sized s.block_bytes (blocks_of s.block_bytes (data_of s)) (data_after (unit_of s) 0 files)

-- If k is the number of blocks of the data, the files are laid in k blocks.
pub laid-counted : (s : FileSet) (files : List Shard) → s.original_count ≡ blocks_of s.block_bytes (data_of s)
    → cut_blocks s.block_bytes s.original_count (data_after (unit_of s) 0 files) ≡ laid s files
unfolding laid
laid-counted s files count =
    ap (λ (n : ℕ). cut_blocks s.block_bytes n (data_after (unit_of s) 0 files)) count
