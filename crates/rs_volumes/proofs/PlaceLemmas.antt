-- The places of files, block by block and file by file.
use Rattle.std.proofs.Common.{◌≡◌, ℕ, zero, suc, ◌+◌, ◌-◌, ◌*◌, ◌/◌, ◌<◌, ◌≤◌, max, min, List, [], ◌∷◌, ◌++◌}
use Rattle.std.proofs.Common.{length, take, refl, sym, ap, ◌∙◌, arith, ◌⊎◌, inl, inr, true, false, cond}
use Rattle.std.specs.Prelude.{◌==◌, ◌&&◌, nat_le, nat_lt, count_by}
use Rattle.std.specs.List.{All, flat_map, between}
use Rattle.std.proofs.Math.Nat.{suc-mul, div-mul-le_self, lt-div-mul-add, max-eq_left, max-eq_right, min-eq_left}
use Rattle.std.proofs.Math.Nat.{min-eq_right, min-le_left, min-le_right, le-max_left, le-max_right, add-mul}
use Rattle.std.proofs.Math.Nat.{mul-le-mul_right}
use Rattle.std.proofs.lemmas.Bool.{and_left, and_right, cases_lt, eq-eqb, le-leb, le-ltb, lt-leb, lt-ltb}
use Rattle.std.proofs.lemmas.List.Sums.{sum_by_push}
use Rattle.std.proofs.lemmas.Grind.{flat_map-append}
use Rattle.std.proofs.lemmas.List.{append-nil, take_all}
use Rattle.std.proofs.lemmas.List.Elements.{All-append, All-nil, All-cons}
use Rattle.rs_field.specs.code.Column.{Shard, shard_at}
use Rattle.rs_volumes.specs.declared.placement.Place.{Place}
use Rattle.rs_volumes.specs.Data.{blocks_of}
use Rattle.rs_volumes.specs.Laid.{is_at}
use Rattle.rs_volumes.specs.Places.{place_in, run_places, file_places, bytes_at, position, Rises}
use Rattle.rs_volumes.proofs.DataLemmas.{blocks_hold, blocks_needed}
use Rattle.rs_volumes.proofs.Strips.{take-further}

max_cases : (a b : ℕ) → ((max a b ≡ a) × (b ≤ a)) ⊎ ((max a b ≡ b) × (a ≤ b))
max_cases a b =
    elim (cases_lt b a) [
      | inl lt ↦ (let le : b ≤ a = omega arith in inl (max-eq_left le, le))
      | inr le ↦ inr (max-eq_right le, le)
    ]

min_cases : (a b : ℕ) → ((min a b ≡ a) × (a ≤ b)) ⊎ ((min a b ≡ b) × (b ≤ a))
min_cases a b =
    elim (cases_lt a b) [
      | inl lt ↦ (let le : a ≤ b = omega arith in inl (min-eq_left le, le))
      | inr le ↦ inr (min-eq_right le, le)
    ]

-- ---- one place

-- a file that lies in the data from `start` up to but without `end` has bytes in a block
pub record HasBytes (size start end block : ℕ) : Type 0 where
  pub some : 0 < size
  pub order : start < end
  pub begins : block * size < end
  pub ends : start < block * size + size

-- where the place of these bytes lies
pub record Lies (size start end block : ℕ) (place : Place) : Type 0 where
  pub some : 0 < place.bytes
  pub within : place.at + place.bytes ≤ size
  pub inside : place.offset + place.bytes ≤ end - start
  pub moved : block * size + place.at ≡ start + place.offset
  pub offset : place.offset ≡ block * size - start
  pub covered : place.offset + place.bytes ≡ min end (block * size + size) - start
  pub begun : max start (block * size) ≡ block * size + place.at
  pub goes : block * size + place.at + place.bytes ≡ min end (block * size + size)

pub lies : (size file start end block : ℕ) → HasBytes size start end block
    → Lies size start end block (place_in size file start end block)
unfolding place_in
lies size file start end block h =
    let size_some = h.some in
    let order = h.order in
    let begins = h.begins in
    let ends = h.ends in
    let from = max_cases start (block * size) in
    let until = min_cases end (block * size + size) in
    record {
      some = omega (arith, from, until, size_some, order, begins, ends);
      within = omega (arith, from, until, order, begins, ends);
      inside = omega (arith, from, until, order, begins, ends);
      moved = omega (arith, from, until, order, begins, ends);
      offset = omega (arith, from, until, order, begins, ends);
      covered = omega (arith, from, until, order, begins, ends);
      begun = omega (arith, from, until, order, begins, ends);
      goes = omega (arith, from, until, order, begins, ends);
    }

pub block_is : (size file start end block : ℕ) → (place_in size file start end block).block ≡ block
unfolding place_in
block_is size file start end block = refl

pub file_is : (size file start end block : ℕ) → (place_in size file start end block).file ≡ file
unfolding place_in
file_is size file start end block = refl

-- ---- rising places

-- the end of the last of some places, or the position before them
unfoldable pub reached : ℕ → ℕ → List Place → ℕ
reached size from [] = from
reached size from (place ∷ places) = reached size (position size place + place.bytes) places

pub reached-append : (size from : ℕ) (xs ys : List Place)
    → reached size from (xs ++ ys) ≡ reached size (reached size from xs) ys
unfolding reached
reached-append size from [] ys = refl
reached-append size from (x ∷ xs) ys = reached-append size (position size x + x.bytes) xs ys

pub reached-grows : (size from to : ℕ) (xs : List Place) → from ≤ to → reached size from xs ≤ reached size to xs
unfolding reached
reached-grows size from to [] le = le
reached-grows size from to (x ∷ xs) le = let h : reached size (position size x + x.bytes) xs
    ≤ reached size (position size x + x.bytes) xs = omega arith in h

pub rises-from : (size from to : ℕ) (xs : List Place) → from ≤ to → Rises size to xs → Rises size from xs
unfolding Rises
rises-from size from to [] le h = tt
rises-from size from to (x ∷ xs) le h = (omega (arith, le, h.0), h.1)

pub rises-append : (size from : ℕ) (xs ys : List Place) → Rises size from xs → Rises size (reached size from xs) ys
    → Rises size from (xs ++ ys)
unfolding Rises reached
rises-append size from [] ys h k = k
rises-append size from (x ∷ xs) ys h k = (h.0, rises-append size (position size x + x.bytes) xs ys h.1 k)

-- ---- the places of one file

-- n blocks from `first` on have bytes of a file, and the first of them has its first byte
pub record AreRun (size start end first n : ℕ) : Type 0 where
  pub some : 0 < size
  pub order : start < end
  pub begins : first * size ≤ start
  pub ends : start < first * size + size
  pub last : (m : ℕ) → m < n → (first + m) * size < end

fewer : {size start end first n : ℕ} → AreRun size start end first (suc n) → AreRun size start end first n
fewer h =
    record {
      some = h.some;
      order = h.order;
      begins = h.begins;
      ends = h.ends;
      last = λ m lt. h.last m (omega (arith, lt));
    }

-- the first block of a run is before the others
later : (size first n : ℕ) → (first + n) * size ≡ first * size + n * size
later size first n = add-mul first n size

has_bytes : {size start end first n : ℕ} → AreRun size start end first (suc n) → HasBytes size start end (first + n)
has_bytes {size = size} {first = first} {n = n} h =
    let sum = later size first n in
    let e = h.ends in
    record { some = h.some; order = h.order; begins = h.last n (omega arith); ends = omega (arith, sum, e) }

-- the next block begins where a block ends
next_block : (size first n : ℕ) → (first + suc n) * size ≡ (first + n) * size + size
next_block size first n =
    let k : first + suc n ≡ suc (first + n) = omega arith in
    ap (λ (m : ℕ). m * size) k ∙ suc-mul (first + n) size

-- ---- the bytes at the places of one file

unfoldable reach : ℕ → ℕ → ℕ → ℕ → ℕ
reach size start end block = min end (block * size) - start

-- Before the place in a block, the places of the file reach the offset of this place.
reach_is : (size start end block : ℕ) → HasBytes size start end block
    → reach size start end block ≡ block * size - start
unfolding reach
reach_is size start end block h =
    let begins = h.begins in
    let le : block * size ≤ end = omega (arith, begins) in
    ap (λ (m : ℕ). m - start) (min-eq_right le)

reach_none : (size start end first : ℕ) → AreRun size start end first 0 → reach size start end (first + 0) ≡ 0
unfolding reach
reach_none size start end first h =
    let begins = h.begins in
    let e : first + 0 ≡ first = omega arith in
    let same : (first + 0) * size ≡ first * size = ap (λ (m : ℕ). m * size) e in
    let least = min-le_right end ((first + 0) * size) in
    omega (arith, begins, same, least)

reach_next : (size start end first n : ℕ)
    → min end ((first + n) * size + size) - start ≡ reach size start end (first + suc n)
unfolding reach
reach_next size start end first n = ap (λ (m : ℕ). min end m - start) (sym (next_block size first n))

-- The blocks from that of the first byte of a file to that of its last byte have bytes of the file.
pub file_run : (size start end : ℕ) → 0 < size → start < end
    → AreRun size start end (start / size) (blocks_of size end - start / size)
file_run size start end some order =
    record {
      some = some;
      order = order;
      begins = div-mul-le_self start size;
      ends = lt-div-mul-add some;
      last = λ m lt.
          let below : suc (start / size + m) ≤ blocks_of size end = omega (arith, lt) in
          let fewer_bytes : suc (start / size + m) * size ≤ blocks_of size end * size = mul-le-mul_right size below in
          let cut = suc-mul (start / size + m) size in
          let needed = blocks_needed size end some in
          omega (arith, fewer_bytes, cut, needed, some);
    }

-- A block from that of the first byte of a file to that of its last byte has bytes of the file.
pub block_has_bytes : (size start end block : ℕ) → 0 < size → start < end → start / size ≤ block
    → block < blocks_of size end → HasBytes size start end block
block_has_bytes size start end block some order from until =
    let run = file_run size start end some order in
    let m : ℕ = block - start / size in
    let sum : start / size + m ≡ block = omega (arith, from) in
    let inside : m < blocks_of size end - start / size = omega (arith, from, until) in
    let first : start < start / size * size + size = lt-div-mul-add some in
    let more : start / size * size ≤ block * size = mul-le-mul_right size from in
    let last : (start / size + m) * size < end = run.last m inside in
    let same : (start / size + m) * size ≡ block * size = ap (λ (b : ℕ). b * size) sum in
    record {
      some = some;
      order = order;
      begins = omega (arith, last, same);
      ends = omega (arith, first, more);
    }

-- The places in one more block.
pub run_further : (size file start end first block : ℕ) → first ≤ block
    → run_places size file start end first (block + 1 - first)
    ≡ run_places size file start end first (block - first) ++ place_in size file start end block ∷ []
unfolding run_places
run_further size file start end first block le =
    let more : block + 1 - first ≡ suc (block - first) = omega (arith, le) in
    let sum : first + (block - first) ≡ block = omega (arith, le) in
    rw more (ap (λ (b : ℕ). run_places size file start end first (block - first) ++ place_in size file start end b ∷ [])
    sum)

pub run_none : (size file start end first : ℕ) → run_places size file start end first (first - first) ≡ []
unfolding run_places
run_none size file start end first =
    let none : first - first ≡ 0 = omega arith in
    rw none refl

-- The first of these blocks is not after the last one.
pub less_blocks : (size start end : ℕ) → 0 < size → start < end → start / size ≤ blocks_of size end
less_blocks size start end some order =
    elim (cases_lt (blocks_of size end) (start / size)) [
      | inl lt ↦
          absurd (let more : suc (blocks_of size end) ≤ start / size = omega (arith, lt) in
          let bytes : suc (blocks_of size end) * size ≤ start / size * size = mul-le-mul_right size more in
          let cut = suc-mul (blocks_of size end) size in
          let held = blocks_hold size end some in
          let begins = div-mul-le_self start size in
          let no : ⊥ = omega (arith, bytes, cut, held, begins, order) in no)
      | inr le ↦ le
    ]

-- The places of these blocks reach the end of the file.
reach_all : (size start end : ℕ) → 0 < size → start < end
    → reach size start end (start / size + (blocks_of size end - start / size)) ≡ end - start
unfolding reach
reach_all size start end some order =
    let held = blocks_hold size end some in
    let first = div-mul-le_self start size in
    let fewer_blocks : start / size ≤ blocks_of size end = less_blocks size start end some order in
    let all : start / size + (blocks_of size end - start / size) ≡ blocks_of size end = omega (arith, fewer_blocks) in
    rw all (ap (λ (m : ℕ). m - start) (min-eq_left held))

run_covers : (size file start end first : ℕ) (contents : List Shard) (n : ℕ) → AreRun size start end first n
    → flat_map (bytes_at contents) (run_places size file start end first n)
    ≡ take (reach size start end (first + n)) (shard_at contents file)
unfolding run_places
run_covers size file start end first contents zero h = rw (reach_none size start end first h) refl
run_covers size file start end first contents (suc n) h =
    let block : ℕ = first + n in
    let place : Place = place_in size file start end block in
    let l = lies size file start end block (has_bytes h) in
    let own : Shard = shard_at contents file in
    let here : bytes_at contents place ≡ between place.offset (place.offset + place.bytes) own =
    ap (λ (i : ℕ). between place.offset (place.offset + place.bytes) (shard_at contents i))
    (file_is size file start end block) in
    let from : reach size start end block ≡ place.offset =
    reach_is size start end block (has_bytes h) ∙ sym l.offset in
    let to : place.offset + place.bytes ≡ reach size start end (first + suc n) =
    l.covered ∙ reach_next size start end first n in
    let order : place.offset ≤ place.offset + place.bytes = omega arith in
    flat_map-append (bytes_at contents) (run_places size file start end first n) (place ∷ [])
    ∙ rw (run_covers size file start end first contents n (fewer h), append-nil (bytes_at contents place), here, from)
    (take-further place.offset (place.offset + place.bytes) own order
    ∙ ap (λ (m : ℕ). take m own) to)

-- The places of a file cover it.
pub file_covers : (size file start end : ℕ) (contents : List Shard) → 0 < size → start < end
    → length (shard_at contents file) ≡ end - start
    → flat_map (bytes_at contents) (file_places size file start end) ≡ shard_at contents file
file_covers size file start end contents some order long =
    let h = file_run size start end some order in
    run_covers size file start end (start / size) contents (blocks_of size end - start / size) h
    ∙ rw (reach_all size start end some order) (take_all (end - start) (shard_at contents file) (omega (arith, long)))

-- ---- the places of one file rise

position_is : (size file start end block : ℕ)
    → position size (place_in size file start end block) ≡ block * size + (place_in size file start end block).at
position_is size file start end block =
    ap (λ (b : ℕ). b * size + (place_in size file start end block).at) (block_is size file start end block)

-- places rise from the start of a file on, up to the next block or the end of the file
record RiseTo (size start end next : ℕ) (places : List Place) : Type 0 where
  pub rise : Rises size start places
  pub up_to : reached size start places ≤ max start next
  pub in_file : reached size start places ≤ end

one_rises : (size from : ℕ) (place : Place) → from ≤ position size place → Rises size from (place ∷ [])
unfolding Rises
one_rises size from place le = (le, tt)

one_reached : (size from : ℕ) (place : Place) → reached size from (place ∷ []) ≡ position size place + place.bytes
unfolding reached
one_reached size from place = refl

none_rise : (size start end next : ℕ) → start ≤ end → RiseTo size start end next []
unfolding Rises reached
none_rise size start end next le = record { rise = tt; up_to = le-max_left start next; in_file = le }

run_rises : (size file start end first n : ℕ) → AreRun size start end first n
    → RiseTo size start end ((first + n) * size) (run_places size file start end first n)
unfolding run_places
run_rises size file start end first zero h =
    let order = h.order in
    let le : start ≤ end = omega (arith, order) in
    none_rise size start end ((first + 0) * size) le
run_rises size file start end first (suc n) h =
    let block : ℕ = first + n in
    let place : Place = place_in size file start end block in
    let l = lies size file start end block (has_bytes h) in
    let before = run_rises size file start end first n (fewer h) in
    let run : List Place = run_places size file start end first n in
    let at_is = position_is size file start end block in
    let begun = l.begun in
    let up_to = before.up_to in
    let le : reached size start run ≤ position size place = omega (arith, up_to, begun, at_is) in
    let whole : reached size start (run ++ place ∷ []) ≡ min end (block * size + size) =
    reached-append size start run (place ∷ []) ∙ one_reached size (reached size start run) place
    ∙ (let goes = l.goes in omega (arith, goes, at_is)) in
    let next = next_block size first n in
    let right = min-le_right end (block * size + size) in
    let left = min-le_left end (block * size + size) in
    let most = le-max_right start ((first + suc n) * size) in
    record {
      rise = rises-append size start run (place ∷ []) before.rise
          (one_rises size (reached size start run) place le);
      up_to = omega (arith, whole, next, right, most);
      in_file = omega (arith, whole, left);
    }

-- The places of a file rise from its start on, and end in the file.
pub file_rises : (size file start end : ℕ) → 0 < size → start < end → Rises size start (file_places size file start end)
    × (reached size start (file_places size file start end) ≤ end)
file_rises size file start end some order =
    let h = run_rises size file start end (start / size) (blocks_of size end - start / size)
    (file_run size start end some order) in
    (h.rise, h.in_file)

-- ---- what is true of each place of a file

run_all : (P : Place → Type 0) (size file start end first n : ℕ) → AreRun size start end first n
    → ((block : ℕ) → HasBytes size start end block → P (place_in size file start end block))
    → All P (run_places size file start end first n)
unfolding run_places
run_all P size file start end first zero h each = All-nil P
run_all P size file start end first (suc n) h each =
    All-append P (run_places size file start end first n) (place_in size file start end (first + n) ∷ [])
    (run_all P size file start end first n (fewer h) each)
    (All-cons P (place_in size file start end (first + n)) [] (each (first + n) (has_bytes h)) (All-nil P))

-- If a statement is true of the place in each block with bytes of a file, it is true of all places of the file.
pub file_all : (P : Place → Type 0) (size file start end : ℕ) → 0 < size → start < end
    → ((block : ℕ) → HasBytes size start end block → P (place_in size file start end block))
    → All P (file_places size file start end)
file_all P size file start end some order each =
    run_all P size file start end (start / size) (blocks_of size end - start / size)
    (file_run size start end some order) each

-- ---- the places of one byte of a file

-- Whether a byte is at a place of its file.
is_at-before : (file offset : ℕ) (place : Place) → offset < place.offset → is_at file offset place ≡ false
is_at-before file offset place lt =
    and_right (place.file == file) (nat_le place.offset offset && nat_lt offset (place.offset + place.bytes))
    (and_left (nat_le place.offset offset) (nat_lt offset (place.offset + place.bytes))
    (lt-leb place.offset offset lt))

is_at-within : (file offset : ℕ) (place : Place) → place.file ≡ file → place.offset ≤ offset
    → offset < place.offset + place.bytes → is_at file offset place ≡ true
is_at-within file offset place same le lt =
    rw (eq-eqb place.file file same, le-leb place.offset offset le, lt-ltb offset (place.offset + place.bytes) lt) refl

is_at-after : (file offset : ℕ) (place : Place) → place.offset + place.bytes ≤ offset
    → is_at file offset place ≡ false
is_at-after file offset place le =
    and_right (place.file == file) (nat_le place.offset offset && nat_lt offset (place.offset + place.bytes))
    (and_right (nat_le place.offset offset) (nat_lt offset (place.offset + place.bytes))
    (le-ltb offset (place.offset + place.bytes) le))

one_at : (file offset : ℕ) (ps : List Place) (place : Place) → count_by (is_at file offset) (ps ++ place ∷ [])
    ≡ count_by (is_at file offset) ps + cond (is_at file offset place) 1 0
one_at file offset ps place = sum_by_push (λ (p : Place). cond (is_at file offset p) 1 0) ps place

-- A byte is at one of the places of a run if the run reaches it.
run_at : (size file start end first offset n : ℕ) → AreRun size start end first n
    → count_by (is_at file offset) (run_places size file start end first n)
    ≡ cond (nat_lt offset (reach size start end (first + n))) 1 0
unfolding run_places
run_at size file start end first offset zero h =
    let none : 0 ≤ offset = omega arith in
    rw (reach_none size start end first h, le-ltb offset 0 none) refl
run_at size file start end first offset (suc n) h =
    let block : ℕ = first + n in
    let place : Place = place_in size file start end block in
    let run : List Place = run_places size file start end first n in
    let l = lies size file start end block (has_bytes h) in
    let from : reach size start end block ≡ place.offset =
    reach_is size start end block (has_bytes h) ∙ sym l.offset in
    let to : place.offset + place.bytes ≡ reach size start end (first + suc n) =
    l.covered ∙ reach_next size start end first n in
    let before : count_by (is_at file offset) run ≡ cond (nat_lt offset place.offset) 1 0 =
    run_at size file start end first offset n (fewer h)
    ∙ ap (λ (m : ℕ). cond (nat_lt offset m) 1 0) from in
    one_at file offset run place ∙ rw (before, ← to) (elim (cases_lt offset place.offset) [
      | inl lt ↦
          let more : offset < place.offset + place.bytes = omega (arith, lt) in
          rw (
            is_at-before file offset place lt,
            lt-ltb offset place.offset lt,
            lt-ltb offset (place.offset + place.bytes) more,
          ) refl
      | inr le ↦ elim (cases_lt offset (place.offset + place.bytes)) [
        | inl lt ↦
            rw (
              is_at-within file offset place (file_is size file start end block) le lt,
              le-ltb offset place.offset le,
              lt-ltb offset (place.offset + place.bytes) lt,
            ) refl
        | inr past ↦
            rw (
              is_at-after file offset place past,
              le-ltb offset place.offset le,
              le-ltb offset (place.offset + place.bytes) past,
            ) refl
      ]
    ])

-- A byte of a file is at exactly one of its places.
pub file_once : (size file start end offset : ℕ) → 0 < size → start < end → offset < end - start
    → count_by (is_at file offset) (file_places size file start end) ≡ 1
file_once size file start end offset some order inside =
    run_at size file start end (start / size) offset (blocks_of size end - start / size)
    (file_run size start end some order)
    ∙ rw (reach_all size start end some order, lt-ltb offset (end - start) inside) refl
