-- Files in memory that are laid end to end, and cut from blocks.
use Rattle.std.proofs.Common.{◌≡◌, ℕ, suc, ◌+◌, ◌-◌, ◌<◌, ◌≤◌, List, ◌∷◌, [], ◌++◌, Bool, cond, length, drop, take}
use Rattle.std.proofs.Common.{min, get_or, refl, sym, ap, ◌∙◌, append_assoc, arith, subst, inl, inr, Some}
use Rattle.std.specs.Prelude.{◌==◌, replicate}
use Rattle.std.specs.List.{All, flat_map}
use Rattle.std.specs.Global.{Vec}
use Rattle.std.proofs.Math.ListN.{set}
use Rattle.std.proofs.lemmas.Bool.{cases_eq, eq-eqb, ne_eqb}
use Rattle.std.proofs.lemmas.Grind.{flat_map-append}
use Rattle.std.proofs.lemmas.List.{append-nil, drop_more, get_or-replicate, get_or-set_other, get_or-set_same}
use Rattle.std.proofs.lemmas.List.{length-append, length-map, length-replicate, length-set, map-append, take_all}
use Rattle.std.proofs.lemmas.List.{take_more}
use Rattle.std.proofs.lemmas.List.{get_or_default, same_lists}
use Rattle.std.proofs.lemmas.Option.{slice_get-get_or}
use Rattle.reed_solomon_simd.specs.Column.{Shard, shard_at}
use Rattle.rs_volumes.specs.declared.placement.Place.{Place}
use Rattle.rs_volumes.specs.Description.{FileSet, SetEntry}
use Rattle.rs_volumes.specs.Laid.{AreFilesOf, HoldFiles, bytes_in, cut_blocks, data_after, file_in, laid}
use Rattle.rs_volumes.specs.Places.{IsPlaced}
use Rattle.rs_volumes.specs.Data.{blocks_of, data_of, round_up, unit_of}
use Rattle.rs_volumes.proofs.DataLemmas.{round_up_least}
use Rattle.rs_volumes.proofs.LaidLemmas.{cut-further, cut-nil, data-further, data-one, laid_sized}
use Rattle.rs_volumes.proofs.LaidLemmas.{laid-counted, length-laid}
use Rattle.rs_examples.specs.Blocks.{blocks_in, EnoughLeft}
use Rattle.rs_examples.specs.Losing.{left_below}
use Rattle.rs_volumes.specs.declared.creating.Shape.{Shape}
use Rattle.rs_examples.specs.Files.{bytes_of, AreCut, AreFilesLeft, AreWithin}

-- One more file is laid.
pub lay-further : (unit : ℕ) (files : List (Vec ℕ)) (i : ℕ) (file : Vec ℕ) (row next : Shard) → 0 < unit
    → i < length files → file ≡ get_or files i file
    → next ≡ row ++ data_after unit (length row) (file.items ∷ [])
    → row ++ data_after unit (length row) (bytes_of (drop i files))
    ≡ next ++ data_after unit (length next) (bytes_of (drop (i + 1) files))
lay-further unit files i file row next some inside is more =
    let one : Shard = data_after unit (length row) (file.items ∷ []) in
    let others : List Shard = bytes_of (drop (i + 1) files) in
    let long : length next ≡ length row + length one =
    ap (λ (xs : Shard). length xs) more ∙ length-append row one in
    ap (λ (fs : List (Vec ℕ)). row ++ data_after unit (length row) (bytes_of fs))
    (drop_more files i file inside ∙ ap (λ (f : Vec ℕ). f ∷ drop (i + 1) files) (sym is))
    ∙ ap (λ (ds : Shard). row ++ ds) (data-further unit (length row) file.items others some)
    ∙ sym (append_assoc row one (data_after unit (length row + length one) others))
    ∙ ap (λ (m : ℕ). (row ++ one) ++ data_after unit m others) (sym long)
    ∙ ap (λ (ds : Shard). ds ++ data_after unit (length next) others) (sym more)

-- A file is appended to the files before it.
pub file-appended : (unit start len : ℕ) (row filled next file : Shard) → 0 < unit → 0 < length file
    → start ≡ round_up unit (length row) → len ≡ length row → filled ≡ take start row ++ replicate (start - len) 0
    → next ≡ filled ++ file → next ≡ row ++ data_after unit (length row) (file ∷ [])
file-appended unit start len row filled next file some full start_is len_is filled_is next_is =
    let least = round_up_least unit (length row) some in
    let long : length row ≤ start = omega (arith, least, start_is) in
    let gap : start - len ≡ round_up unit (length row) - length row = omega (arith, start_is, len_is) in
    next_is ∙ ap (λ (x : Shard). x ++ file) filled_is
    ∙ ap (λ (x : Shard). (x ++ replicate (start - len) 0) ++ file) (take_all start row long)
    ∙ ap (λ (m : ℕ). (row ++ replicate m 0) ++ file) gap
    ∙ append_assoc row (replicate (round_up unit (length row) - length row) 0) file
    ∙ ap (λ (x : Shard). row ++ x) (sym (data-one unit (length row) file full))

-- One more block is cut.
pub block-further : (size count n : ℕ) (rest : Shard) (blocks : List (Vec ℕ)) (block : Vec ℕ) → n < count
    → block.items ≡ take size (take (min size (length rest)) rest ++ replicate size 0)
    → bytes_of blocks ++ cut_blocks size (count - n) rest
    ≡ bytes_of (blocks ++ block ∷ []) ++ cut_blocks size (count - (n + 1)) (drop (min size (length rest)) rest)
block-further size count n rest blocks block inside is =
    let left : count - n ≡ suc (count - (n + 1)) = omega (arith, inside) in
    let next : Shard = drop (min size (length rest)) rest in
    ap (λ (m : ℕ). bytes_of blocks ++ cut_blocks size m rest) left
    ∙ ap (λ (bs : List Shard). bytes_of blocks ++ bs)
    (cut-further size (count - (n + 1)) rest
    ∙ ap (λ (b : Shard). b ∷ cut_blocks size (count - (n + 1)) next) (sym is))
    ∙ sym (append_assoc (bytes_of blocks) (block.items ∷ []) (cut_blocks size (count - (n + 1)) next))
    ∙ ap (λ (bs : List Shard). bs ++ cut_blocks size (count - (n + 1)) next)
    (sym (map-append (λ (b : Vec ℕ). b.items) blocks (block ∷ [])))

-- All blocks are cut.
pub blocks-all : (size count n : ℕ) (rest : Shard) (blocks : List Shard) → count ≤ n
    → blocks ++ cut_blocks size (count - n) rest ≡ blocks
blocks-all size count n rest blocks past =
    let none : count - n ≡ 0 = omega (arith, past) in
    ap (λ (m : ℕ). blocks ++ cut_blocks size m rest) none
    ∙ ap (λ (bs : List Shard). blocks ++ bs) (cut-nil size rest) ∙ append-nil blocks

-- ---- files that are cut from blocks

-- Before the first place, files have no bytes.
pub cut-none : (count : ℕ) (blocks files : List Shard) → files ≡ replicate count [] → AreCut count [] blocks files
cut-none count blocks files none =
    let empty : Shard = [] in
    record {
      number = ap (λ (fs : List Shard). length fs) none ∙ length-replicate count empty;
      each = λ i inside.
          ap (λ (fs : List Shard). shard_at fs i) none ∙ get_or-replicate count i empty empty inside;
    }

-- The bytes at one more place belong to the file that it names.
file_in-further : (places : List Place) (n i : ℕ) (d : Place) (blocks : List Shard) → n < length places
    → file_in (take (n + 1) places) blocks i ≡ file_in (take n places) blocks i
    ++ cond ((get_or places n d).file == i) (bytes_in blocks (get_or places n d)) []
file_in-further places n i d blocks inside =
    let own : Place → Shard = λ place. cond (place.file == i) (bytes_in blocks place) [] in
    ap (flat_map own) (take_more places n d inside)
    ∙ flat_map-append own (take n places) (get_or places n d ∷ [])
    ∙ ap (λ (x : Shard). flat_map own (take n places) ++ x) (append-nil (own (get_or places n d)))

pub cut-more : (count : ℕ) (places : List Place) (blocks files : List Shard) (n : ℕ) (d : Place) (piece : Shard)
    → AreCut count (take n places) blocks files → n < length places → (get_or places n d).file < count
    → piece ≡ bytes_in blocks (get_or places n d)
    → AreCut count (take (n + 1) places) blocks
    (set files (get_or places n d).file (shard_at files (get_or places n d).file ++ piece))
cut-more count places blocks files n d piece cut inside named is =
    let file : ℕ = (get_or places n d).file in
    let longer : Shard = shard_at files file ++ piece in
    let held : file < length files = let number = cut.number in omega (arith, named, number) in
    record {
      number = length-set files file longer ∙ cut.number;
      each = λ i lt. elim (cases_eq i file) [
        | inl same ↦
            ap (λ (j : ℕ). shard_at (set files file longer) j) same
            ∙ get_or-set_same files file longer [] held
            ∙ ap (λ (x : Shard). shard_at files file ++ x) is
            ∙ ap (λ (x : Shard). x ++ bytes_in blocks (get_or places n d)) (cut.each file named)
            ∙ ap (λ (b : Bool). file_in (take n places) blocks file ++ cond b (bytes_in blocks (get_or places n d)) [])
            (sym (eq-eqb file file refl))
            ∙ sym (file_in-further places n file d blocks inside)
            ∙ ap (file_in (take (n + 1) places) blocks) (sym same)
        | inr differ ↦
            get_or-set_other files file i longer [] differ
            ∙ cut.each i lt
            ∙ sym (append-nil (file_in (take n places) blocks i))
            ∙ ap (λ (b : Bool). file_in (take n places) blocks i ++ cond b (bytes_in blocks (get_or places n d)) [])
            (sym (ne_eqb file i (λ e. differ (sym e))))
            ∙ sym (file_in-further places n i d blocks inside)
      ];
    }

-- A block at a place is known.
pub block-known : (blocks : List Shard) (places : List Place) (n : ℕ) (d : Place) → AreWithin blocks places
    → n < length places
    → (blocks_in blocks (get_or places n d).block ≡ Some (shard_at blocks (get_or places n d).block))
    × ((get_or places n d).at + (get_or places n d).bytes ≤ length (shard_at blocks (get_or places n d).block))
block-known blocks places n d within inside =
    let own = within n d inside in
    (slice_get-get_or blocks (get_or places n d).block [] own.0, own.1)

-- There are as many files as lists of bytes.
pub length-bytes : (files : List (Vec ℕ)) → length (bytes_of files) ≡ length files
length-bytes files = length-map files (λ (file : Vec ℕ). file.items)

-- ---- a round trip

-- The blocks of files are enough for a round trip of blocks.
pub enough-laid : (s : FileSet) (files : List Shard) (lost : List ℕ) (shape : Shape) (blocks : List Shard)
    → AreFilesLeft s files lost → shape.original_count ≡ s.original_count → shape.recovery_count ≡ s.recovery_count
    → shape.block_bytes ≡ s.block_bytes → blocks ≡ laid s files → EnoughLeft shape blocks lost
enough-laid s files lost shape blocks left k_is r_is b_is are =
    record {
      number = ap (λ (bs : List Shard). length bs) are ∙ length-laid s files ∙ sym left.counted ∙ sym k_is;
      sized = subst (λ (bs : List Shard). All (λ block. length block ≡ shape.block_bytes) bs) (sym are)
          (subst (λ (n : ℕ). All (λ block. length block ≡ n) (laid s files)) (sym b_is) (laid_sized s files));
      enough = subst (λ (k : ℕ). k ≤ left_below (k + shape.recovery_count) lost) (sym k_is)
          (subst (λ (r : ℕ). s.original_count ≤ left_below (s.original_count + r) lost) (sym r_is) left.enough);
    }

-- Each place of a set is in the blocks of its files.
pub within-laid : (s : FileSet) (files : List Shard) (places : List Place) (blocks : List Shard)
    → All (IsPlaced s) places → blocks ≡ laid s files → AreWithin blocks places
within-laid s files places blocks placed are k d inside =
    let p = placed k d inside in
    let place : Place = get_or places k d in
    let number : length blocks ≡ blocks_of s.block_bytes (data_of s) =
    ap (λ (bs : List Shard). length bs) are ∙ length-laid s files in
    let counted = p.counted in
    let held : place.block < length blocks = omega (arith, counted, number) in
    let sized : All (λ block. length block ≡ s.block_bytes) blocks =
    subst (λ (bs : List Shard). All (λ block. length block ≡ s.block_bytes) bs) (sym are) (laid_sized s files) in
    let long : length (shard_at blocks place.block) ≡ s.block_bytes = sized place.block [] held in
    let within = p.within in
    (held, omega (arith, within, long))

-- Files that are cut from the blocks of files are these files.
pub files-back : (s : FileSet) (files : List Shard) (places : List Place) (blocks back : List Shard)
    → AreFilesOf s.entries files → HoldFiles s places → blocks ≡ laid s files
    → AreCut (length s.entries) places blocks back → back ≡ files
files-back s files places blocks back sizes hold are cut =
    let long : length s.entries ≡ length files =
    sym (length-map s.entries (λ (e : SetEntry). e.size)) ∙ ap (λ (ns : List ℕ). length ns) (sym sizes)
    ∙ length-map files (λ (bytes : Shard). length bytes) in
    same_lists back files (cut.number ∙ long) (λ i d h.
    let number = cut.number in
    let inside : i < length s.entries = omega (arith, h, number) in
    let has : i < length files = omega (arith, inside, long) in
    get_or_default back i d [] h
    ∙ cut.each i inside
    ∙ ap (λ (bs : List Shard). file_in places bs i) are
    ∙ hold files sizes i has
    ∙ sym (get_or_default files i d [] has))

-- Blocks that are cut from laid files are the blocks of these files.
pub row-laid : (s : FileSet) (files : List Shard) (unit : ℕ) (row seen : Shard) (blocks : List Shard)
    → s.original_count ≡ blocks_of s.block_bytes (data_of s) → unit ≡ unit_of s → row ≡ data_after unit 0 files
    → seen ≡ row → blocks ≡ cut_blocks s.block_bytes s.original_count seen → blocks ≡ laid s files
row-laid s files unit row seen blocks count unit_is row_is seen_is blocks_are =
    blocks_are
    ∙ ap (cut_blocks s.block_bytes s.original_count) (seen_is ∙ row_is ∙ ap (λ (u : ℕ). data_after u 0 files) unit_is)
    ∙ laid-counted s files count
