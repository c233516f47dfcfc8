-- Blocks in memory that come back after some of them were lost.
use Rattle.std.proofs.Common.{rules, ◌≡◌, ◌≢◌, ◌⊎◌, ℕ, zero, suc, ◌+◌, ◌-◌, ◌*◌, ◌%◌, ◌<◌, ◌≤◌, not, Bool, true, false}
use Rattle.std.proofs.Common.{cond, List, [], ◌∷◌, ◌++◌, length, get_or, take, drop, map, Some, None, Ok}
use Rattle.std.proofs.Common.{nat_eq, refl, sym, ap, ◌∙◌, inl, inr, append_assoc, arith}
use Rattle.std.specs.Prelude.{nat_lt, replicate}
use Rattle.std.specs.Global.{Vec}
use Rattle.std.proofs.Math.ListN.{set}
use Rattle.std.proofs.Common.{get_or-set_other}
use Rattle.std.specs.List.{between, flat_map, list_any, IsDistinct}
use Rattle.std.proofs.lemmas.Bool.{and_parts, eq-eqb, ne_eqb, ltb-true, cases_lt}
use Rattle.std.proofs.lemmas.Grind.{common_steps}
use Rattle.std.proofs.lemmas.List.{same_lists, get_or_default, get_or-append_right, length-append, take_at, drop_at}
use Rattle.std.proofs.lemmas.List.{drop-drop, map-set, get_or-map, length-map}
use Rattle.std.proofs.lemmas.List.Folds.{list_any_at, list_any-append}
use Rattle.std.proofs.lemmas.Map.Keys.{IsDistinct-push}
use Rattle.std.proofs.lemmas.Option.{slice_get-get_or, slice_get_within, get_or_from_slice_get}
use Rattle.std.proofs.Math.ListN.{get_or-append}
use Rattle.sha2.specs.Sha256.{sha256}
use Rattle.sha2.proofs.Facts256.{length-sha256}
use Rattle.rs_field.specs.code.Pieces.{IsStrip}
use Rattle.reed_solomon_simd.specs.Column.{Shard, shard_at}
use Rattle.reed_solomon_simd.specs.Configuration.{validation_outcome}
use Rattle.reed_solomon_simd.specs.OneCall.{default_of}
use Rattle.reed_solomon_simd.specs.Given.{Shards}
use Rattle.reed_solomon_simd.proofs.SetUp.{valid-even}
use Rattle.reed_solomon_simd.proofs.StateLemmas.{valid-supported}
use Rattle.rs_volumes.specs.declared.creating.Shape.{Shape}
use Rattle.rs_volumes.specs.declared.restoring.Plan.{Plan}
use Rattle.rs_volumes.specs.Creating.{IsCreated}
use Rattle.rs_volumes.specs.Restoring.{AreKnown, AreOriginals, HasDigest, ReadsSet}
use Rattle.rs_examples.specs.Blocks.{blocks_in, EnoughLeft, ListsLeft}
use Rattle.rs_examples.specs.Losing.{is_lost, left_from, left_below}

-- ---- the numbers of the blocks that are left

-- No number is below 0.
pub left-none : (first : ℕ) (lost : List ℕ) → ListsLeft first 0 lost []
unfolding IsDistinct
left-none first lost = search rules

left_from-next : (from n : ℕ) (lost : List ℕ)
    → left_from from (n + 1) lost ≡ left_from from n lost + cond (is_lost lost (from + n)) 0 1
left_from-next from zero lost =
    let at : from + 0 ≡ from = omega arith in
    rw at (let l : ℕ = cond (is_lost lost from) 0 1 in let same : l + 0 ≡ 0 + l = omega arith in same)
left_from-next from (suc n) lost =
    let at : from + 1 + n ≡ from + suc n = omega arith in
    let rest = rw at at (left_from-next (from + 1) n lost) in
    let first : ℕ = cond (is_lost lost from) 0 1 in
    (let more : suc n + 1 ≡ suc (n + 1) = omega arith in ap (λ (x : ℕ). left_from from x lost) more)
    ∙ ap (λ (m : ℕ). first + m) rest
    ∙ (let a : ℕ = left_from (from + 1) n lost in let b : ℕ = cond (is_lost lost (from + suc n)) 0 1 in
    let same : first + (a + b) ≡ first + a + b = omega arith in same)

module _ {first n : ℕ} {lost numbers : List ℕ} (lists : ListsLeft first n lost numbers) where
  -- The next block is left.
  pub left-kept : is_lost lost (first + n) ≡ false → ListsLeft first (n + 1) lost (numbers ++ n ∷ [])
  left-kept kept =
      record {
        each = search (rules, list_any-append);
        once = search (rules, list_any-append, IsDistinct-push);
        number = length-append numbers (n ∷ []) ∙ rw (left_from-next first n lost, kept) (omega (arith, lists.number));
      }

  -- The next block is lost.
  pub left-gone : is_lost lost (first + n) ≡ true → ListsLeft first (n + 1) lost numbers
  left-gone gone = search (rules, left_from-next)

  -- A number of the list is that of a block that is left.
  pub left-at : (j d : ℕ) → j < length numbers
      → (get_or numbers j d < n) × (is_lost lost (first + get_or numbers j d) ≡ false)
  left-at j d inside =
      let i : ℕ = get_or numbers j d in
      let both = and_parts (nat_lt i n) (not (is_lost lost (first + i)))
      (sym (lists.each i) ∙ list_any_at (nat_eq i) numbers j d inside (eq-eqb i i refl)) in
      (ltb-true i n both.0, let no = both.1 in grind (arith, common_steps))

-- at most all blocks are left, and if all are left, none is lost
left_from-most : (from n : ℕ) (lost : List ℕ) → left_from from n lost ≤ n
left_from-most from zero lost = omega arith
left_from-most from (suc n) lost = let rest = left_from-most (from + 1) n lost in grind (arith, common_steps)

left_from-add : (from n m : ℕ) (lost : List ℕ)
    → left_from from (n + m) lost ≡ left_from from n lost + left_from (from + n) m lost
left_from-add from n zero lost =
    let same : n + 0 ≡ n = omega arith in
    ap (λ (x : ℕ). left_from from x lost) same
    ∙ (let a : ℕ = left_from from n lost in let sum : a ≡ a + 0 = omega arith in sum)
left_from-add from n (suc m) lost =
    let more : n + suc m ≡ n + m + 1 = omega arith in
    let one : m + 1 ≡ suc m = omega arith in
    let at : from + (n + m) ≡ from + n + m = omega arith in
    let front : ℕ = left_from from n lost in
    let back : ℕ = left_from (from + n) m lost in
    let last : ℕ = cond (is_lost lost (from + n + m)) 0 1 in
    ap (λ (x : ℕ). left_from from x lost) more ∙ left_from-next from (n + m) lost
    ∙ ap (λ (x : ℕ). x + cond (is_lost lost (from + (n + m))) 0 1) (left_from-add from n m lost)
    ∙ ap (λ (x : ℕ). front + back + cond (is_lost lost x) 0 1) at
    ∙ (let same : front + back + last ≡ front + (back + last) = omega arith in same)
    ∙ ap (λ (x : ℕ). front + x) (sym (left_from-next (from + n) m lost))
    ∙ ap (λ (x : ℕ). front + left_from (from + n) x lost) one

none_lost : (from n : ℕ) (lost : List ℕ) → n ≤ left_from from n lost → (i : ℕ) → i < n
    → is_lost lost (from + i) ≡ false
none_lost from zero lost full i inside = absurd (omega arith)
none_lost from (suc n) lost full i inside =
    let both = by_first (is_lost lost from) (left_from (from + 1) n lost) (left_from-most (from + 1) n lost) full in
    by_index i inside both.0 (λ j small. none_lost (from + 1) n lost both.1 j small)
  where
    by_first : (gone : Bool) (rest : ℕ) → rest ≤ n → suc n ≤ cond gone 0 1 + rest → (gone ≡ false) × (n ≤ rest)
    by_first true rest most full = absurd (omega arith)
    by_first false rest most full = (refl, omega arith)

    by_index : (j : ℕ) → j < suc n → is_lost lost from ≡ false
        → ((l : ℕ) → l < n → is_lost lost (from + 1 + l) ≡ false) → is_lost lost (from + j) ≡ false
    by_index zero small here rest = let at : from + 0 ≡ from = omega arith in rw at here
    by_index (suc j) small here rest =
        let at : from + 1 + j ≡ from + suc j = omega arith in
        rw at at (rest j (omega arith))

-- If no recovery block is left, and as many blocks as there are originals, no original is lost.
pub originals_left : (k r : ℕ) (lost : List ℕ) → k ≤ left_below (k + r) lost → left_from k r lost ≡ 0 → (i : ℕ)
    → i < k → is_lost lost i ≡ false
originals_left k r lost enough none i inside =
    let sum = left_from-add 0 k r lost in
    let at : 0 + k ≡ k = omega arith in
    let own : 0 + i ≡ i = omega arith in
    let all : k ≤ left_from 0 k lost = omega (arith, enough, none, rw at at sum) in
    rw own at (none_lost 0 k lost all i inside)

-- the blocks that are left are left originals and left recovery blocks
pub left-parts : (k r : ℕ) (lost : List ℕ) → left_below (k + r) lost ≡ left_below k lost + left_from k r lost
left-parts k r lost = let at : 0 + k ≡ k = omega arith in rw at at (left_from-add 0 k r lost)

-- ---- digests

-- the digest with index i, in the digests of some blocks
pub digest_of_block : (xs : List Shard) (rest : List ℕ) (i : ℕ) → i < length xs
    → between (32 * i) (32 * i + 32) (flat_map sha256 xs ++ rest) ≡ sha256 (shard_at xs i)
digest_of_block [] rest i inside = absurd (omega arith)
digest_of_block (x ∷ xs) rest zero inside =
    rw (append_assoc (sha256 x) (flat_map sha256 xs) rest)
    (take_at (sha256 x) (flat_map sha256 xs ++ rest) 32 (length-sha256 x))
digest_of_block (x ∷ xs) rest (suc i) inside =
    let front : drop (32 * suc i) ((sha256 x ++ flat_map sha256 xs) ++ rest)
    ≡ drop (32 * i) (flat_map sha256 xs ++ rest) = (
    let sum : 32 * suc i ≡ 32 + 32 * i = omega arith in
    rw (append_assoc (sha256 x) (flat_map sha256 xs) rest, sum)
    (sym (drop-drop (32 * i) 32 (sha256 x ++ (flat_map sha256 xs ++ rest)))
    ∙ ap (drop (32 * i)) (drop_at (sha256 x) (flat_map sha256 xs ++ rest) 32 (length-sha256 x)))
    ) in
    let long : 32 * suc i + 32 - 32 * suc i ≡ 32 * i + 32 - 32 * i = omega arith in
    ap (take (32 * suc i + 32 - 32 * suc i)) front
    ∙ ap (λ (n : ℕ). take n (drop (32 * i) (flat_map sha256 xs ++ rest))) long
    ∙ digest_of_block xs rest i (omega arith)

-- ---- strips

-- a strip of blocks of a valid size has a valid size
pub strip-valid : (k r size start end : ℕ) → start < end → IsStrip start end size
    → validation_outcome (default_of k r size) ≡ Ok tt → validation_outcome (default_of k r (end - start)) ≡ Ok tt
strip-valid k r size start end order strip valid =
    let c = default_of k r size in
    let even : size % 2 ≡ 0 = valid-even c valid in
    let piece : (end - start) % 2 ≡ 0 =
    elim strip.ends [
      | inl at ↦ omega (arith, at, strip.begins, strip.order)
      | inr at ↦ omega (arith, at, even, strip.begins, strip.order)
    ] in
    let some : end - start ≢ 0 = omega (arith, order) in
    rw (valid-supported c valid, ne_eqb (end - start) 0 some, piece) refl

-- ---- lists of blocks

-- a list whose blocks are those of another list is this list
pub same_blocks : (xs ys : List Shard) → ((i : ℕ) → i < length ys → blocks_in xs i ≡ Some (shard_at ys i))
    → ((i : ℕ) → length ys ≤ i → blocks_in xs i ≡ None) → xs ≡ ys
same_blocks [] [] own none = refl
same_blocks [] (y ∷ ys) own none = absurd (let first = own 0 (omega arith) in let no : ⊥ = cc in no)
same_blocks (x ∷ xs) [] own none = absurd (let first = none 0 (omega arith) in let no : ⊥ = cc in no)
same_blocks (x ∷ xs) (y ∷ ys) own none =
    let first : x ≡ y = cc (own 0 (omega arith)) in
    let rest : xs ≡ ys = same_blocks xs ys (λ i h. own (suc i) (omega arith)) (λ i h. none (suc i) (omega arith)) in
    rw (first, rest) refl

-- blocks without bytes
pub empty_in : (n i : ℕ) → i < n → blocks_in (replicate n []) i ≡ Some []
empty_in zero i inside = absurd (omega arith)
empty_in (suc n) zero inside = refl
empty_in (suc n) (suc i) inside = empty_in n i (omega arith)

none_in : (n i : ℕ) → n ≤ i → blocks_in (replicate n []) i ≡ None
none_in zero i past = refl
none_in (suc n) zero past = absurd (omega arith)
none_in (suc n) (suc i) past = none_in n i (omega arith)

-- the first k blocks are requested, and no others
wanted_in : (k i : ℕ) → i < k → get_or (replicate k true) i false ≡ true
wanted_in zero i inside = absurd (omega arith)
wanted_in (suc k) zero inside = refl
wanted_in (suc k) (suc i) inside = wanted_in k i (omega arith)

unwanted_in : (k i : ℕ) → k ≤ i → get_or (replicate k true) i false ≡ false
unwanted_in zero i past = refl
unwanted_in (suc k) zero past = absurd (omega arith)
unwanted_in (suc k) (suc i) past = unwanted_in k i (omega arith)

pub wanted_below : (k i : ℕ) → get_or (replicate k true) i false ≡ true → i < k
wanted_below k i is =
    elim (cases_lt i k) [
      | inl below ↦ below
      | inr past ↦ absurd (let other = unwanted_in k i past in let no : ⊥ = cc in no)
    ]

pub replicate_more : (n : ℕ) (x : Shard) → replicate (n + 1) x ≡ replicate n x ++ x ∷ []
replicate_more zero x = refl
replicate_more (suc n) x =
    let more : suc n + 1 ≡ suc (n + 1) = omega arith in
    ap (λ (m : ℕ). replicate m x) more ∙ ap (λ (xs : List Shard). x ∷ xs) (replicate_more n x)

-- one block of a list is set
pub in_other : (xs : List Shard) (index : ℕ) (x : Shard) (i : ℕ) → i ≢ index
    → blocks_in (set xs index x) i ≡ blocks_in xs i
in_other [] index x i other = refl
in_other (y ∷ ys) zero x zero other = absurd (other refl)
in_other (y ∷ ys) zero x (suc i) other = refl
in_other (y ∷ ys) (suc index) x zero other = refl
in_other (y ∷ ys) (suc index) x (suc i) other = in_other ys index x i (λ same. other (ap suc same))

pub in_own : (xs : List Shard) (index : ℕ) (x : Shard) → index < length xs → blocks_in (set xs index x) index ≡ Some x
in_own [] index x inside = absurd (omega arith)
in_own (y ∷ ys) zero x inside = refl
in_own (y ∷ ys) (suc index) x inside = in_own ys index x (omega arith)

pub block_other : (vs : List (Vec ℕ)) (index : ℕ) (v : Vec ℕ) (i : ℕ) → i ≢ index
    → shard_at (map (λ block. block.items) (set vs index v)) i ≡ shard_at (map (λ block. block.items) vs) i
block_other vs index v i other =
    ap (λ (xs : List Shard). shard_at xs i) (map-set (λ (b : Vec ℕ). b.items) vs index v) ∙ rw get_or-set_other refl

-- an index in a list is the index of a lost block
pub lost_item : (damage : List (ℕ × Vec ℕ)) {n : ℕ} {p : ℕ × Vec ℕ} → n < length damage → p ≡ get_or damage n p
    → is_lost (map (λ block. block.0) damage) p.0 ≡ true
lost_item damage {n = n} {p = p} inside is =
    let f : ℕ × Vec ℕ → ℕ = λ block. block.0 in
    let long = length-map damage f in
    let at : get_or (map f damage) n 0 ≡ p.0 =
    get_or-map f damage n p 0 inside ∙ ap f (sym is) in
    list_any_at (λ index. nat_eq index p.0) (map f damage) n 0 (omega (arith, inside, long))
    (eq-eqb (get_or (map f damage) n 0) p.0 at)

-- ---- a set of which enough blocks are left

-- blocks that are left are known
known_left : {first count : ℕ} {lost numbers : List ℕ} {blocks : List Shard} {known : Shards}
    → ListsLeft first count lost numbers → length blocks ≡ count
    → ((n : ℕ) → n < count → is_lost lost (first + n) ≡ false → known (first + n) ≡ Some (shard_at blocks n))
    → AreKnown known first blocks numbers
known_left lists long own =
    record {
      each = λ j d h.
          let at = left-at lists j d h in (omega (arith, at.0, long), own (get_or _ j d) at.0 at.1);
      once = lists.once;
    }

module _ {shape : Shape} (plan : Plan) {originals : List Shard} (stored damaged : List Shard) {lost digests : List ℕ}
    (enough : EnoughLeft shape originals lost)
    (created : IsCreated shape (blocks_in originals)
    (blocks_in (replicate (shape.original_count + shape.recovery_count) [])) (blocks_in stored) digests)
    (number : length damaged ≡ length stored)
    (unlost : (i : ℕ) → is_lost lost i ≡ false → shard_at damaged i ≡ shard_at stored i)
    (own_left : ListsLeft 0 shape.original_count lost plan.originals.items)
    (recovery_left : ListsLeft shape.original_count shape.recovery_count lost plan.recovery.items)
    (wanted : plan.wanted.items ≡ replicate shape.original_count true) where
  known : (i : ℕ) → i < shape.original_count + shape.recovery_count → is_lost lost i ≡ false
      → blocks_in damaged i ≡ Some (shard_at (created.originals ++ created.recovery) i)
  known i inside kept =
      let block : Shard = shard_at (created.originals ++ created.recovery) i in
      let here : blocks_in stored i ≡ Some block =
      created.written i inside (empty_in (shape.original_count + shape.recovery_count) i inside) in
      let within : i < length stored = slice_get_within stored i block here in
      slice_get-get_or damaged i [] (omega (arith, within, number))
      ∙ ap Some (unlost i kept ∙ get_or_from_slice_get stored i block [] here)

  -- The blocks that the plan reads are blocks of the set that was created.
  pub set_left : ReadsSet shape plan (blocks_in damaged) created.originals created.recovery
  set_left =
      let k : ℕ = shape.original_count in
      let originals_are : length created.originals ≡ k = created.shards.length_is in
      let recovery_are : length created.recovery ≡ shape.recovery_count = created.coded.shards.length_is in
      record {
        shards = created.shards;
        coded = created.coded;
        originals_known = known_left own_left originals_are (λ n lt kept.
            known (0 + n) (omega (arith, lt)) kept
            ∙ ap Some (get_or-append created.originals created.recovery [] (0 + n) (omega (arith, lt, originals_are))
            ∙ (let at : 0 + n ≡ n = omega arith in ap (shard_at created.originals) at)));
        recovery_known = known_left recovery_left recovery_are (λ n lt kept.
            known (k + n) (omega (arith, lt)) kept
            ∙ ap Some (let at : k + n - k ≡ n = omega arith in
            get_or-append_right created.originals created.recovery k (k + n) [] originals_are (omega arith)
            ∙ ap (shard_at created.recovery) at));
      }

  -- At least as many blocks are read as there are originals.
  pub enough_read : shape.original_count ≤ length plan.originals.items + length plan.recovery.items
  enough_read =
      omega (
        arith,
        enough.enough,
        left-parts shape.original_count shape.recovery_count lost,
        own_left.number,
        recovery_left.number,
      )

  -- Each original is read, or recovery blocks are read.
  covered : (i : ℕ) → i < shape.original_count
      → (list_any (nat_eq i) plan.originals.items ≡ true) ⊎ (0 < length plan.recovery.items)
  covered i inside =
      elim (cases_lt 0 (length plan.recovery.items)) [
        | inl some ↦ inr some
        | inr none ↦
            let kept : is_lost lost i ≡ false =
            originals_left shape.original_count shape.recovery_count lost enough.enough
            (omega (arith, none, recovery_left.number)) i inside in
            inl (own_left.each i ∙ grind (arith, common_steps))
      ]

  -- The set was created from the given originals.
  pub same_originals : created.originals ≡ originals
  same_originals =
      same_lists created.originals originals (created.shards.length_is ∙ sym enough.number)
      (λ i d h.
      let inside : i < shape.original_count = omega (arith, h, created.shards.length_is) in
      let has : i < length originals = omega (arith, inside, enough.number) in
      get_or_default created.originals i d [] h
      ∙ created.read i (shard_at originals i) inside (slice_get-get_or originals i [] has) (enough.sized i [] has)
      ∙ sym (get_or_default originals i d [] has))

  -- A block that is written has its digest.
  pub digest_left : (i : ℕ) → get_or plan.wanted.items i false ≡ true
      → HasDigest digests i (shard_at created.originals i)
  digest_left i is =
      let inside : i < shape.original_count =
      wanted_below shape.original_count i (rw wanted at is) in
      ap (λ (d : List ℕ). between (32 * i) (32 * i + 32) d) created.digests_are
      ∙ digest_of_block created.originals (flat_map sha256 created.recovery) i
      (omega (arith, inside, created.shards.length_is))

  module _ (back : List Shard)
      (written : AreOriginals plan created.originals (blocks_in (replicate shape.original_count []))
      (blocks_in back)) where
    -- A requested block is the original from which the set was created.
    pub block_back : (i : ℕ) → get_or plan.wanted.items i false ≡ true
        → blocks_in back i ≡ Some (shard_at created.originals i)
    block_back i is =
        let inside : i < shape.original_count = wanted_below shape.original_count i (rw wanted at is) in
        written.each i is (covered i inside) (empty_in shape.original_count i inside)

    -- The originals come back.
    pub blocks_back : ((i : ℕ) → get_or plan.wanted.items i false ≡ false
        → blocks_in back i ≡ blocks_in (replicate shape.original_count []) i) → back ≡ originals
    blocks_back others =
        same_blocks back created.originals
        (λ i h.
        let inside : i < shape.original_count = omega (arith, h, created.shards.length_is) in
        block_back i (rw wanted (wanted_in shape.original_count i inside)))
        (λ i h.
        let past : shape.original_count ≤ i = omega (arith, h, created.shards.length_is) in
        others i (rw wanted (unwanted_in shape.original_count i past))
        ∙ none_in shape.original_count i past)
        ∙ same_originals
