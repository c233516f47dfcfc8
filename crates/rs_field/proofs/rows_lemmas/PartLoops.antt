-- Loops over the parts of a block. Each pass transforms one part. The lemmas state the effect on the rows and on the
-- counts.
use Rattle.std.proofs.Common.{◌≡◌, ℕ, ◌+◌, ◌*◌, ◌/◌, ◌%◌, ◌^◌, ◌<◌, ◌≤◌, ◌⊎◌, Bool, false, replicate, refl, sym, ap}
use Rattle.std.proofs.Common.{◌∙◌, inl, inr, arith, subst, mod-lt}
use Rattle.std.proofs.Math.Nat.{mul-le-mul_right}
use Rattle.std.proofs.lemmas.Bool.{cases_eq, cases_lt, true≢false}
use Rattle.std.proofs.lemmas.Nat.{div-add-mod'}
use Rattle.std.proofs.lemmas.Grind.{common_steps}
use Rattle.rs_field.specs.words.Transform.{forward}
use Rattle.rs_field.specs.words.StepBounds.{CountsRows, CountsUpTo, TransformCounts, transform_steps}
use Rattle.rs_field.specs.rows.Layers.{ArePartsOf, is_halved, rows_of_part, layer_steps}
use Rattle.rs_field.specs.rows.View.{cell, word, SameExtent, SameRowsOutside}
use Rattle.rs_field.specs.rows.MarkedRows.{is_used}
use Rattle.rs_field.specs.rows.Directions.{AreTransformed, AreRowsTransformed, ChangesBlock, UnusedAreZeroBackward}
use Rattle.rs_field.specs.rows.Directions.{PartCounts}
use Rattle.rs_field.specs.declared.rows.layers.Direction.{Direction}
use Rattle.rs_field.specs.declared.rows.block.Block.{Block}
use Rattle.rs_field.specs.declared.rows.marked_rows.UsedRows.{UsedRows}
use Rattle.rs_field.specs.declared.rows.shards.ShardsRefMut.{ShardsRefMut}
use Rattle.rs_field.specs.declared.words.steps.Steps.{Steps}
use Rattle.rs_field.proofs.words_lemmas.Combination.{forward-one, forward-same}
use Rattle.rs_field.proofs.words_lemmas.Counting.{counts_rows, counts_then, counts_within}
use Rattle.rs_field.proofs.words_lemmas.Halves.{quarter_power}
use Rattle.rs_field.proofs.rows_lemmas.Parts.{IsPart, part_found, part_within}
use Rattle.rs_field.proofs.rows_lemmas.Recursion.{one_row, word_same, zero_rows}
use Rattle.rs_field.proofs.rows_lemmas.RowOffsets.{outside_both, outside_cell, extent_then}

-- Equal words have equal transforms.
transformed_same : (direction : Direction) {used used' : ℕ → Bool} {n : ℕ} (shift : ℕ) {f g f' g' : ℕ → ℕ}
    → ((q : ℕ) → q < n → f' q ≡ f q) → ((q : ℕ) → q < n → g' q ≡ g q) → ((q : ℕ) → q < n → used q ≡ used' q)
    → AreTransformed direction used n shift f g → AreTransformed direction used' n shift f' g'
transformed_same Direction.Forward {n = n} shift {f = f} {f' = f'} old new same are =
    λ i hi is. new i hi ∙ are i hi (same i hi ∙ is) ∙ sym (forward-same n shift f' f i old)
transformed_same Direction.Backward {n = n} shift {g = g} {g' = g'} old new same are = λ i hi.
    old i hi ∙ are i hi ∙ sym (forward-same n shift g' g i new)

-- ---- the loop

-- Word q of part m of a block, in chunk k and with index s.
abbrev part_word : Block → ℕ → ShardsRefMut → ℕ → ℕ → ℕ → ℕ → ℕ
part_word block n rows k s m q = word rows k s (block.pos + (m * n + q))

-- The parts before part j are transformed, and the rows from part j on are unchanged.
pub record PartsDone (direction : Direction) (used : ℕ → Bool) (block : Block) (n j : ℕ)
    (old new : ShardsRefMut) : Type 0 where
  pub rows : ChangesBlock block old new
  pub values : (k s m : ℕ) → k < old.shard_len_64 → s < 32 → m < j
      → AreTransformed direction (λ i. used (m * n + i)) n (block.skew_delta + m * n) (part_word block n old k s m)
      (part_word block n new k s m)
  pub rest : (k i : ℕ) → k < old.shard_len_64 → j * n ≤ i → i < block.size
      → cell new k (block.pos + i) ≡ cell old k (block.pos + i)

-- At first no part is done.
pub parts_begun : {direction : Direction} {used : ℕ → Bool} {block : Block} {n : ℕ} {rows : ShardsRefMut}
    → PartsDone direction used block n 0 rows rows
parts_begun = grind (arith, common_steps)

module _ {direction : Direction} {used : ℕ → Bool} {block : Block} {n j : ℕ} {old mid : ShardsRefMut}
    (p : IsPart block.size n) (begins : j * n < block.size) (done : PartsDone direction used block n j old mid) where
  inside : j * n + n ≤ block.size
  inside = part_within j p begins

  -- If the next part is transformed and no other row is changed, one more part is done.
  pub parts_next : {used' : ℕ → Bool} {new : ShardsRefMut} → SameExtent mid new
      → SameRowsOutside (block.pos + j * n) (block.pos + j * n + n) mid new
      → ((i : ℕ) → i < n → used' i ≡ used (j * n + i))
      → ((k s : ℕ) → k < mid.shard_len_64 → s < 32
      → AreTransformed direction used' n (block.skew_delta + j * n) (λ q. word mid k s (block.pos + j * n + q))
      (λ q. word new k s (block.pos + j * n + q)))
      → PartsDone direction used block n (j + 1) old new
  parts_next {new = new} extent others same step = record {
    rows = record {
      extent = extent_then done.rows.extent extent;
      others =
          outside_both pos (pos + block.size) (pos + j * n) (pos + j * n + n) pos (pos + block.size) old mid new
          done.rows.extent done.rows.others others (omega arith) (omega arith) (omega arith) (omega (arith, inside));
    };
    values = λ k s m hk hs hm. elim (cases_lt m j) [
      | inl before ↦
          let next : m + 1 ≤ j = omega arith in
          let le : (m + 1) * n ≤ j * n = mul-le-mul_right n next in
          transformed_same direction (block.skew_delta + m * n) (λ q hq. refl)
          (λ q hq. word_same new mid k s (pos + (m * n + q)) (pos + (m * n + q))
          (unchanged (pos + (m * n + q)) k hk (inl (omega arith))))
          (λ q hq. refl) (done.values k s m hk hs before)
      | inr after ↦
          let last : j ≡ m = omega arith in
          subst (λ (v : ℕ). AreTransformed direction (λ i. used (v * n + i)) n (block.skew_delta + v * n)
          (part_word block n old k s v) (part_word block n new k s v)) last
          (transformed_same direction (block.skew_delta + j * n)
          (λ q hq.
          sym (word_same mid old k s (pos + (j * n + q)) (pos + (j * n + q))
          (done.rest k (j * n + q) hk (omega arith) (omega (arith, inside))))
          ∙ there mid k s q)
          (λ q hq. there new k s q) same (step k s (omega (arith, len)) hs))
    ];
    rest = λ k i hk from to. unchanged (pos + i) k hk (inr (omega arith)) ∙ done.rest k i hk (omega arith) to;
  }
    where
      pos : ℕ
      pos = block.pos

      len : mid.shard_len_64 ≡ old.shard_len_64
      len = done.rows.extent.len_64

      there : (rows : ShardsRefMut) (k s q : ℕ) → word rows k s (pos + (j * n + q)) ≡ word rows k s (pos + j * n + q)
      there rows k s q = ap (word rows k s) (let e : pos + (j * n + q) ≡ pos + j * n + q = omega arith in e)

      unchanged : (r k : ℕ) → k < old.shard_len_64 → (r < pos + j * n) ⊎ (pos + j * n + n ≤ r)
          → cell new k r ≡ cell mid k r
      unchanged r k hk h = outside_cell extent others r k (omega (arith, len)) h

-- The rows of a part that is not done are unchanged, so its unused rows are zero.
pub zeros_of_part : (direction : Direction) (used part : UsedRows) {block : Block} {n j : ℕ} {old mid : ShardsRefMut}
    → IsPart block.size n → j * n < block.size → PartsDone direction (is_used used) block n j old mid
    → ((i : ℕ) → i < n → is_used part i ≡ is_used used (j * n + i))
    → UnusedAreZeroBackward direction used block.pos block.size old
    → UnusedAreZeroBackward direction part (block.pos + j * n) n mid
zeros_of_part Direction.Forward used part p begins done same zeros = omega arith
zeros_of_part Direction.Backward used part {block} {n} {j} {old} {mid} p begins done same zeros = λ i k hk hi unused.
    let hk' : k < old.shard_len_64 = omega (arith, done.rows.extent.len_64) in
    let fits : j * n + i < block.size = omega (arith, part_within j p begins) in
    let at : block.pos + (j * n + i) ≡ block.pos + j * n + i = omega arith in
    subst (λ r. cell mid k r ≡ replicate 64 0) at
    (done.rest k (j * n + i) hk' (omega arith) fits ∙ zeros (j * n + i) k hk' fits (sym (same i hi) ∙ unused))

-- A part that begins inside the block is one of the parts of the block.
pub part_before : (size n m j : ℕ) → j * n ≡ size → m * n < size → m < j
part_before size n m j all within = grind (arith, common_steps)

-- ---- the parts that the layers leave

-- If the layers leave parts of the whole, transforms of the parts are the transform of the whole.
joined : {size n : ℕ} (shift i : ℕ) (values parts whole : ℕ → ℕ) → IsPart size n
    → ArePartsOf size n shift whole parts
    → i < size
    → ((m r : ℕ) → m * n < size → r < n → m * n + r ≡ i
    → values (m * n + r) ≡ forward n (shift + m * n) (λ q. parts (m * n + q)) r)
    → values i ≡ forward size shift whole i
joined {size} {n} shift i values parts whole p layers hi done =
    let m : ℕ = i / n in
    let r : ℕ = i % n in
    let low : r < n = mod-lt i p.positive in
    let back : m * n + r ≡ i = div-add-mod' i n in
    let within : m * n < size = omega arith in
    ap values (sym back) ∙ done m r within low back ∙ layers m r within low ∙ ap (forward size shift whole) back

module _ {size n : ℕ} (shift : ℕ) (used : ℕ → Bool) (old mid new : ℕ → ℕ) (p : IsPart size n) where
  pub forward_whole : ArePartsOf size n shift old mid
      → ((m : ℕ) → m * n < size
      → AreTransformed Direction.Forward (λ i. used (m * n + i)) n (shift + m * n) (λ q. mid (m * n + q))
      (λ q. new (m * n + q)))
      → AreTransformed Direction.Forward used size shift old new
  forward_whole layers done =
      λ i hi is. joined shift i new mid old p layers hi (λ m r hm hr e. done m hm r hr (ap used e ∙ is))

  pub backward_whole : ArePartsOf size n shift new mid
      → ((m : ℕ) → m * n < size
      → AreTransformed Direction.Backward (λ i. used (m * n + i)) n (shift + m * n) (λ q. old (m * n + q))
      (λ q. mid (m * n + q)))
      → AreTransformed Direction.Backward used size shift old new
  backward_whole layers done = λ i hi. joined shift i old mid new p layers hi (λ m r hm hr e. done m hm r hr)

-- ---- blocks with nothing to do

-- If no row is used, the block is already transformed.
pub none_used : (direction : Direction) (used : UsedRows) (block : Block) (rows : ShardsRefMut)
    → ((i : ℕ) → is_used used i ≡ false) → UnusedAreZeroBackward direction used block.pos block.size rows
    → AreRowsTransformed direction (is_used used) block rows rows
none_used Direction.Forward used block rows none zeros k s hk hs = λ i hi is. absurd (true≢false (sym is ∙ none i))
none_used Direction.Backward used block rows none zeros k s hk hs = λ i hi.
    zero_rows rows k s block.pos block.size block.skew_delta i hs hi (λ q hq. zeros q k hk hq (none q))

-- If a block has at most one row, the block is already transformed.
pub one_used : (direction : Direction) (used : ℕ → Bool) (size shift : ℕ) (f : ℕ → ℕ) → size < 2
    → (0 < size → f 0 < 65536)
    → AreTransformed direction used size shift f f
one_used Direction.Forward used size shift f few words = λ i hi is.
    one_row size shift i f (omega arith) hi (words (omega arith))
one_used Direction.Backward used size shift f few words = λ i hi.
    one_row size shift i f (omega arith) hi (words (omega arith))

-- ---- blocks whose parts are single rows

pub one_row_of_part : (size : ℕ) → 1 < size → size ≤ 4 → (d : ℕ) × (size ≡ 2 ^ d) → rows_of_part size ≡ 1
unfolding rows_of_part is_halved
one_row_of_part size large few power =
    elim (cases_eq size 2) [
      | inl two ↦ ap rows_of_part two ∙ (let r : rows_of_part 2 ≡ 1 = refl in r)
      | inr more ↦
          let q = quarter_power size (omega arith) power in
          let whole = q.3 in
          let four : size ≡ 4 = omega (arith, whole) in
          ap rows_of_part four ∙ (let r : rows_of_part 4 ≡ 1 = refl in r)
    ]

-- If the layers leave single rows, they make the whole transform.
pub single_rows : (size shift i : ℕ) (f g : ℕ → ℕ) → 1 < size → size ≤ 4 → (d : ℕ) × (size ≡ 2 ^ d)
    → ArePartsOf size (rows_of_part size) shift f g
    → i < size → g i < 65536 → g i ≡ forward size shift f i
single_rows size shift i f g large few power parts hi word =
    let here : i * 1 + 0 ≡ i = omega arith in
    let ones = subst (λ (n : ℕ). ArePartsOf size n shift f g) (one_row_of_part size large few power) parts in
    let part = ones i 0 (omega arith) (omega arith) in
    let small : g (i * 1 + 0) < 65536 = subst (λ (n : ℕ). g n < 65536) (sym here) word in
    ap g (sym here) ∙ sym (forward-one (shift + i * 1) (λ q. g (i * 1 + q)) 0 small) ∙ part
    ∙ ap (forward size shift f) here

-- ---- counts

-- The row steps of the layers are within the bound of the whole transform.
pub counts_of_layers : (block : Block) {from to : Steps} → 1 < block.size → CountsRows (layer_steps block.size) from to
    → TransformCounts block.size from to
counts_of_layers block {from} {to} large c =
    let size = block.size in
    let whole = (part_found block refl large).steps in
    counts_within (omega arith) (counts_rows c)

-- Transforming one more part adds the bound of one part.
pub counts_next : {t : ℕ} (j : ℕ) {from mid to : Steps} → CountsUpTo (j * t) 0 0 from mid → CountsUpTo t 0 0 mid to
    → CountsUpTo ((j + 1) * t) 0 0 from to
counts_next {t} j {from} {mid} {to} p q =
    counts_within (omega arith) (counts_then p q)

-- The row steps of some parts are within the bound of all parts.
pub counts_of_parts : {size n j : ℕ} {from to : Steps} (p : IsPart size n) → j ≤ p.count
    → CountsUpTo (j * transform_steps n) 0 0 from to
    → PartCounts size from to
counts_of_parts p few c = grind (arith, common_steps)

-- The row steps of the layers and of the parts together are within the bound of the whole transform.
pub counts_of_whole : (size : ℕ) {a b : ℕ} {from mid : Steps} (to : Steps) → a + b ≤ transform_steps size
    → CountsUpTo a 0 0 from mid → CountsUpTo b 0 0 mid to
    → TransformCounts size from to
counts_of_whole size {a} {b} {from} {mid} to few p q =
    counts_within few (counts_then p q)
