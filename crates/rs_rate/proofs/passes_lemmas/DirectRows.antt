-- What the passes of direct sums do to the rows of a decoder, which have n chunks each.
use Rattle.std.proofs.Common.{rules, ◌≡◌, ◌≢◌, ℕ, ◌+◌, ◌-◌, ◌*◌, ◌/◌, ◌%◌, ◌<◌, ◌≤◌, ◌⊎◌, List, Bool, true, false}
use Rattle.std.proofs.Common.{sym, ap}
use Rattle.std.proofs.Common.{◌++◌, [], ap₂, ◌∙◌, arith, bit_xor, get_or, inl, inr, refl, subst, length, true≢false}
use Rattle.std.specs.Prelude.{◌↔◌, slice_index, not}
use Rattle.std.specs.Int.Bits.{xor_zero_l}
use Rattle.std.proofs.lemmas.Bool.{cases_lt}
use Rattle.std.proofs.lemmas.List.{get_or_append_left, get_or-append_right, get_or_past}
use borrow.Rule.Slice.PartMut.{put_mid}
use Rattle.rs_field.specs.code.Column.{column}
use Rattle.rs_field.specs.code.Frame.{original_row}
use Rattle.rs_field.specs.declared.code.frame.Frame.{Frame}
use Rattle.rs_field.specs.rows.Layout.{row_len}
use Rattle.rs_field.specs.rows.MarkedRows.{is_marked}
use Rattle.rs_field.specs.rows.Rows.{Chunks, chunk, symbol, SameOutside, word_in}
use Rattle.rs_field.specs.declared.words.steps.Steps.{Steps}
use Rattle.rs_field.specs.words.StepBounds.{CountsUpTo}
use Rattle.rs_field.proofs.rows_lemmas.LayoutLemmas.{in_order-is}
use Rattle.rs_field.proofs.rows_lemmas.RowOffsets.{offset_apart, row_ends}
use Rattle.rs_field.proofs.words_lemmas.Counting.{counts_then}
use Rattle.rs_field.proofs.words_lemmas.DirectSum.{direct_sum-same}
use Rattle.rs_rate.specs.declared.passes.sums.SumBase.{SumBase}
use Rattle.rs_rate.specs.passes.BaseSum.{base_sum, AreFirstOf, word_beside}
use Rattle.rs_rate.specs.passes.Sums.{sum_word}
use Rattle.rs_rate.specs.rows.Marks.{how_many}
use Rattle.rs_rate.specs.rows.ShardRows.{row_chunk, shard_in_order}
use Rattle.rs_rate.specs.values.ChunkCounts.{chunk_count}
use Rattle.rs_rate.proofs.rows_lemmas.HowMany.{how_many-zero, how_many-next, how_many-passed}
use Rattle.rs_rate.proofs.rows_lemmas.ShardRowsLemmas.{row_end, column-put, part-inside, part-outside}

-- A row of a base is not a row outside of the base.
pub apart_from : (base : SumBase) {x y : ℕ} → is_marked base.marks.now x ≡ true → is_marked base.marks.now y ≡ false
    → x ≢ y
apart_from base is missing same = true≢false (sym is ∙ ap (is_marked base.marks.now) same ∙ missing)

-- A row that is not given is not in a base of given rows.
pub outside_base : {given : List Bool} {base : SumBase} (y : ℕ) → AreFirstOf given base → is_marked given y ≡ false
    → is_marked base.marks.now y ≡ false
outside_base {given} {base} y first none = search (rules, cases_lt, get_or_past)

-- If row y was written, the words of the other rows are as before.
pub word_apart : (old new : Chunks) (n y k s q : ℕ) → SameOutside (y * n) (y * n + n) old new → k < n → q ≢ y
    → word_in new n k s q ≡ word_in old n k s q
word_apart old new n y k s q others hk apart = ap (λ z. symbol z s) (others (q * n + k) (offset_apart y q k n hk apart))

-- If row y was cleared, it is its direct sum after the sum was added to it.
pub cleared_sum : (base : SumBase) (old part : Chunks) (n y start m k s : ℕ) → start ≡ y * n → m ≡ n
    → start + m ≤ length old → length part ≡ m → ((j : ℕ) → j < 32 * m → sum_word part j ≡ 0)
    → is_marked base.marks.now y ≡ false → k < n → s < 32
    → bit_xor (word_in (put_mid start m old part) n k s y) (base_sum base (word_in (put_mid start m old part) n k s) y)
    ≡ base_sum base (word_in old n k s) y
cleared_sum base old part n y start m k s at long fits same zeros outside hk hs =
    let mid : Chunks = put_mid start m old part in
    let chunk_is : (32 * k + s) / 32 ≡ k = omega (arith, hs) in
    let symbol_is : (32 * k + s) % 32 ≡ s = omega (arith, hs) in
    ap (λ w. bit_xor w (base_sum base (word_in mid n k s) y))
    (ap (λ i. symbol (chunk mid (i + k)) s) (sym at)
    ∙ ap (λ z. symbol z s) (part-inside old part start m k fits same (omega (arith, hk, long)))
    ∙ ap₂ (λ i t. symbol (chunk part i) t) (sym chunk_is) (sym symbol_is)
    ∙ zeros (32 * k + s) (omega (arith, long, hk, hs)))
    ∙ xor_zero_l (base_sum base (word_in mid n k s) y)
    ∙ direct_sum-same (length base.locator.now) (is_marked base.marks.now) (λ x. slice_index base.locator.now x)
    (word_in mid n k s) (word_in old n k s) y (λ x hx is.
    word_apart old mid n y k s x
    (λ i which. part-outside old part start m i fits same
    (elim which [ inl before ↦ inl (omega (arith, before, at)) | inr after ↦ inr (omega (arith, after, at, long)) ]))
    hk (apart_from base is outside))

-- ---- rows of n chunks as shards of whole chunks

-- A row for shards of n chunks has n chunks.
whole_row : (n : ℕ) → row_len (64 * n) ≡ n
whole_row n = omega arith

-- The number of chunks up to the end of row i.
pub row_end-whole : (n i : ℕ) → chunk_count (i + 1) (64 * n) ≡ i * n + n
row_end-whole n i = row_end i (64 * n) ∙ ap (λ m. i * m + m) (whole_row n)

-- Column j of the shard in row i is one symbol of the row.
pub column-whole : (chunks : Chunks) (n i j : ℕ) → j < 64 * n / 2
    → column j (shard_in_order chunks (64 * n) i) ≡ word_in chunks n (j / 32) (j % 32) i
column-whole chunks n i j inside =
    ap (column j) (in_order-is (64 * n) {new = row_chunk chunks (64 * n) i} {old = row_chunk chunks (64 * n) i}
    (omega arith)
    (λ k h. refl) (λ b h. refl) (λ b h. absurd (let no : ⊥ = omega (arith, h) in no)))
    ∙ column-put chunks (64 * n) i j (omega arith) inside
    ∙ ap (λ m. word_in chunks m (j / 32) (j % 32) i) (whole_row n)

-- The chunks after row y end where the rows end.
pub after_rows : (n y x : ℕ) → y < x → (x - (y + 1)) * n + (y * n + n) ≡ x * n
after_rows n y x less =
    (let e : (x - (y + 1)) * n + (y * n + n) ≡ (x - (y + 1) + (y + 1)) * n = omega arith in e)
    ∙ ap (λ i. i * n) (let e : x - (y + 1) + (y + 1) ≡ x = omega (arith, less) in e)

-- ---- the rows before row y, row y itself, and the rows after it

module _ (before after : Chunks) (n y : ℕ) (front : length before ≡ y * n) where
  -- The rows with these chunks in row y.
  abbrev pub with_row : Chunks → Chunks
  with_row row = before ++ (row ++ after)

  -- The chunks of row y.
  pub chunk-here : (row : Chunks) (k : ℕ) → length row ≡ n → k < n → chunk (with_row row) (y * n + k) ≡ chunk row k
  chunk-here row k long hk =
      get_or-append_right before (row ++ after) (y * n) (y * n + k) [] front (omega arith)
      ∙ ap (λ i. get_or (row ++ after) i []) (let e : y * n + k - y * n ≡ k = omega arith in e)
      ∙ get_or_append_left row after [] k (omega (arith, long, hk))

  -- The chunks before row y, and those after it.
  chunk-before : (row : Chunks) (i : ℕ) → i < y * n → chunk (with_row row) i ≡ chunk before i
  chunk-before row i less = get_or_append_left before (row ++ after) [] i (omega (arith, front, less))

  chunk-after : (row : Chunks) (i : ℕ) → length row ≡ n → chunk (with_row row) (y * n + n + i) ≡ chunk after i
  chunk-after row i long =
      get_or-append_right before (row ++ after) (y * n) (y * n + n + i) [] front (omega arith)
      ∙ ap (λ j. get_or (row ++ after) j []) (let e : y * n + n + i - y * n ≡ n + i = omega arith in e)
      ∙ get_or-append_right row after n (n + i) [] long (omega arith)
      ∙ ap (λ j. get_or after j []) (let e : n + i - n ≡ i = omega arith in e)

  -- The words of the other rows.
  word-beside : (was : Chunks) (k s p : ℕ) → length was ≡ n → k < n → p ≢ y
      → word_beside before after y n k s p ≡ word_in (with_row was) n k s p
  unfolding word_beside
  word-beside was k s p long hk apart = elim (cases_lt p y) [
    | inl less ↦
        (let e : word_beside before after y n k s p ≡ word_in before n k s p = search rules in e)
        ∙ ap (λ z. symbol z s) (sym (chunk-before was (p * n + k)
        (let ends = row_ends p y n less in omega (arith, ends, hk))))
    | inr past ↦
        let more : y < p = omega (arith, past, apart) in
        let at : y * n + n + ((p - (y + 1)) * n + k) ≡ p * n + k = omega (arith, after_rows n y p more) in
        (let e : word_beside before after y n k s p ≡ word_in after n k s (p - (y + 1)) = search rules in e)
        ∙ ap (λ z. symbol z s) (sym (chunk-after was ((p - (y + 1)) * n + k) long)
        ∙ ap (chunk (with_row was)) at)
  ]

  module _ (old new was row : Chunks) (own : old ≡ with_row was) (other : new ≡ with_row row) (long : length was ≡ n)
      (same : length row ≡ n) where
    -- If row y was written, the chunks outside of it are as before.
    pub others-same : SameOutside (y * n) (y * n + n) old new
    others-same k which =
        ap (λ (l : Chunks). chunk l k) other ∙ left which ∙ ap (λ (l : Chunks). chunk l k) (sym own)
      where
        left : (k < y * n) ⊎ (y * n + n ≤ k) → chunk (with_row row) k ≡ chunk (with_row was) k
        left (inl less) = chunk-before row k less ∙ sym (chunk-before was k less)
        left (inr past) =
            let at : y * n + n + (k - (y * n + n)) ≡ k = omega (arith, past) in
            ap (chunk (with_row row)) (sym at)
            ∙ chunk-after row (k - (y * n + n)) same
            ∙ sym (chunk-after was (k - (y * n + n)) long)
            ∙ ap (chunk (with_row was)) at

    -- If the direct sum over the other rows was added to row y, it was added to each of its words.
    pub sum-added : (base : SumBase) → is_marked base.marks.now y ≡ false
        → ((j : ℕ) → j < 64 * n / 2 → sum_word row j ≡ bit_xor (sum_word was j)
        (base_sum base (λ p. word_beside before after y n (j / 32) (j % 32) p) y))
        → (k s : ℕ) → k < n → s < 32
        → word_in new n k s y ≡ bit_xor (word_in old n k s y) (base_sum base (word_in old n k s) y)
    sum-added base outside added k s hk hs =
        let chunk_is : (32 * k + s) / 32 ≡ k = omega (arith, hs) in
        let symbol_is : (32 * k + s) % 32 ≡ s = omega (arith, hs) in
        ap (λ (l : Chunks). word_in l n k s y) other
        ∙ ap (λ z. symbol z s) (chunk-here row k same hk)
        ∙ ap₂ (λ i t. symbol (chunk row i) t) (sym chunk_is) (sym symbol_is)
        ∙ added (32 * k + s) (omega (arith, hk, hs))
        ∙ ap₂ bit_xor
        (ap₂ (λ i t. symbol (chunk was i) t) chunk_is symbol_is
        ∙ ap (λ z. symbol z s) (sym (chunk-here was k long hk))
        ∙ ap (λ (l : Chunks). word_in l n k s y) (sym own))
        (ap₂ (λ i t. base_sum base (λ p. word_beside before after y n i t p) y) chunk_is symbol_is
        ∙ direct_sum-same (length base.locator.now) (is_marked base.marks.now) (λ x. slice_index base.locator.now x)
        (λ p. word_beside before after y n k s p) (word_in old n k s) y (λ x hx is.
        word-beside was k s x long hk (apart_from base is outside) ∙ ap (λ (l : Chunks). word_in l n k s x) (sym own)))

-- ---- the rows that a pass writes

module _ (base : SumBase) (n : ℕ) where
  -- Of the rows below m, this many were written, each in the steps of one sum. No row of the base was written.
  pub record RowsPassed (m many : ℕ) (old new : Chunks) (before after : Steps) : Type 0 where
    pub left : (k s q : ℕ) → k < n → (is_marked base.marks.now q ≡ true) ⊎ (m ≤ q)
        → word_in new n k s q ≡ word_in old n k s q
    pub counts : CountsUpTo (many * (1 + 3 * length base.rows.now)) 0 0 before after

  -- Before the first row, nothing was written.
  pub none_passed : (m : ℕ) (rows : Chunks) (steps : Steps) → RowsPassed m 0 rows rows steps steps
  none_passed m rows steps = search rules

  module _ {m many : ℕ} {old mid : Chunks} {a b : Steps} (before : RowsPassed m many old mid a b) where
    -- A row was not written.
    pub one_more_left : RowsPassed (m + 1) many old mid a b
    one_more_left = search rules

    -- A row was written.
    pub one_more_written : {new : Chunks} {c : Steps} → is_marked base.marks.now m ≡ false
        → SameOutside (m * n) (m * n + n) mid new → CountsUpTo (1 + 3 * length base.rows.now) 0 0 b c
        → RowsPassed (m + 1) (many + 1) old new a c
    one_more_written {new} {c} outside others counts = record {
      left = λ k s q hk which.
          word_apart mid new n m k s q others hk
          (elim which [ inl is ↦ apart_from base is outside | inr past ↦ λ same. omega (arith, past, same) ])
          ∙ before.left k s q hk (elim which [ inl is ↦ inl is | inr past ↦ inr (omega arith) ]);
      counts = subst (λ (k : ℕ). CountsUpTo k 0 0 a c)
          (let e : many * (1 + 3 * length base.rows.now) + (1 + 3 * length base.rows.now)
          ≡ (many + 1) * (1 + 3 * length base.rows.now) = omega arith in e) (counts_then before.counts counts);
    }

    -- The direct sums are those over the rows before.
    pub sum_left : (k s y : ℕ) → k < n
        → base_sum base (word_in mid n k s) y ≡ base_sum base (word_in old n k s) y
    sum_left k s y hk =
        direct_sum-same (length base.locator.now) (is_marked base.marks.now) (λ x. slice_index base.locator.now x)
        (word_in mid n k s) (word_in old n k s) y (λ x hx is. before.left k s x hk (inl is))

  module _ (given : List Bool) (size : ℕ) where
    -- In each column of shards of this size, row p is equal to its direct sum over the base.
    abbrev pub IsEqualToSum : Chunks → ℕ → Type 0
    IsEqualToSum rows p =
        (j : ℕ) → j < size / 2
        → word_in rows n (j / 32) (j % 32) p ≡ base_sum base (word_in rows n (j / 32) (j % 32)) p

    -- The given rows below m that are outside the base were tested, and were equal to their sums.
    pub record RowsTested (m : ℕ) (old new : Chunks) (before after : Steps) : Type 0 where
      pub many : ℕ
      pub counted : length base.rows.now + many ≡ how_many m (is_marked given)
      pub passed : RowsPassed m many old new before after
      pub equal : (p j : ℕ) → p < m → is_marked given p ≡ true → is_marked base.marks.now p ≡ false → j < size / 2
          → word_in old n (j / 32) (j % 32) p ≡ base_sum base (word_in old n (j / 32) (j % 32)) p

    module _ {m : ℕ} {old mid : Chunks} {a b : Steps} (before : RowsTested m old mid a b) where
      -- The next row is equal to its sum exactly if it was before the pass.
      pub equal_left : n ≡ row_len size → IsEqualToSum mid m ↔ IsEqualToSum old m
      equal_left len = (
        λ equal j hj. sym (own j hj) ∙ equal j hj ∙ sum_left before.passed (j / 32) (j % 32) m (omega (arith, len, hj)),
        λ equal j hj.
            own j hj ∙ equal j hj ∙ sym (sum_left before.passed (j / 32) (j % 32) m (omega (arith, len, hj))),
      )
        where
          own : (j : ℕ) → j < size / 2 → word_in mid n (j / 32) (j % 32) m ≡ word_in old n (j / 32) (j % 32) m
          own j hj = before.passed.left (j / 32) (j % 32) m (omega (arith, len, hj)) (inr (omega arith))

      one_more_equal : (is_marked given m ≡ true → IsEqualToSum old m) → (p j : ℕ) → p < m + 1
          → is_marked given p ≡ true → is_marked base.marks.now p ≡ false → j < size / 2
          → word_in old n (j / 32) (j % 32) p ≡ base_sum base (word_in old n (j / 32) (j % 32)) p
      one_more_equal last p j hp is not hj = search (rules, cases_lt)

      -- One more row is not given.
      pub one_more_passed : is_marked given m ≡ false → RowsTested (m + 1) old mid a b
      one_more_passed none = search (rules, how_many-passed, one_more_left, cases_lt, true≢false)

      -- One more row was tested, and was equal to its sum.
      pub one_more_tested : {new : Chunks} {c : Steps} → is_marked given m ≡ true → IsEqualToSum old m
          → RowsPassed (m + 1) (before.many + 1) old new a c → RowsTested (m + 1) old new a c
      one_more_tested is equal passed = search (rules, how_many-next, cases_lt)

  module _ (given : List Bool) (frame : Frame) where
    -- The rows of the missing originals below m were set to their direct sums.
    pub record RowsSummed (m : ℕ) (old new : Chunks) (before after : Steps) : Type 0 where
      pub row : ℕ
      pub many : ℕ
      pub here : row ≡ original_row frame m
      pub counted : many ≡ how_many m (λ i. not (is_marked given (original_row frame i)))
      pub passed : RowsPassed row many old new before after
      pub summed : (k s i : ℕ) → k < n → s < 32 → i < m → is_marked given (original_row frame i) ≡ false
          → word_in new n k s (original_row frame i) ≡ base_sum base (word_in old n k s) (original_row frame i)

    -- Before the first original, nothing was set.
    pub none_summed : (rows : Chunks) (steps : Steps) → RowsSummed 0 rows rows steps steps
    none_summed rows steps = search (rules, how_many-zero, none_passed)

    module _ {m y : ℕ} {old mid : Chunks} {a b : Steps} (at : y ≡ original_row frame m)
        (before : RowsSummed m old mid a b) where
      -- Original m was given.
      pub one_more_kept : is_marked given y ≡ true → RowsSummed (m + 1) old mid a b
      one_more_kept is = search (rules, how_many-passed, one_more_left, cases_lt, true≢false)

      -- The row of original m was set to its direct sum.
      pub one_more_summed : {new : Chunks} {c : Steps} → is_marked given y ≡ false
          → is_marked base.marks.now y ≡ false → SameOutside (y * n) (y * n + n) mid new
          → ((k s : ℕ) → k < n → s < 32 → word_in new n k s y ≡ base_sum base (word_in mid n k s) y)
          → CountsUpTo (1 + 3 * length base.rows.now) 0 0 b c → RowsSummed (m + 1) old new a c
      one_more_summed {new} none outside others sums counts =
          let passed = subst (λ (x : ℕ). RowsPassed x before.many old mid a b)
          (let e : before.row ≡ y = omega (arith, before.here) in e) before.passed in
          record {
            row = y + 1;
            many = before.many + 1;
            here = omega arith;
            counted = omega (
              arith,
              before.counted,
              how_many-next m (λ i. not (is_marked given (original_row frame i)))
                  (ap (λ x. not (is_marked given x)) (sym at) ∙ ap not none),
            );
            passed = one_more_written passed outside others counts;
            summed = λ k s i hk hs hi missing. elim (cases_lt i m) [
              | inl less ↦
                  word_apart mid new n y k s (original_row frame i) others hk (λ same. omega (arith, at, less, same))
                  ∙ before.summed k s i hk hs less missing
              | inr past ↦
                  let same : y ≡ original_row frame i = omega arith in
                  subst (λ (x : ℕ). word_in new n k s x ≡ base_sum base (word_in old n k s) x) same
                  (sums k s hk hs ∙ sum_left passed k s y hk)
            ];
          }
