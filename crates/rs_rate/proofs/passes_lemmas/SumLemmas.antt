-- Direct sums over a base: the list of its rows, the factors, and the words of a sum.
use Rattle.std.proofs.Common.{rules, ◌≡◌, ℕ, ◌+◌, ◌-◌, ◌*◌, ◌/◌, ◌%◌, ◌<◌, ◌≤◌, Bool, true, false, cond, List, [], ◌∷◌}
use Rattle.std.proofs.Common.{◌++◌, take, drop, length, bit_xor, sym, ap, ap₂, ◌∙◌, arith, inl, inr, add-one}
use Rattle.std.proofs.Common.{get_or, subst}
use Rattle.std.proofs.lemmas.Nat.{xor_lt}
use Rattle.std.specs.Prelude.{slice_index}
use Rattle.std.specs.Int.Bits.{xor_zero_r}
use Rattle.std.proofs.Math.Nat.{mod-eq_of_lt}
use Rattle.std.proofs.Math.Seq.{get_or-append_seam, take-append_seam}
use Rattle.std.proofs.lemmas.Bool.{cases_lt}
use Rattle.std.proofs.lemmas.List.{get_or_append_left, length-append}
use Rattle.std.proofs.lemmas.List.{get_or-take, get_or_past, length-take}
use Rattle.rs_field.specs.code.DirectLaws.{locator_at}
use Rattle.rs_field.specs.code.Frame.{row_count}
use Rattle.rs_field.specs.code.Given.{Shards}
use Rattle.rs_field.specs.declared.code.frame.Frame.{Frame}
use Rattle.rs_field.specs.rows.AddedRows.{row_sum}
use Rattle.rs_field.specs.rows.Layout.{row_len}
use Rattle.rs_field.specs.code.Column.{Shard, column}
use Rattle.rs_field.specs.rows.MarkedRows.{is_marked}
use Rattle.rs_field.specs.rows.Rows.{Chunks, chunk, symbol, word_in}
use Rattle.rs_field.specs.words.DirectSum.{direct_factor, direct_sum}
use Rattle.rs_field.specs.words.Field.{product, power, log}
use Rattle.rs_field.specs.words.Tables.{times_factor}
use Rattle.rs_field.specs.words.Transform.{sum_below}
use Rattle.rs_field.proofs.words_lemmas.Power.{log_lt}
use Rattle.rs_field.proofs.words_lemmas.Combination.{sum_below-suc, sum_below-same, sum_below-zero, sum_below-add}
use Rattle.rs_rate.specs.declared.passes.sums.SumBase.{SumBase}
use Rattle.rs_rate.specs.passes.BaseSum.{base_sum}
use Rattle.rs_rate.specs.passes.Decoding.{IsLocatorOf}
use Rattle.rs_rate.specs.rows.Marks.{how_many}
use Rattle.rs_rate.proofs.rows_lemmas.HowMany.{how_many-zero, how_many-one, how_many-gap, how_many-same}
use Rattle.rs_rate.proofs.passes_lemmas.Erased.{locator-given}
use Rattle.rs_rate.specs.values.ChunkCounts.{chunk_count}
use Rattle.rs_rate.specs.rows.ShardRows.{shard_laid_out}
use Rattle.rs_rate.specs.passes.Sums.{AreMarksOf, ListsMarked, MakeFactors, sum_word}
use Rattle.rs_rate.proofs.rows_lemmas.ShardRowsLemmas.{column-put}

-- One row has the chunks of a shard.
pub one_row : (size chunks : ℕ) → chunks ≡ row_len size → chunk_count 1 size ≤ chunks
unfolding chunk_count
one_row size chunks is = omega arith

-- Word j of the first of some sums, which have n chunks each.
pub first-sum : (chunks : Chunks) (n j : ℕ) → word_in chunks n (j / 32) (j % 32) 0 ≡ sum_word chunks j
first-sum chunks n j =
    ap (λ i. symbol (chunk chunks i) (j % 32)) (let e : 0 * n + j / 32 ≡ j / 32 = omega arith in e)

-- Column j of a shard that was laid out in chunks is word j of the sum in these chunks.
pub column-sum : (chunks : Chunks) (size j : ℕ) → size % 2 ≡ 0 → j < size / 2
    → column j (shard_laid_out chunks size 0) ≡ sum_word chunks j
column-sum chunks size j even inside = search (rules, column-put)

-- A slice that was lent by a vector is its list of elements afterwards, if it has as many elements.
pub written-back : {X : Type 0} (xs ys : List X) (n : ℕ) → length xs ≡ n → length ys ≡ n
    → take n (xs ++ drop (length xs) ys) ≡ xs
written-back xs ys n own other =
    ap (λ m. take m (xs ++ drop (length xs) ys)) (sym own) ∙ take-append_seam xs (drop (length xs) ys)

-- A logarithm below 65535 is that of its factor.
pub times_known : (l w : ℕ) → l < 65535 → times_factor l w ≡ product w (power l)
times_known l w small = search rules

-- ---- the list of marked rows

-- The term of a row: its value if it is marked.
term : List Bool → (ℕ → ℕ) → ℕ → ℕ
term marks f x = cond (is_marked marks x) (f x) 0

term-at : (marks : List Bool) (f : ℕ → ℕ) (x : ℕ) (b : Bool) → is_marked marks x ≡ b → term marks f x ≡ cond b (f x) 0
unfolding term
term-at marks f x b is = ap (λ (c : Bool). cond c (f x) 0) is

pub listed-none : (marks : List Bool) → ListsMarked marks 0 []
listed-none marks = search (rules, sum_below-zero, how_many-zero)

-- A marked row is listed next.
pub listed-more : (marks : List Bool) (n : ℕ) (rows : List ℕ) → is_marked marks n ≡ true → ListsMarked marks n rows
    → ListsMarked marks (n + 1) (rows ++ n ∷ [])
unfolding term
listed-more marks n rows is before =
    let long : length (rows ++ n ∷ []) ≡ length rows + 1 = length-append rows (n ∷ []) in
    let last : get_or (rows ++ n ∷ []) (length rows) 0 ≡ n = get_or-append_seam rows n [] 0 in
    record {
      count = omega (
        arith,
        long,
        before.count,
        ap (λ m. how_many m (is_marked marks)) (add-one n),
        how_many-one n (is_marked marks) is,
      );
      entries = λ i h. elim (cases_lt i (length rows)) [
        | inl earlier ↦
            let here = before.entries i earlier in
            let same = get_or_append_left rows (n ∷ []) 0 i earlier in
            (omega (arith, same, here.0), ap (is_marked marks) same ∙ here.1)
        | inr from ↦
            let at : i ≡ length rows = omega arith in
            let same : get_or (rows ++ n ∷ []) i 0 ≡ n = ap (λ m. get_or (rows ++ n ∷ []) m 0) at ∙ last in
            (omega (arith, same), ap (is_marked marks) same ∙ is)
      ];
      sums = λ f.
          ap (λ m. sum_below m (λ i. f (get_or (rows ++ n ∷ []) i 0))) (long ∙ add-one (length rows))
          ∙ sum_below-suc (length rows) (λ i. f (get_or (rows ++ n ∷ []) i 0))
          ∙ ap₂ bit_xor
          (sum_below-same (length rows) (λ i. f (get_or (rows ++ n ∷ []) i 0)) (λ i. f (get_or rows i 0))
          (λ i h. ap f (get_or_append_left rows (n ∷ []) 0 i h)) ∙ before.sums f)
          (ap f last ∙ sym (term-at marks f n true is))
          ∙ sym (sum_below-suc n (term marks f)) ∙ ap (λ m. sum_below m (term marks f)) (sym (add-one n));
    }

-- A row that is not marked is not listed.
pub listed-passed : (marks : List Bool) (n : ℕ) (rows : List ℕ) → is_marked marks n ≡ false → ListsMarked marks n rows
    → ListsMarked marks (n + 1) rows
unfolding how_many sum_below
listed-passed marks n rows is before = search (rules, add-one, xor_zero_r)

-- A list of the marked rows below n is the list of the rows that the first n marks mark.
pub listed-first : (marks : List Bool) (n w : ℕ) (rows : List ℕ) → n ≤ w → ListsMarked marks n rows
    → ListsMarked (take n marks) w rows
unfolding term
listed-first marks n w rows fit lists = record {
  count = lists.count
      ∙ sym (how_many-gap n (w - n) w (is_marked (take n marks)) (omega arith) (λ x from to. past x from)
      ∙ how_many-same n (is_marked (take n marks)) (is_marked marks) same);
  entries = λ i h. let here = lists.entries i h in
      (omega (arith, here.0), same (slice_index rows i) here.0 ∙ here.1);
  sums = λ f.
      lists.sums f
      ∙ sum_below-same n (term marks f) (term (take n marks) f)
      (λ x h. sym (term-at (take n marks) f x (is_marked marks x) (same x h)))
      ∙ sym (xor_zero_r (sum_below n (term (take n marks) f)))
      ∙ ap (bit_xor (sum_below n (term (take n marks) f)))
      (sym (sum_below-zero (w - n) (λ i. term (take n marks) f (n + i))
      (λ i h. term-at (take n marks) f (n + i) false (past (n + i) (omega arith)))))
      ∙ sym (sum_below-add n (w - n) (term (take n marks) f))
      ∙ ap (λ (m : ℕ). sum_below m (term (take n marks) f)) (let e : n + (w - n) ≡ w = omega arith in e);
}
  where
    same : (x : ℕ) → x < n → is_marked (take n marks) x ≡ is_marked marks x
    same x h = get_or-take n marks x false h

    past : (x : ℕ) → n ≤ x → is_marked (take n marks) x ≡ false
    past x h = get_or_past (take n marks) x false (omega (arith, length-take n marks))

-- ---- the sum over a base

-- The word of row x times its factor in the word of row y.
abbrev pub base_term : SumBase → (ℕ → ℕ) → ℕ → ℕ → ℕ
base_term base words y x =
    product (words x) (power (direct_factor (λ z. slice_index base.locator.now z) x y))

-- The direct sum is the sum of the terms of the rows of the base.
pub base_sum-listed : (base : SumBase) (words : ℕ → ℕ) (y : ℕ)
    → sum_below (length base.rows.now) (λ i. base_term base words y (slice_index base.rows.now i))
    ≡ base_sum base words y
unfolding direct_sum
base_sum-listed base words y = base.listed.sums (base_term base words y)

-- The product of a word of a piece and its factor is the term of the row of the piece.
pub term-of : (base : SumBase) (words : ℕ → ℕ) (j y x log_m : ℕ) (piece : Shard) → column j piece ≡ words x
    → log_m ≡ direct_factor (λ z. slice_index base.locator.now z) x y
    → product (column j piece) (power log_m) ≡ base_term base words y x
term-of base words j y x log_m piece is factor = ap₂ (λ v l. product v (power l)) is factor

-- The sum of the words of the rows of the base, each times its factor, is the direct sum.
pub row_sum-base : (base : SumBase) (words : ℕ → ℕ) (y : ℕ)
    → row_sum (length base.rows.now)
    (λ i. direct_factor (λ z. slice_index base.locator.now z) (slice_index base.rows.now i) y)
    (λ i. words (slice_index base.rows.now i))
    ≡ base_sum base words y
row_sum-base base words y =
    sum_below-same (length base.rows.now) _ _
    (λ i h. times_known (direct_factor (λ z. slice_index base.locator.now z) (slice_index base.rows.now i) y)
    (words (slice_index base.rows.now i)) (omega arith))
    ∙ base_sum-listed base words y

-- No term is added.
pub none_added : (term : ℕ → ℕ) (a : ℕ) → a ≡ bit_xor a (sum_below 0 term)
unfolding sum_below
none_added term a = sym (xor_zero_r a)

-- ---- the factors

-- A logarithm is below 65535.
pub log_mod : (l z : ℕ) → 0 < z → z < 65536 → l ≡ log z → l % 65535 ≡ log z
log_mod l z some small is = ap (λ n. n % 65535) is ∙ mod-eq_of_lt (log_lt z some small)

-- A locator and logarithms of as many rows make factors.
pub factors_made : {frame : Frame} {marks : List Bool} {locator : List ℕ} (logs : List ℕ)
    → IsLocatorOf frame marks locator → length logs ≡ row_count frame
    → ((z : ℕ) → 0 < z → z < length logs → slice_index logs z % 65535 ≡ log z) → MakeFactors locator logs
factors_made {frame} logs is long known = record {
  within = λ x y hx hy.
      subst (λ (n : ℕ). bit_xor x y < n) (sym long)
      (xor_lt frame.exponent x y (omega (arith, hx, is.entries)) (omega (arith, hy, is.entries)));
  located = is.are_words;
  known = known;
}

-- The factor depends on the locator modulo 65535.
factor-mod : (a b c m n : ℕ) → a < 65536 → b < 65536 → a % 65535 ≡ m → b % 65535 ≡ n
    → (a + c + (65535 - b)) % 65535 ≡ (m + c + (65535 - n)) % 65535
factor-mod a b c m n ha hb ma nb = omega arith

-- The factors are those of the given shards.
pub factor_at : (frame : Frame) (k r : ℕ) (originals recovery : Shards) (marks : List Bool)
    → AreMarksOf frame k r originals recovery marks → (locator : List ℕ) → IsLocatorOf frame marks locator
    → (x y : ℕ) → x < row_count frame → y < row_count frame
    → direct_factor (λ z. slice_index locator z) x y ≡ direct_factor (locator_at frame k r originals recovery) x y
unfolding locator_at
factor_at frame k r originals recovery marks same locator is x y hx hy =
    let located = locator-given frame k r originals recovery marks same locator is in
    factor-mod (slice_index locator x) (slice_index locator y) (65535 - log (bit_xor x y))
    (locator_at frame k r originals recovery x) (locator_at frame k r originals recovery y)
    (is.are_words x) (is.are_words y) (located x hx) (located y hy)
