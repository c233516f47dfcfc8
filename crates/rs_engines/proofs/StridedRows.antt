-- Rows at equal distances: a chunk is read, and a chunk is written.
use Rattle.std.proofs.Common.{rules, ◌≡◌, ◌≢◌, ℕ, ◌+◌, ◌*◌, ◌<◌, ◌≤◌, ◌⊎◌, List, [], inl, inr, ap, sym, ◌∙◌}
use Rattle.std.proofs.Common.{arith, length, set, bit_xor, take, drop}
use Rattle.std.proofs.lemmas.Bool.{cases_lt, cases_eq}
use Rattle.std.proofs.lemmas.List.{get_or-set_same, get_or-set_other, places, length-take, length-drop}
use borrow.Rule.Slice.PartMut.{put_mid}
use Rattle.rs_field.proofs.rows_lemmas.RowOffsets.{offset_apart}
use Rattle.rs_field.specs.rows.Rows.{Chunks, chunk, symbol, word_in}
use Rattle.rs_field.specs.declared.rows.reading.Writing.{Writing}
use Rattle.rs_field.specs.rows.AddedRows.{row_sum}
use Rattle.rs_field.specs.rows.Written.{held}
use Rattle.rs_engines.specs.StridedRows.{strided_word}
use Rattle.rs_engines.specs.Sums.{AreSumsFrom}

pub strided_inside : (x : Chunks) (n k s i : ℕ) → k < n → strided_word x n k s i ≡ word_in x n k s i
unfolding strided_word
strided_inside x n k s i inside = search (rules, inside)

-- A chunk past the end of a row counts as zeros, whatever the chunks are.
strided_past : (x y : Chunks) (n k s i : ℕ) → n ≤ k → strided_word x n k s i ≡ strided_word y n k s i
unfolding strided_word
strided_past x y n k s i past = search (rules, past)

pub chunk_put : (x : Chunks) (n k s i : ℕ) (c : List ℕ) → k < n → i * n + k < length x
    → strided_word (set x (i * n + k) c) n k s i ≡ symbol c s
chunk_put x n k s i c inside within =
    strided_inside (set x (i * n + k) c) n k s i inside
    ∙ ap (λ d. symbol d s) (get_or-set_same x (i * n + k) c [] within)

-- Chunks at different places in different rows, or in one row, are different chunks.
apart : (n k j i r : ℕ) → k < n → j < n → (j ≢ k) ⊎ (i ≢ r) → i * n + j ≢ r * n + k
apart n k j i r inside within other = λ same.
    elim (cases_eq i r) [
      | inl row ↦
          let start : i * n ≡ r * n = ap (λ m. m * n) row in
          elim other [
            | inl chunk ↦ chunk (omega (arith, start, same))
            | inr away ↦ away row
          ]
      | inr away ↦
          elim (offset_apart r i j n within away) [
            | inl before ↦ omega (arith, before, same)
            | inr after ↦ omega (arith, after, same, inside)
          ]
    ]

pub others_kept : (x : Chunks) (n k j s i r : ℕ) (c : List ℕ) → k < n → (j ≢ k) ⊎ (i ≢ r)
    → strided_word (set x (r * n + k) c) n j s i ≡ strided_word x n j s i
others_kept x n k j s i r c inside other =
    elim (cases_lt j n) [
      | inl within ↦
          strided_inside (set x (r * n + k) c) n j s i within
          ∙ ap (λ d. symbol d s) (get_or-set_other x (r * n + k) (i * n + j) c [] (apart n k j i r inside within other))
          ∙ sym (strided_inside x n j s i within)
      | inr past ↦ strided_past (set x (r * n + k) c) x n j s i past
    ]

-- Sums that were written to the first chunks of rows.
pub strided_sums : (w : Writing) (n len m stride : ℕ) (log : ℕ → ℕ → ℕ) (added : ℕ → ℕ → ℕ → ℕ) (old new : Chunks)
    → len ≤ stride → AreSumsFrom w n len log added 0 m (strided_word old stride) (strided_word new stride)
    → (k s d : ℕ) → k < len → s < 32 → d < m
    → word_in new stride k s d ≡ bit_xor (held w (word_in old stride k s d)) (row_sum n (λ i. log i d) (added k s))
strided_sums w n len m stride log added old new fit are k s d inside small few =
    let within : k < stride = omega arith in
    sym (strided_inside new stride k s d within) ∙ are.sums k s d inside small (omega arith) few
    ∙ ap (λ v. bit_xor (held w v) (row_sum n (λ i. log i d) (added k s))) (strided_inside old stride k s d within)

-- The chunks after them are unchanged.
pub strided_rest : (w : Writing) (n len m stride : ℕ) (log : ℕ → ℕ → ℕ) (added : ℕ → ℕ → ℕ → ℕ) (old new : Chunks)
    → AreSumsFrom w n len log added 0 m (strided_word old stride) (strided_word new stride)
    → (k s d : ℕ) → len ≤ k → k < stride → s < 32 → word_in new stride k s d ≡ word_in old stride k s d
strided_rest w n len m stride log added old new are k s d past within small =
    sym (strided_inside new stride k s d within) ∙ are.others k s d small (inl past)
    ∙ strided_inside old stride k s d within

-- A chunk outside a part that was written is unchanged.
part_outside : (x part : Chunks) (start m k : ℕ) → start + m ≤ length x → length part ≡ m
    → (k < start) ⊎ (start + m ≤ k) → chunk (put_mid start m x part) k ≡ chunk x k
part_outside x part start m k fits same outside = search (rules, places)

-- The first l chunks of row i, which are the first m chunks from its beginning on, were written. Symbol s of each of
-- them is `f k s` of what it was.
pub part_changed : (x part : Chunks) (n m l i : ℕ) (f : ℕ → ℕ → ℕ → ℕ) → m ≡ l → l ≤ n → i * n + l ≤ length x
    → length part ≡ length (take m (drop (i * n) x))
    → ((k s : ℕ) → k < length (take m (drop (i * n) x)) → s < 32
    → symbol (chunk part k) s ≡ f k s (symbol (chunk (take m (drop (i * n) x)) k) s))
    → (k s : ℕ) → k < l → s < 32 → strided_word (put_mid (i * n) m x part) n k s i ≡ f k s (strided_word x n k s i)
part_changed x part n m l i f width fit within same changed k s inside small =
    let taken : length (take m (drop (i * n) x)) ≡ m = simp (length-take, length-drop) (omega (arith, width, within)) in
    let row : k < n = omega (arith, inside, fit) in
    let here : chunk (put_mid (i * n) m x part) (i * n + k) ≡ chunk part k = search (rules, places) in
    let before : chunk (take m (drop (i * n) x)) k ≡ chunk x (i * n + k) = search (rules, places) in
    strided_inside (put_mid (i * n) m x part) n k s i row
    ∙ ap (λ c. symbol c s) here
    ∙ changed k s (omega (arith, taken, width, inside)) small
    ∙ ap (λ c. f k s (symbol c s)) before
    ∙ ap (f k s) (sym (strided_inside x n k s i row))

-- All other chunks of rows are unchanged.
pub part_kept : (x part : Chunks) (n m l i : ℕ) → m ≡ l → l ≤ n → i * n + l ≤ length x
    → length part ≡ length (take m (drop (i * n) x)) → (k s j : ℕ) → (l ≤ k) ⊎ (j ≢ i)
    → strided_word (put_mid (i * n) m x part) n k s j ≡ strided_word x n k s j
part_kept x part n m l i width fit within same k s j other =
    let taken : length (take m (drop (i * n) x)) ≡ m = simp (length-take, length-drop) (omega (arith, width, within)) in
    let long : length part ≡ m = same ∙ taken in
    elim (cases_lt k n) [
      | inl inside ↦
          strided_inside (put_mid (i * n) m x part) n k s j inside
          ∙ ap (λ c. symbol c s)
          (part_outside x part (i * n) m (j * n + k) (omega (arith, width, within)) long
          (elim (cases_eq j i) [
            | inl row ↦
                let start : j * n ≡ i * n = ap (λ r. r * n) row in
                elim other [
                  | inl past ↦ inr (omega (arith, start, past, width))
                  | inr away ↦ absurd (away row)
                ]
            | inr away ↦
                elim (offset_apart i j k n inside away) [
                  | inl before ↦ inl before
                  | inr after ↦ inr (omega (arith, after, fit, width))
                ]
          ]))
          ∙ sym (strided_inside x n k s j inside)
      | inr past ↦ strided_past (put_mid (i * n) m x part) x n k s j past
    ]
