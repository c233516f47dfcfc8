-- The chunks of a list after rows were replaced or exchanged.
use Rattle.std.proofs.Common.{rules, ◌≡◌, ℕ, ◌+◌, ◌-◌, ◌*◌, ◌<◌, ◌≤◌, ◌⊎◌, inl, inr, [], ◌++◌, length, take, drop, refl}
use Rattle.std.proofs.Common.{sym, ap, ap₂, ◌∙◌, subst, arith, length-append}
use Rattle.std.proofs.lemmas.List.{get_or-take, get_or-drop, drop-drop, drop-append-le, append_assoc}
use Rattle.std.proofs.lemmas.Slice.{between_is, take-put_mid_below, drop-append-drop}
use Rattle.std.proofs.Math.Seq.{take-append-add}
use Rattle.std.proofs.lemmas.Grind.{common_steps}
use Rattle.rs_field.specs.rows.Rows.{Chunks, chunk}
use Rattle.rs_field.specs.rows.View.{Fits, cell, row_at}
use Rattle.rs_field.specs.rows.Lending.{between, with_chunks, with_run, with_two, with_four}
use Rattle.rs_field.specs.declared.rows.shards.ShardsRefMut.{ShardsRefMut}
use Rattle.rs_field.proofs.rows_lemmas.LentChunks.{taken, between-long}
use Rattle.rs_examples.specs.SwappedRows.{AreSwapped, AreSwappedTwice}

-- The chunks of a list after one run of chunks was replaced.
module _ (ch run : Chunks) (a n : ℕ) (long : length run ≡ n) (within : a + n ≤ length ch) where
  pub in-run : (c k : ℕ) → c ≡ a + k → k < n → chunk (with_run ch a n run) c ≡ chunk run k
  in-run c k is low = grind (arith, common_steps)

  pub off-run : (c : ℕ) → (c < a) ⊎ (a + n ≤ c) → chunk (with_run ch a n run) c ≡ chunk ch c
  off-run c (inl before) = grind (arith, common_steps)
  off-run c (inr past) = grind (arith, common_steps)

  pub length-run : length (with_run ch a n run) ≡ length ch
  length-run = grind (arith, common_steps)

-- Replacing two runs at once is replacing the second run and then the first run.
pub as-runs : (ch first second : Chunks) (a n b m : ℕ) → a + n ≤ b → b ≤ length ch
    → with_two ch a n b m first second ≡ with_run (with_run ch b m second) a n first
as-runs ch first second a n b m apart within =
    search (rules, take-put_mid_below, drop-drop, drop-append-le, between_is)

-- Four runs are replaced two by two. Replacing the first two runs leaves the chunks after them unchanged.
module _ (ch first second : Chunks) (i n j : ℕ) (l₁ : length first ≡ n) (l₂ : length second ≡ n) (apart : i + n ≤ j)
    (within : j + n ≤ length ch) where
  -- The chunks up to the end of the second run.
  abbrev head : Chunks
  head = take i ch ++ (first ++ (between (i + n) j ch ++ second))

  parts : with_two ch i n j n first second ≡ head ++ drop (j + n) ch
  parts = simp append_assoc

  length-head : length head ≡ j + n
  length-head = search (rules, between-long, length-append)

  after-two : (c : ℕ) → j + n ≤ c → drop c (with_two ch i n j n first second) ≡ drop c ch
  after-two c later = ap (drop c) parts ∙ drop-append-drop (j + n) ch head c later length-head

  four-as-two : (k m : ℕ) (third fourth : Chunks) → j + n ≤ k → k ≤ m
      → with_four ch i j k m n first second third fourth
      ≡ with_two (with_two ch i n j n first second) k n m n third fourth
  four-as-two k m third fourth later ordered =
      let at : k ≡ length head + (k - (j + n)) = omega (arith, length-head, later) in
      sym (ap₂ (λ u v. u ++ v) (ap₂ take at parts ∙ take-append-add head (drop (j + n) ch) (k - (j + n)))
      (ap₂ (λ u v. third ++ (take (m - (k + n)) u ++ (fourth ++ v))) (after-two (k + n) (omega (arith, later)))
      (after-two (m + n) (omega (arith, later, ordered))))
      ∙ simp append_assoc)

-- A row ends before any later row begins, and row ends are within the rows.
pub ends : (n i j : ℕ) → i < j → i * n + n ≤ j * n
ends n i j h = search rules

-- Each row of a list is within the chunks of the list.
row-within : (h : ShardsRefMut) (r : ℕ) → Fits h → r < h.shard_count
    → r * h.shard_len_64 + h.shard_len_64 ≤ length h.chunks.now
row-within h r fits within = let rows = ends h.shard_len_64 r h.shard_count within in omega (arith, rows, fits)

pub row-long : (h : ShardsRefMut) (r : ℕ) → Fits h → r < h.shard_count → length (row_at h r) ≡ h.shard_len_64
row-long h r fits within = taken h.chunks.now (r * h.shard_len_64) h.shard_len_64 (row-within h r fits within)

pub cell-of-row : (h : ShardsRefMut) (r k : ℕ) → k < h.shard_len_64 → chunk (row_at h r) k ≡ cell h k r
unfolding cell
cell-of-row h r k low = get_or-take h.shard_len_64 (drop (r * h.shard_len_64) h.chunks.now) k [] low
    ∙ get_or-drop (r * h.shard_len_64) h.chunks.now k []

abbrev pub swapped_rows : ShardsRefMut → ℕ → ℕ → ShardsRefMut
swapped_rows h i j = let n = h.shard_len_64 in
    with_chunks h (with_two h.chunks.now (i * n) n (j * n) n (row_at h j) (row_at h i))

pub swapped : (h : ShardsRefMut) (i j : ℕ) → Fits h → i < j → j < h.shard_count → AreSwapped i j h (swapped_rows h i j)
unfolding cell
swapped h i j fits ordered within =
    let n = h.shard_len_64 in let ch = h.chunks.now in
    let apart = ends n i j ordered in let last = row-within h j fits within in
    let l₁ = row-long h j fits within in let l₂ = row-long h i fits (omega (arith, ordered, within)) in
    let both = as-runs ch (row_at h j) (row_at h i) (i * n) n (j * n) n apart (omega (arith, last)) in
    let same = length-run ch (row_at h i) (j * n) n l₂ last in
    let room : i * n + n ≤ length (with_run ch (j * n) n (row_at h i)) = omega (arith, same, apart, last) in
    let one = in-run _ (row_at h j) (i * n) n l₁ room in let off = off-run _ (row_at h j) (i * n) n l₁ room in
    record {
      extent = record {
        name = refl;
        count = refl;
        len_64 = refl;
        length =
            ap length both ∙ length-run _ (row_at h j) (i * n) n l₁ room ∙ same;
      };
      first = λ k low. ap (λ l. chunk l (i * n + k)) both ∙ one (i * n + k) k refl low ∙ cell-of-row h j k low;
      second = λ k low. ap (λ l. chunk l (j * n + k)) both ∙ off (j * n + k) (inr (omega (arith, apart)))
          ∙ in-run ch (row_at h i) (j * n) n l₂ last (j * n + k) k refl low ∙ cell-of-row h i k low;
      others = λ c p q. ap (λ l. chunk l c) both ∙ off c p ∙ off-run ch (row_at h i) (j * n) n l₂ last c q;
    }

abbrev pub swapped_four : ShardsRefMut → ℕ → ℕ → ℕ → ℕ → ShardsRefMut
swapped_four h i j k l =
    let n = h.shard_len_64 in
    with_chunks h (with_four h.chunks.now (i * n) (j * n) (k * n) (l * n) n (row_at h j) (row_at h i) (row_at h l)
    (row_at h k))

pub swapped-twice : (h : ShardsRefMut) (i j k l : ℕ) → Fits h → i < j → j < k → k < l → l < h.shard_count
    → AreSwappedTwice i j k l h (swapped_four h i j k l)
swapped-twice h i j k l fits ij jk kl within =
    let n = h.shard_len_64 in let ch = h.chunks.now in
    let mid = swapped_rows h i j in
    let inside : j < h.shard_count = omega (arith, jk, kl, within) in
    let l₁ = row-long h j fits inside in let l₂ = row-long h i fits (omega (arith, ij, inside)) in
    let apart = ends n i j ij in let last = row-within h j fits inside in
    let once = swapped h i j fits ij inside in
    let same : (r : ℕ) → j < r → row_at mid r ≡ row_at h r = λ r later.
    ap (take n) (after-two ch (row_at h j) (row_at h i) (i * n) n (j * n) l₁ l₂ apart last (r * n)
    (ends n j r later)) in
    let whole = four-as-two ch (row_at h j) (row_at h i) (i * n) n (j * n) l₁ l₂ apart last (k * n) (l * n) (row_at h l)
    (row_at h k) (ends n j k jk) (let e = ends n k l kl in omega (arith, e)) in (
      mid,
      once,
      subst (λ (w : Chunks). AreSwapped k l mid (with_chunks h w))
          (ap₂ (with_two mid.chunks.now (k * n) n (l * n) n) (same l (omega (arith, jk, kl))) (same k jk) ∙ sym whole)
          (swapped mid k l (let long = once.extent.length in omega (arith, long, fits)) kl within),
    )
