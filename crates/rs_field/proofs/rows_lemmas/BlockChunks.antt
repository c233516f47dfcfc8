-- The layers of a block of rows, from the effect of butterflies on the range of its chunks.
use Rattle.std.proofs.Common.{rules, ◌≡◌, ℕ, ◌+◌, ◌-◌, ◌*◌, ◌/◌, ◌<◌, ◌≤◌, List, true, false, length, take, drop}
use Rattle.std.proofs.Common.{get_or, ap, sym, subst, ◌∙◌, arith}
use Rattle.std.proofs.lemmas.Grind.{common_steps}
use borrow.Rule.Slice.PartMut.{put_mid}
use Rattle.rs_field.specs.rows.Rows.{Chunks, chunk}
use Rattle.rs_field.specs.rows.View.{Fits, cell, word}
use Rattle.rs_field.specs.rows.Layers.{is_halved, rows_of_part}
use Rattle.rs_field.specs.rows.Directions.{IsButterfly, AreTwoLayers, AreLayers}
use Rattle.rs_field.specs.words.Tables.{IsSkew}
use Rattle.rs_field.specs.declared.rows.block.Block.{Block}
use Rattle.rs_field.specs.declared.rows.layers.Direction.{Direction}
use Rattle.rs_field.specs.declared.rows.shards.ShardsRefMut.{ShardsRefMut}
use Rattle.rs_field.proofs.rows_lemmas.Directions.{layer_of_halves, layers_of_four}
use Rattle.rs_field.proofs.rows_lemmas.Layers.{IsBlock}
use Rattle.rs_field.proofs.rows_lemmas.Parts.{block_halves, block_power, block_quarters, part_of_halved, part_of_more}
use Rattle.rs_field.proofs.rows_lemmas.RowOffsets.{row_within, rows_end}

-- Chunk p of the m chunks from a on is chunk a + p of the list.
of_part : (ch : Chunks) (a m p : ℕ) → p < m → chunk (take m (drop a ch)) p ≡ chunk ch (a + p)
of_part ch a m p below = grind (arith, common_steps)

-- A chunk of a part is a chunk of the list into which the part was written.
pub of_written : (ch part : Chunks) (a m p : ℕ) → a + m ≤ length ch → length part ≡ m → p < m
    → chunk part p ≡ chunk (put_mid a m ch part) (a + p)
of_written ch part a m p within long below = grind (arith, common_steps)

module _ (block : Block) (old : ShardsRefMut) (fits : Fits old)
    (within : block.pos + block.size ≤ old.shard_count) where
  abbrev n : ℕ
  n = old.shard_len_64

  -- The chunks of the block.
  abbrev m : ℕ
  m = (block.pos + block.size) * n - block.pos * n

  abbrev given : Chunks
  given = take m (drop (block.pos * n) old.chunks.now)

  whole : m ≡ block.size * n
  whole = omega arith

  end : block.pos * n + m ≤ length old.chunks.now
  end = omega (arith, whole, rows_end block.pos block.size old.shard_count n within, fits)

  pub block_long : length given ≡ block.size * n
  block_long = grind (arith, common_steps)

  module _ (new : ShardsRefMut) (part : Chunks) (len : new.shard_len_64 ≡ n)
      (written : new.chunks.now ≡ put_mid (block.pos * n) m old.chunks.now part)
      (long : length part ≡ block.size * n) where
    -- Chunk p of the block is chunk k of row r.
    old_cell : (p k r : ℕ) → p < block.size * n → block.pos * n + p ≡ r * n + k → chunk given p ≡ cell old k r
    unfolding cell
    old_cell p k r below is = of_part old.chunks.now (block.pos * n) m p (omega (arith, whole, below))
        ∙ ap (λ i. chunk old.chunks.now i) is

    new_cell : (p k r : ℕ) → p < block.size * n → block.pos * n + p ≡ r * n + k → chunk part p ≡ cell new k r
    unfolding cell
    new_cell p k r below is = search (rules, of_written, end)

    module _ (large : 1 < block.size) (direction : Direction) (skew : List ℕ) (table : IsSkew skew) (k s : ℕ)
        (hk : k < n) (hs : s < 32) where
      -- The rows of a block are among those of the tables.
      in_table : IsBlock skew block.size block.skew_delta
      in_table = record {
        table = table;
        large = large;
        power = block_power block;
        aligned = block.aligned;
        points = block.points;
      }

      abbrev Made : ℕ → ℕ → Type 0
      Made size rows = AreLayers direction size rows block.skew_delta (λ q. word old k s (block.pos + q))
          (λ q. word new k s (block.pos + q))

      pub one_layer_made : is_halved block.size ≡ true
          → ((p : ℕ) → p < block.size / 2 * n
          → IsButterfly direction (get_or skew (block.skew_delta + block.size / 2 - 1) 0)
          (chunk given p) (chunk given (block.size / 2 * n + p)) (chunk part p) (chunk part (block.size / 2 * n + p)))
          → Made block.size (rows_of_part block.size)
      one_layer_made halved pairs =
          let h : ℕ = block.size / 2 in
          let twice : block.size ≡ h + h = block_halves block large in
          let rows : block.size * n ≡ h * n + h * n = omega (arith, ap (λ v. v * n) twice) in
          let rows_lemmas : (q : ℕ) → q < h → IsButterfly direction (get_or skew (block.skew_delta + h - 1) 0)
          (cell old k (block.pos + q)) (cell old k (block.pos + h + q)) (cell new k (block.pos + q))
          (cell new k (block.pos + h + q)) = λ q hq.
          let p : ℕ = q * n + k in
          let below : p < h * n = row_within q h k n hq hk in
          let pair = pairs p below in
          let low : p < block.size * n = omega (arith, below, rows) in
          let high : h * n + p < block.size * n = omega (arith, below, rows) in
          let first : block.pos * n + p ≡ (block.pos + q) * n + k = omega arith in
          let second : block.pos * n + (h * n + p) ≡ (block.pos + h + q) * n + k = omega arith in
          rw (
            old_cell p k (block.pos + q) low first,
            old_cell (h * n + p) k (block.pos + h + q) high second,
            new_cell p k (block.pos + q) low first,
            new_cell (h * n + p) k (block.pos + h + q) high second,
          ) at pair in
          subst (λ (r : ℕ). Made block.size r) (sym (part_of_halved block.size halved))
          (subst (λ (v : ℕ). Made v h) (sym twice)
          (layer_of_halves direction skew h block.skew_delta block.pos k s old new
          (subst (λ (v : ℕ). IsBlock skew v block.skew_delta) twice in_table) hs rows_lemmas))

      pub two_layers_made : is_halved block.size ≡ false
          → ((p : ℕ) → p < block.size / 4 * n
          → AreTwoLayers direction (get_or skew (block.skew_delta + 2 * (block.size / 4) - 1) 0)
          (get_or skew (block.skew_delta + block.size / 4 - 1) 0)
          (get_or skew (block.skew_delta + 2 * (block.size / 4) + block.size / 4 - 1) 0)
          (chunk given p) (chunk given (block.size / 4 * n + p)) (chunk given (2 * (block.size / 4 * n) + p))
          (chunk given (3 * (block.size / 4 * n) + p))
          (chunk part p) (chunk part (block.size / 4 * n + p)) (chunk part (2 * (block.size / 4 * n) + p))
          (chunk part (3 * (block.size / 4 * n) + p)))
          → Made block.size (rows_of_part block.size)
      two_layers_made more fours =
          let h : ℕ = block.size / 4 in
          let times : block.size ≡ 4 * h = block_quarters block large more in
          let rows : block.size * n ≡ 4 * (h * n) = omega (arith, ap (λ v. v * n) times) in
          let rows_lemmas : (q : ℕ) → q < h
          → AreTwoLayers direction (get_or skew (block.skew_delta + 2 * h - 1) 0)
          (get_or skew (block.skew_delta + h - 1) 0)
          (get_or skew (block.skew_delta + 2 * h + h - 1) 0)
          (cell old k (block.pos + q)) (cell old k (block.pos + h + q)) (cell old k (block.pos + 2 * h + q))
          (cell old k (block.pos + 3 * h + q))
          (cell new k (block.pos + q)) (cell new k (block.pos + h + q)) (cell new k (block.pos + 2 * h + q))
          (cell new k (block.pos + 3 * h + q)) = λ q hq.
          let p : ℕ = q * n + k in
          let below : p < h * n = row_within q h k n hq hk in
          let four = fours p below in
          let in₀ : p < block.size * n = omega (arith, below, rows) in
          let in₁ : h * n + p < block.size * n = omega (arith, below, rows) in
          let in₂ : 2 * (h * n) + p < block.size * n = omega (arith, below, rows) in
          let in₃ : 3 * (h * n) + p < block.size * n = omega (arith, below, rows) in
          let at₀ : block.pos * n + p ≡ (block.pos + q) * n + k = omega arith in
          let at₁ : block.pos * n + (h * n + p) ≡ (block.pos + h + q) * n + k = omega arith in
          let at₂ : block.pos * n + (2 * (h * n) + p) ≡ (block.pos + 2 * h + q) * n + k = omega arith in
          let at₃ : block.pos * n + (3 * (h * n) + p) ≡ (block.pos + 3 * h + q) * n + k = omega arith in
          rw (
            old_cell p k (block.pos + q) in₀ at₀,
            old_cell (h * n + p) k (block.pos + h + q) in₁ at₁,
            old_cell (2 * (h * n) + p) k (block.pos + 2 * h + q) in₂ at₂,
            old_cell (3 * (h * n) + p) k (block.pos + 3 * h + q) in₃ at₃,
            new_cell p k (block.pos + q) in₀ at₀,
            new_cell (h * n + p) k (block.pos + h + q) in₁ at₁,
            new_cell (2 * (h * n) + p) k (block.pos + 2 * h + q) in₂ at₂,
            new_cell (3 * (h * n) + p) k (block.pos + 3 * h + q) in₃ at₃,
          ) at four in
          subst (λ (r : ℕ). Made block.size r) (sym (part_of_more block.size more))
          (subst (λ (v : ℕ). Made v h) (sym times)
          (layers_of_four direction skew h block.skew_delta block.pos k s old new
          (subst (λ (v : ℕ). IsBlock skew v block.skew_delta) times in_table) hs rows_lemmas))
