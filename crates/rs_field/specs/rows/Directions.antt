-- Butterflies and layers of butterflies in each direction of a transform.
use Rattle.std.specs.Prelude.{◌≡◌, ℕ, ◌+◌, ◌-◌, ◌*◌, ◌<◌, ◌≤◌, Bool, true}
use Rattle.rs_field.specs.declared.rows.layers.Direction.{Direction}
use Rattle.rs_field.specs.declared.rows.marked_rows.UsedRows.{UsedRows}
use Rattle.rs_field.specs.declared.rows.shards.ShardsRefMut.{ShardsRefMut}
use Rattle.rs_field.specs.words.Transform.{forward, IsBackward}
use Rattle.rs_field.specs.words.StepBounds.{CountsUpTo, transform_steps}
use Rattle.rs_field.specs.rows.MarkedRows.{HasMarks, UnusedAreZero}
use Rattle.rs_field.specs.rows.Layers.{ArePartsOf, rows_of_part, layer_steps}
use Rattle.rs_field.specs.rows.View.{word, Fits, SameExtent, SameRowsOutside}
use Rattle.rs_field.specs.rows.Pairs.{OnTwoChunks, IsForwardButterfly, IsBackwardButterfly}
use Rattle.rs_field.specs.rows.TwoLayers.{OnFourChunks, IsForwardTwoLayers, IsBackwardTwoLayers}
use Rattle.rs_field.specs.declared.rows.block.Block.{Block}
use Rattle.rs_field.specs.declared.words.steps.Steps.{Steps}

-- a butterfly on each symbol of two chunks, by the factor of a logarithm
abbrev pub IsButterfly : Direction → ℕ → OnTwoChunks
IsButterfly Direction.Forward log_m = IsForwardButterfly log_m
IsButterfly Direction.Backward log_m = IsBackwardButterfly log_m

-- two layers of butterflies on each symbol of four chunks
abbrev pub AreTwoLayers : Direction → ℕ → ℕ → ℕ → OnFourChunks
AreTwoLayers Direction.Forward log_m02 log_m01 log_m23 = IsForwardTwoLayers log_m02 log_m01 log_m23
AreTwoLayers Direction.Backward log_m02 log_m01 log_m23 = IsBackwardTwoLayers log_m02 log_m01 log_m23

-- after forward layers, the transforms of the parts of the new words are the parts of the transform of the old words;
-- for backward layers, old and new words change roles
abbrev pub AreLayers : Direction → ℕ → ℕ → ℕ → (ℕ → ℕ) → (ℕ → ℕ) → Type 0
AreLayers Direction.Forward size n shift old new = ArePartsOf size n shift old new
AreLayers Direction.Backward size n shift old new = ArePartsOf size n shift new old

-- the new words are the transform of the old words; after a forward transform this holds only for the used words
abbrev pub AreTransformed : Direction → (ℕ → Bool) → ℕ → ℕ → (ℕ → ℕ) → (ℕ → ℕ) → Type 0
AreTransformed Direction.Forward used size shift old new =
    (i : ℕ) → i < size → used i ≡ true → new i ≡ forward size shift old i
AreTransformed Direction.Backward used size shift old new = IsBackward size shift old new

-- for a backward transform, the unused rows among the `size` rows from row `pos` on are zero bytes
abbrev pub UnusedAreZeroBackward : Direction → UsedRows → ℕ → ℕ → ShardsRefMut → Type 0
UnusedAreZeroBackward Direction.Forward used pos size rows = 0 ≤ size
UnusedAreZeroBackward Direction.Backward used pos size rows = UnusedAreZero used pos size rows

-- the rows of a block can be transformed in a direction: the block is among the rows, there is a mark for each of its
-- rows if rows are marked, and for a backward transform its unused rows are zero bytes
pub record CanTransform (direction : Direction) (used : UsedRows) (block : Block) (rows : ShardsRefMut) : Type 0 where
  pub fits : Fits rows
  pub marks : HasMarks used block.size
  pub within : block.pos + block.size ≤ rows.shard_count
  pub zeros : UnusedAreZeroBackward direction used block.pos block.size rows

-- only the rows of a block change
pub record ChangesBlock (block : Block) (old new : ShardsRefMut) : Type 0 where
  pub extent : SameExtent old new
  pub others : SameRowsOutside block.pos (block.pos + block.size) old new

-- in each chunk of the rows of a block, the new words are the transform of the old words
abbrev pub AreRowsTransformed : Direction → (ℕ → Bool) → Block → ShardsRefMut → ShardsRefMut → Type 0
AreRowsTransformed direction used block old new = (k s : ℕ) → k < old.shard_len_64 → s < 32
    → AreTransformed direction used block.size block.skew_delta
    (λ q. word old k s (block.pos + q)) (λ q. word new k s (block.pos + q))

-- in each part of a block after its first layers, the new words are the transform of the old words
abbrev pub ArePartsTransformed : Direction → (ℕ → Bool) → Block → ShardsRefMut → ShardsRefMut → Type 0
ArePartsTransformed direction used block old new =
    let n = rows_of_part block.size in (k s m : ℕ) → k < old.shard_len_64 → s < 32 → m * n < block.size
    → AreTransformed direction (λ i. used (m * n + i)) n (block.skew_delta + m * n)
    (λ q. word old k s (block.pos + (m * n + q))) (λ q. word new k s (block.pos + (m * n + q)))

-- the transforms of the parts count at most the steps of the whole transform without those of the first layers
abbrev pub PartCounts : ℕ → Steps → Steps → Type 0
PartCounts size old new = CountsUpTo (transform_steps size - layer_steps size) 0 0 old new
