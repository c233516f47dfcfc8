-- The layers of a transform and the transform of few rows, in both directions.
use Rattle.std.proofs.Common.{◌≡◌, ℕ, ◌+◌, ◌-◌, ◌*◌, ◌^◌, ◌<◌, ◌≤◌, Bool, List, get_or}
use Rattle.rs_field.specs.declared.rows.layers.Direction.{Direction}
use Rattle.rs_field.specs.declared.rows.shards.ShardsRefMut.{ShardsRefMut}
use Rattle.rs_field.specs.rows.Layers.{rows_of_part}
use Rattle.rs_field.specs.rows.Directions.{IsButterfly, AreTwoLayers, AreLayers, AreTransformed}
use Rattle.rs_field.specs.rows.View.{cell, word}
use Rattle.rs_field.proofs.rows_lemmas.Layers.{IsBlock, backward_undone, four_rows, half_rows, pair_undone}
use Rattle.rs_field.proofs.rows_lemmas.PartLoops.{single_rows}

-- One layer of butterflies between the halves of a block of rows is a layer of the transform.
pub layer_of_halves : (direction : Direction) (skew : List ℕ) (n shift pos k s : ℕ) (old new : ShardsRefMut)
    → IsBlock skew (n + n) shift → s < 32
    → ((q : ℕ) → q < n → IsButterfly direction (get_or skew (shift + n - 1) 0)
    (cell old k (pos + q)) (cell old k (pos + n + q)) (cell new k (pos + q)) (cell new k (pos + n + q)))
    → AreLayers direction (n + n) n shift (λ q. word old k s (pos + q)) (λ q. word new k s (pos + q))
layer_of_halves Direction.Forward skew n shift pos k s old new block hs pairs =
    half_rows skew n shift pos (word old k s) (word new k s) block (λ q hq. pairs q hq s hs)
layer_of_halves Direction.Backward skew n shift pos k s old new block hs pairs =
    half_rows skew n shift pos (word new k s) (word old k s) block (λ q hq. pair_undone _ _ _ _ _ (pairs q hq s hs))

-- Two layers of butterflies between the quarters of a block of rows are two layers of the transform.
pub layers_of_four : (direction : Direction) (skew : List ℕ) (n shift pos k s : ℕ) (old new : ShardsRefMut)
    → IsBlock skew (4 * n) shift → s < 32
    → ((q : ℕ) → q < n → AreTwoLayers direction (get_or skew (shift + 2 * n - 1) 0) (get_or skew (shift + n - 1) 0)
    (get_or skew (shift + 2 * n + n - 1) 0)
    (cell old k (pos + q)) (cell old k (pos + n + q)) (cell old k (pos + 2 * n + q)) (cell old k (pos + 3 * n + q))
    (cell new k (pos + q)) (cell new k (pos + n + q)) (cell new k (pos + 2 * n + q)) (cell new k (pos + 3 * n + q)))
    → AreLayers direction (4 * n) n shift (λ q. word old k s (pos + q)) (λ q. word new k s (pos + q))
layers_of_four Direction.Forward skew n shift pos k s old new block hs fours =
    four_rows skew n shift pos (word old k s) (word new k s) block (λ q hq. fours q hq s hs)
layers_of_four Direction.Backward skew n shift pos k s old new block hs fours =
    four_rows skew n shift pos (word new k s) (word old k s) block
    (λ q hq. backward_undone _ _ _ _ _ _ _ _ _ _ _ (fours q hq s hs))

-- For at most four rows, the layers leave single rows, so they are the whole transform.
pub layers_of_few : (direction : Direction) (used : ℕ → Bool) (size shift : ℕ) (old new : ℕ → ℕ) → 1 < size → size ≤ 4
    → (d : ℕ) × (size ≡ 2 ^ d)
    → ((i : ℕ) → i < size → old i < 65536) → ((i : ℕ) → i < size → new i < 65536)
    → AreLayers direction size (rows_of_part size) shift old new → AreTransformed direction used size shift old new
layers_of_few Direction.Forward used size shift old new large few power old_words new_words parts = λ i hi is.
    single_rows size shift i old new large few power parts hi (new_words i hi)
layers_of_few Direction.Backward used size shift old new large few power old_words new_words parts = λ i hi.
    single_rows size shift i new old large few power parts hi (old_words i hi)
