-- The relation of the words in a decoder's rows to the words of the missing originals.
use Rattle.std.specs.Prelude.{◌≡◌, ℕ, ◌+◌, ◌-◌, ◌*◌, ◌/◌, ◌%◌, ◌<◌, ◌≤◌, ◌↔◌, ◌⊎◌, if◌then◌else◌}
use Rattle.std.specs.Prelude.{Bool, true, false, List, length, slice_index}
use Rattle.rs_field.specs.words.StepBounds.{transform_steps}
use Rattle.rs_field.specs.words.Derivative.{IsDerivativeAdded}
use Rattle.rs_field.specs.words.DirectSum.{direct_sum}
use Rattle.rs_field.specs.words.Field.{product, power}
use Rattle.rs_field.specs.code.Column.{column}
use Rattle.rs_field.specs.rows.Layout.{row_len}
use Rattle.rs_field.specs.words.Locator.{IsLocatorBelow}
use Rattle.rs_field.specs.rows.Rows.{Chunks, word_in}
use Rattle.rs_field.specs.words.Transform.{forward, IsBackward}
use Rattle.rs_field.specs.rows.MarkedRows.{is_marked}
use Rattle.rs_field.specs.rows.View.{Fits}
use Rattle.rs_field.specs.declared.rows.shards.ShardsRefMut.{ShardsRefMut}
use Rattle.rs_field.specs.code.Frame.{row_count, original_row}
use Rattle.rs_field.specs.declared.code.frame.Frame.{Frame}
use Rattle.rs_rate.specs.declared.values.configuration.Configuration.{Configuration}
use Rattle.rs_rate.specs.rows.Marks.{how_many, erasure}
use Rattle.rs_rate.specs.values.Configured.{rows_to_decode}
use Rattle.rs_rate.specs.rows.ShardRows.{shard_in_order}

-- there is an entry for each row; the entries are words, and modulo 65535 they are the locator of the rows that are
-- erased by a frame and marks
pub record IsLocatorOf (frame : Frame) (marks : List Bool) (locator : List ℕ) : Type 0 where
  pub entries : length locator ≡ row_count frame
  pub are_words : (x : ℕ) → slice_index locator x < 65536
  pub values : IsLocatorBelow (row_count frame) (erasure frame marks) (λ x. slice_index locator x)

-- rows have the number of rows of a decoder, and the number of chunks in a row
pub record AreRowsOf (c : Configuration) (rows : ShardsRefMut) : Type 0 where
  pub fits : Fits rows
  pub count : rows.shard_count ≡ rows_to_decode c
  pub len : rows.shard_len_64 ≡ row_len c.shard_bytes

-- the row steps of restoring words in the rows of a decoder: one for each row, a transform, one for each surplus shard,
-- two transforms, and one for each original
abbrev pub restore_steps : Configuration → ℕ → ℕ
restore_steps c surplus =
    let w = rows_to_decode c in
    w + (transform_steps w + (surplus + (2 * transform_steps w + c.original_count)))

-- a bound on the row steps of this number of direct sums: for each sum, one to clear or to check its row, and three for
-- each original, since an engine may take three to add a multiple of a row
abbrev pub sum_steps : Configuration → ℕ → ℕ
sum_steps c sums = sums * (1 + 3 * c.original_count)

-- a bound on the row steps of finding the words of the missing originals: three transforms, and three steps a row
abbrev pub find_steps : Configuration → ℕ
find_steps c = let w = rows_to_decode c in 3 * transform_steps w + 3 * w

-- the located word of row p: if its shard is given, the word times the generator to the power of the locator at p, else
-- zero
unfoldable pub located_word : List Bool → List ℕ → (ℕ → ℕ) → ℕ → ℕ
located_word marks locator words p = if is_marked marks p then product (words p) (power (slice_index locator p)) else 0

-- each missing original has in its row the value of the polynomial plus its derivative, divided by the generator to the
-- power of the locator
abbrev pub AreRevealed : Configuration → List Bool → List ℕ → (ℕ → ℕ) → (ℕ → ℕ) → Type 0
AreRevealed c marks locator coefficients new =
    (i : ℕ) → i < c.original_count → let p = original_row c.frame i in is_marked marks p ≡ false
    → (added : ℕ → ℕ) × IsDerivativeAdded (rows_to_decode c) coefficients added
    × (new p ≡ product (forward (rows_to_decode c) 0 added p) (power (65535 - slice_index locator p)))

-- in each column (symbol s of chunk k), the coefficients are words and those of the polynomial through the located
-- words; `agrees` says whether the last coefficients, as many as there are surplus shards, are zero
pub record AreCoefficients (c : Configuration) (marks : List Bool) (locator : List ℕ) (surplus : ℕ)
    (old coefficients : ℕ → ℕ → ℕ → ℕ) (agrees : Bool) : Type 0 where
  pub are_words : (k s i : ℕ) → k < row_len c.shard_bytes → s < 32 → i < rows_to_decode c
      → coefficients k s i < 65536
  pub of_located : (k s : ℕ) → k < row_len c.shard_bytes → s < 32
      → IsBackward (rows_to_decode c) 0 (located_word marks locator (old k s)) (coefficients k s)
  pub checked : ((i j : ℕ) → rows_to_decode c ≤ i + surplus → i < rows_to_decode c
      → j < c.shard_bytes / 2 → coefficients (j / 32) (j % 32) i ≡ 0) ↔ (agrees ≡ true)

-- in each column, the located words are values of a polynomial; `agrees` says whether its last coefficients are zero,
-- and if they are, the missing words are restored from it
pub record RestoresWords (c : Configuration) (marks : List Bool) (locator : List ℕ) (surplus : ℕ)
    (old new : ℕ → ℕ → ℕ → ℕ) (agrees : Bool) : Type 0 where
  pub coefficients : ℕ → ℕ → ℕ → ℕ
  pub found : AreCoefficients c marks locator surplus old coefficients agrees
  pub revealed : agrees ≡ true → (k s : ℕ) → k < row_len c.shard_bytes → s < 32
      → AreRevealed c marks locator (coefficients k s) (new k s)

-- the base of direct sums: as many rows of given shards as there are originals
pub record IsBaseOf (c : Configuration) (marks base : List Bool) : Type 0 where
  pub given : (p : ℕ) → is_marked base p ≡ true → is_marked marks p ≡ true
  pub counted : how_many (rows_to_decode c) (is_marked base) ≡ c.original_count

-- each given row outside the base has the direct sums over the rows of the base as its words
abbrev pub AreEqualToSums : Configuration → List Bool → List Bool → List ℕ → (ℕ → ℕ → ℕ → ℕ) → Type 0
AreEqualToSums c marks base locator words =
    (p j : ℕ) → p < rows_to_decode c → is_marked marks p ≡ true → is_marked base p ≡ false → j < c.shard_bytes / 2
    → words (j / 32) (j % 32) p
    ≡ direct_sum (length locator) (is_marked base) (λ x. slice_index locator x) (words (j / 32) (j % 32)) p

-- `agrees` says whether the given rows outside the base are equal to their direct sums, and if they are, each missing
-- original has its direct sums in its row
pub record SumsWords (c : Configuration) (marks base : List Bool) (locator : List ℕ)
    (old new : ℕ → ℕ → ℕ → ℕ) (agrees : Bool) : Type 0 where
  pub checked : AreEqualToSums c marks base locator old ↔ (agrees ≡ true)
  pub summed : agrees ≡ true → (k s i : ℕ) → k < row_len c.shard_bytes → s < 32 → i < c.original_count
      → let p = original_row c.frame i in
      is_marked marks p ≡ false
      → new k s p ≡ direct_sum (length locator) (is_marked base) (λ x. slice_index locator x) (old k s) p

-- the missing words are restored from a polynomial through all given words, or they are direct sums over a base
abbrev pub FindsWords : Configuration → List Bool → ℕ → (ℕ → ℕ → ℕ → ℕ) → (ℕ → ℕ → ℕ → ℕ) → Bool → Type 0
FindsWords c marks surplus old new agrees =
    ((locator : List ℕ) × IsLocatorOf c.frame marks locator × RestoresWords c marks locator surplus old new agrees)
    ⊎ ((base : List Bool) × (locator : List ℕ) × IsBaseOf c marks base × IsLocatorOf c.frame base locator
    × SumsWords c marks base locator old new agrees)

-- the words of the missing originals are found in the chunks of the rows, and the rows of the missing originals hold
-- shards with these words
pub record RestoresShards (c : Configuration) (marks : List Bool) (surplus : ℕ) (old new : Chunks)
    (agrees : Bool) : Type 0 where
  pub words : ℕ → ℕ → ℕ → ℕ
  pub found : FindsWords c marks surplus (word_in old (row_len c.shard_bytes)) words agrees
  pub shards : agrees ≡ true → (i j : ℕ) → i < c.original_count
      → j < c.shard_bytes / 2 → is_marked marks (original_row c.frame i) ≡ false
      → column j (shard_in_order new c.shard_bytes (original_row c.frame i))
      ≡ words (j / 32) (j % 32) (original_row c.frame i)
