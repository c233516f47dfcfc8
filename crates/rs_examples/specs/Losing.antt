-- Shards that are lost.
use Rattle.std.specs.Prelude.{◌≡◌, ℕ, zero, suc, ◌+◌, Bool, ◌&&◌, not, List, length, map, nat_lt, nat_eq, Some, None}
use Rattle.std.specs.Prelude.{if◌then◌else◌}
use Rattle.std.specs.List.{list_any, filter, enumerate_from, IsDistinct}
use Rattle.std.specs.Borrow.{Bor}
use Rattle.std.specs.declared.vec.Vec.{Vec}
use Rattle.reed_solomon_simd.specs.CodeLaws.{changed_shards}
use Rattle.reed_solomon_simd.specs.Column.{Shard, shard_at}
use Rattle.reed_solomon_simd.specs.Decoder.{DecoderState}
use Rattle.reed_solomon_simd.specs.Given.{Shards, Lists, count_below}
use Rattle.reed_solomon_simd.specs.OneCall.{Items}
use Rattle.reed_solomon_simd.specs.RoundTrip.{lost_of}

-- vectors with their indexes, as shards with their indexes
abbrev pub items_in : {Y : Type 0} → List (ℕ × Vec ℕ Y) → Items
items_in vectors = map (λ item. (item.0, item.1.items)) vectors

-- lent shards with their indexes, as shards with their indexes
abbrev pub items_lent : List (ℕ × Bor Shard) → Items
items_lent lent = map (λ item. (item.0, item.1.now)) lent

-- how many of the shards that were added to a decoder differ from the shards of a codeword with the same index
abbrev pub changed_count : DecoderState → List Shard → List Shard → ℕ
changed_count s message all =
    count_below s.configuration.original_count (changed_shards s.originals message)
    + count_below s.configuration.recovery_count (changed_shards s.recovery all)

-- whether an index is in the list of lost indexes
abbrev pub is_lost : List ℕ → ℕ → Bool
is_lost lost i = list_any (λ index. nat_eq index i) lost

-- the lost shards of a list, by their indexes
abbrev pub lost_at : List Shard → List ℕ → Shards
lost_at shards lost i = if nat_lt i (length shards) && is_lost lost i then Some (shard_at shards i) else None

-- a shard with its index isn't lost
abbrev pub is_left : List ℕ → ℕ × Shard → Bool
is_left lost item = not (is_lost lost item.0)

-- the shards that aren't lost, with their indexes, in order
abbrev pub left_of : List Shard → List ℕ → Items
left_of shards lost = filter (is_left lost) (enumerate_from 0 shards)

-- the number of indexes that are not lost among the n indexes from `from` on
abbrev pub left_from : ℕ → ℕ → List ℕ → ℕ
left_from from zero lost = 0
left_from from (suc n) lost = (if is_lost lost from then 0 else 1) + left_from (from + 1) n lost

-- the number of indexes below n that are not lost
abbrev pub left_below : ℕ → List ℕ → ℕ
left_below n lost = left_from 0 n lost

-- a list has exactly the lost indexes below n, each of them once
pub record ListsLost (n : ℕ) (lost indexes : List ℕ) : Type 0 where
  pub each : (i : ℕ) → list_any (nat_eq i) indexes ≡ (nat_lt i n && is_lost lost i)
  pub once : IsDistinct nat_eq indexes

-- rooms hold exactly the lost shards of a list, those whose indexes no kept item has, in order of index
abbrev pub FillsWithLost : List Shard → Items → List (List ℕ) → Type 0
FillsWithLost shards kept rooms =
    (items : Items) × Lists (lost_of shards kept) items × (rooms ≡ map (λ item. item.1) items)
