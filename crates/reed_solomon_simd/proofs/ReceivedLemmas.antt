-- Received shards in places: entering a shard, and the number of shards.
use Rattle.std.proofs.Common.{rules, ◌≡◌, ℕ, ◌+◌, ◌<◌, ◌≤◌, List, length, set, replicate, Bor, Option, Some, None, ap}
use Rattle.std.proofs.Common.{◌∙◌, arith}
use Rattle.std.proofs.lemmas.List.{length-set, get_or-replicate, get_or_past, length-replicate}
use Rattle.rs_field.specs.code.Column.{Shard, IsShard}
use Rattle.rs_field.specs.code.Given.{Shards, AreWithin, nothing, with_entry, count_below}
use Rattle.rs_field.proofs.code_lemmas.Given.{entered_cases}
use Rattle.rs_field.proofs.code_lemmas.Entries.{count-nothing, count-entered, count_most}
use Rattle.reed_solomon_simd.specs.Received.{given_in}

-- Putting a shard in a place enters it at the index of the place.
pub places-entered : (places : List (Option (Bor Shard))) (index : ℕ) (shard : Bor Shard) → index < length places
    → given_in (set places index (Some shard)) ≡ with_entry (given_in places) index shard.now
unfolding with_entry
places-entered places index shard inside = search rules

-- Putting a shard in an empty place adds one to the number of shards.
pub places-counted : (places : List (Option (Bor Shard))) (index : ℕ) (shard : Bor Shard) → index < length places
    → given_in places index ≡ None
    → count_below (length (set places index (Some shard))) (given_in (set places index (Some shard)))
    ≡ count_below (length places) (given_in places) + 1
places-counted places index shard inside free = search (rules, places-entered, count-entered)

-- If a place is empty, there are fewer shards than places.
pub places-most : (places : List (Option (Bor Shard))) (index : ℕ) (shard : Bor Shard) → index < length places
    → given_in places index ≡ None
    → count_below (length places) (given_in places) + 1 ≤ length places
places-most places index shard inside free =
    let more = places-counted places index shard inside free in
    let most = count_most (length (set places index (Some shard))) (given_in (set places index (Some shard))) in
    omega (arith, more, most, length-set places index (Some shard))

-- Places without shards have zero shards.
pub places-none : (places : List (Option (Bor Shard))) → given_in places ≡ nothing
    → count_below (length places) (given_in places) ≡ 0
places-none places none = ap (count_below (length places)) none ∙ count-nothing (length places)

-- Places that were all made empty hold no shards.
pub places-empty : (n : ℕ) (places : List (Option (Bor Shard))) → places ≡ replicate n None → given_in places ≡ nothing
places-empty n places is = search (rules, get_or-replicate, get_or_past, length-replicate)

-- A map without shards is within any bounds.
pub none-within : (count size : ℕ) (given : Shards) → given ≡ nothing → AreWithin count size given
none-within count size given none = search rules

-- Entering a shard of the size at an index below the count keeps a map within its bounds.
pub entered-within : (count size : ℕ) (given : Shards) (index : ℕ) (shard : Shard) → index < count → IsShard size shard
    → AreWithin count size given → AreWithin count size (with_entry given index shard)
entered-within count size given index shard inside is within = search (rules, entered_cases)
