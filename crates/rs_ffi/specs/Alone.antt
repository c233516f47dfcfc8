-- The noted indexes of originals, for a decode without recovery shards.
use Rattle.std.specs.Prelude.{◌≡◌, ℕ, ◌/◌, ◌%◌, List, slice_index_or, nat_eq, if◌then◌else◌}
use Rattle.std.specs.Int.{bit_at}
use Rattle.std.specs.List.{list_any}

-- bit i of the words is 1 if index i was noted, and 0 if it was not
abbrev pub AreNoted : List ℕ → List ℕ → Type 0
AreNoted indexes words =
    (i : ℕ) → bit_at (slice_index_or words (i / 64) 0) (i % 64) ≡ (if list_any (nat_eq i) indexes then 1 else 0)
