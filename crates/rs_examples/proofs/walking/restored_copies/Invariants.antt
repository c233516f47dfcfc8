use Rattle.std.proofs.Common.{◌≡◌, ◌++◌, map}
use Rattle.rs_examples.proofs.walking.restored_copies.Given as goal

-- The copies so far and the remaining originals are all restored originals.
abbrev pub invariant-loop-index : goal.invariant-loop-index
invariant-loop-index l =
    map (λ item. (item.0, item.1.items)) l.originals.items ++ l.index-iterator ≡ l.initial.index-iterator
