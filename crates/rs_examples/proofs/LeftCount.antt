-- The number of shards that are left.
use Rattle.std.proofs.Common.{◌≡◌, ℕ, ◌+◌, Bool, true, false, cond, not, nat_eq, List, [], ◌∷◌, length, refl, ap, ◌∙◌}
use Rattle.std.proofs.Common.{arith}
use Rattle.std.specs.List.{enumerate_from, filter, list_any}
use Rattle.reed_solomon_simd.specs.Column.{Shard}
use Rattle.reed_solomon_simd.specs.OneCall.{Items}
use Rattle.rs_examples.specs.Losing.{is_left, left_from, left_of, left_below}

-- From one number on, the number of shards that are left is the number of indexes that are not lost.
left-count : (n : ℕ) (lost : List ℕ) (shards : List Shard)
    → length (filter (is_left lost) (enumerate_from n shards)) ≡ left_from n (length shards) lost
left-count n lost [] = refl
left-count n lost (x ∷ shards) =
    by_test (list_any (λ index. nat_eq index n) lost) (filter (is_left lost) (enumerate_from (n + 1) shards))
    (left-count (n + 1) lost shards)
  where
    by_test : (gone : Bool) (rest : Items) → length rest ≡ left_from (n + 1) (length shards) lost
        → length (cond (not gone) ((n, x) ∷ rest) rest) ≡ cond gone 0 1 + left_from (n + 1) (length shards) lost
    by_test true rest same = omega arith
    by_test false rest same = omega arith

-- The number of shards that are left, if the number of all shards is known.
pub left-number : (lost : List ℕ) (shards : List Shard) {count : ℕ} → length shards ≡ count
    → length (left_of shards lost) ≡ left_below count lost
left-number lost shards long = left-count 0 lost shards ∙ ap (λ n. left_below n lost) long
