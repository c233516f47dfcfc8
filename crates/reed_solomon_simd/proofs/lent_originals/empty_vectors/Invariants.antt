use Rattle.std.proofs.Common.{◌≡◌, ◌≤◌, ◌-◌, [], All, vec_len}
use Rattle.reed_solomon_simd.proofs.lent_originals.empty_vectors.Given as goal

-- There are at most `count` vectors so far, and all are empty.
abbrev pub invariant-loop-alloc : goal.invariant-loop-alloc
invariant-loop-alloc l =
    record { few : vec_len l.vectors ≤ l.count; empty : All (λ vector. vector.items ≡ []) l.vectors.items }

abbrev pub decreases-loop-alloc : goal.decreases-loop-alloc
decreases-loop-alloc l = l.count - vec_len l.vectors
