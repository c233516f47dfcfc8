use Rattle.std.proofs.Common.{◌≡◌, ℕ, ◌*◌, ◌<◌, ◌≤◌, ◌⊎◌, replicate}
use Rattle.rs_field.specs.rows.Rows.{chunk}
use Rattle.rs_field.proofs.rows.shards.ShardsRefMut.zero.Given as goal

abbrev pub invariant-loop-k : goal.invariant-loop-k
invariant-loop-k l = let start = l.fn.range.start * l.len in
    record {
      zeros : (i : ℕ) → start ≤ i → i < l.k → chunk l.chunks i ≡ replicate 64 0;
      others : (i : ℕ) → (i < start) ⊎ (l.k ≤ i) → chunk l.chunks i ≡ chunk l.initial.chunks i;
    }
