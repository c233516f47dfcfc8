use Rattle.std.proofs.Common.{◌≡◌, ℕ, ◌+◌, ◌*◌, ◌<◌, ◌≤◌, length}
use Rattle.rs_field.specs.rows.Layout.{laid_out}
use Rattle.rs_field.specs.rows.Rows.{chunk}
use Rattle.rs_rate.specs.rows.ShardRows.{shard_from}
use Rattle.rs_rate.proofs.passes.sums.finish_sums.Given as goal

-- The tails of the sums before this one were moved, and the chunks from this sum on are unchanged.
abbrev pub invariant-loop-index : goal.invariant-loop-index
invariant-loop-index l = record {
  room : length l.x ≡ length l.initial.x;
  moved : (d : ℕ) → d < l.index
      → shard_from l.x (d * l.stride) l.piece_len
      ≡ laid_out l.piece_len (λ k. chunk l.initial.x (d * l.stride + k));
  left : (k : ℕ) → l.index * l.stride ≤ k → chunk l.x k ≡ chunk l.initial.x k;
}
