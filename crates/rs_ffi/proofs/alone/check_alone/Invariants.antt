use Rattle.std.proofs.Common.{◌≡◌, ℕ, List, length, drop, []}
use Rattle.rs_ffi.specs.Alone.{AreNoted}
use Rattle.rs_ffi.proofs.AloneLemmas.{noting}
use Rattle.rs_ffi.proofs.alone.check_alone.Given as goal

-- The indexes of the shards so far are noted. Noting the indexes of all shards has the same outcome as noting the
-- remaining indexes after these.
abbrev pub invariant-loop-shard : goal.invariant-loop-shard
invariant-loop-shard l =
    (so_far : List ℕ) × AreNoted so_far l.bits × (length so_far ≡ l.shard-index)
    × (noting l.original_count [] l.originals ≡ noting l.original_count so_far (drop l.shard-index l.originals))
