use Rattle.std.proofs.Common.{ℕ, ◌^◌, ◌<◌, ◌≤◌, Option, Some, None, refl, arith}
use Rattle.std.specs.Prelude.{IsSome, MatchOption}
use Rattle.reed_solomon_simd.specs.Messages.{HoldsMessage, IsLeastSize}
use Rattle.reed_solomon_simd.proofs.MessageLemmas.{longer-holds}
use Rattle.rs_examples.proofs.surface.size_of_shards.Goals as goal

some_size : (k total : ℕ) (o : Option ℕ)
    → MatchOption o ((size : ℕ) → HoldsMessage k total size → 2 ^ 64 ≤ size) (IsLeastSize k total)
    → 0 < k → total < 2 ^ 63 → IsSome o
some_size k total None none some few =
    let large = none _ (longer-holds total k some) in absurd (omega arith)
some_size k total (Some size) least some few = refl

pub returns-clause-small : goal.returns-clause-small
returns-clause-small c = some_size c.args.original_count c.args.total c.shard_bytes.result c.shard_bytes.ensures
