use Rattle.std.proofs.Common.{◌≡◌, length, map}
use Rattle.reed_solomon_simd.proofs.MessageLemmas.{AreCut}
use Rattle.reed_solomon_simd.proofs.messages.split.Given as goal

-- The shards so far were cut from the message, and the rest of its bytes is left.
abbrev pub invariant-loop : goal.invariant-loop
invariant-loop l =
    record {
      cut : AreCut l.bytes l.size (map (λ shard. shard.items) l.shards.items) l.rest;
      number : length l.shards.items ≡ l.counter;
    }
