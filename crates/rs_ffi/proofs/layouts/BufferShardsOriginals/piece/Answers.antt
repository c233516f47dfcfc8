use Rattle.std.proofs.Common.{rules, ◌≡◌, ◌+◌, ◌-◌, take, drop, ℕ, List}
use Rattle.rs_ffi.proofs.CutLemmas.{cut-length, cut-at}
use Rattle.rs_ffi.proofs.layouts.BufferShardsOriginals.piece.Goals as goal

pub overflow_mul-at : goal.overflow_mul-at
overflow_mul-at c = search (rules, cut-length)

pub overflow_add-at : goal.overflow_add-at
overflow_add-at c = search (rules, cut-length)

pub slice_bounds-piece_of-end : goal.slice_bounds-piece_of-end
slice_bounds-piece_of-end c = search (rules, cut-length)

-- The part of the buffer from the place of a shard on, as long as a shard, is the shard.
part : (size at : ℕ) (bytes : List ℕ) → take (at + size - at) (drop at bytes) ≡ take size (drop at bytes)
part size at bytes = search rules

pub piece_of-requires-clause-inside : goal.piece_of-requires-clause-inside
piece_of-requires-clause-inside c = search (rules, cut-length, cut-at)

pub returns : goal.returns
returns c = search (rules, cut-length, cut-at)
