use Rattle.std.proofs.Common.{rules}
use Rattle.reed_solomon_simd.proofs.lent_originals.LentOriginals.encode.Goals as goal

pub encode_strips_with-requires-clause-sized : goal.encode_strips_with-requires-clause-sized
encode_strips_with-requires-clause-sized g c = search rules
