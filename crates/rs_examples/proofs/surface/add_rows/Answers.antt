use Rattle.std.proofs.Common.{arith}
use Rattle.rs_examples.proofs.surface.add_rows.Goals as goal

pub returns : goal.returns
returns c = λ k s in_row in_chunk. c.xor_within.ensures.sums 0 k s (omega arith) in_row in_chunk
