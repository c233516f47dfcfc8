use Rattle.std.proofs.Common.{rules}
use Rattle.rs_field.proofs.rows_lemmas.LayoutLemmas.{in_order-same}
use Rattle.rs_rate.proofs.rows_lemmas.ShardRowsLemmas.{part-read}
use Rattle.rs_rate.proofs.passes.sums.summed_piece.Goals as goal

pub returns : goal.returns
returns c = search (rules, in_order-same, part-read)
