use Rattle.std.proofs.Common.{rules}
use Rattle.rs_field.proofs.rows_lemmas.LayoutLemmas.{length-in_order}
use Rattle.rs_rate.specs.passes.BaseSum.{word_beside}
use Rattle.rs_rate.proofs.passes_lemmas.DirectRows.{row_end-whole, column-whole}
use Rattle.rs_rate.proofs.passes.direct.RowsBesideBasePieces.piece.Goals as goal

pub shard_at-requires : goal.shard_at-requires
shard_at-requires c = search (rules, row_end-whole)

pub shard_at-requires-else-row-self : goal.shard_at-requires-else-row-self
shard_at-requires-else-row-self c = search (rules, row_end-whole)

pub returns-then-row-self-clause-length : goal.returns-then-row-self-clause-length
returns-then-row-self-clause-length c = search (rules, length-in_order)

pub returns-then-row-self-clause-words : goal.returns-then-row-self-clause-words
unfolding word_beside
returns-then-row-self-clause-words c j inside = search (rules, column-whole)

pub returns-else-row-self-clause-length : goal.returns-else-row-self-clause-length
returns-else-row-self-clause-length c = search (rules, length-in_order)

pub returns-else-row-self-clause-words : goal.returns-else-row-self-clause-words
unfolding word_beside
returns-else-row-self-clause-words c j inside = search (rules, column-whole)
