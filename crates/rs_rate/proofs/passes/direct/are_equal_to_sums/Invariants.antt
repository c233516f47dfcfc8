use Rattle.rs_field.specs.rows.Layout.{row_len}
use Rattle.rs_rate.proofs.passes_lemmas.DirectRows.{RowsTested}
use Rattle.rs_rate.proofs.passes.direct.are_equal_to_sums.Given as goal

abbrev pub invariant-loop-y : goal.invariant-loop-y
invariant-loop-y g l =
    RowsTested l.base (row_len l.shard_bytes) l.given l.shard_bytes l.y l.initial.chunks l.chunks l.initial.steps
    l.steps
