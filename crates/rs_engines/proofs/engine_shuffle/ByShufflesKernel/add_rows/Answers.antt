use Rattle.rs_engines.proofs.StridedRows.{strided_sums, strided_rest}
use Rattle.rs_engines.proofs.engine_shuffle.ByShufflesKernel.add_rows.Goals as goal

pub returns-clause-sums : goal.returns-clause-sums
returns-clause-sums g c is k s d inside small few =
    strided_sums _ _ _ _ _ _ _ _ _ c.requires.fit c.sum_strided.ensures.sums k s d inside small few

pub returns-clause-rest : goal.returns-clause-rest
returns-clause-rest g c k s d past within small few =
    strided_rest _ _ _ _ _ _ _ _ _ c.sum_strided.ensures.sums k s d past within small
