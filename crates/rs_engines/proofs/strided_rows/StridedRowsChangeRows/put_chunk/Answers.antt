use Rattle.rs_engines.proofs.StridedRows.{chunk_put, others_kept}
use Rattle.rs_engines.proofs.strided_rows.StridedRowsChangeRows.put_chunk.Goals as goal

pub returns-clause-here : goal.returns-clause-here
returns-clause-here c s small = chunk_put _ _ _ s _ _ c.requires.0 c.requires.1

pub returns-clause-others : goal.returns-clause-others
returns-clause-others c j s i small other = others_kept _ _ _ j s i _ _ c.requires.0 other
