use Rattle.std.proofs.Common.{sym}
use Rattle.rs_engines.proofs.StridedRows.{strided_inside}
use Rattle.rs_engines.proofs.strided_rows.StridedRowsChangeRows.chunk.Goals as goal

pub returns-clause-value : goal.returns-clause-value
returns-clause-value c s small = sym (strided_inside _ _ _ s _ c.requires.0)
