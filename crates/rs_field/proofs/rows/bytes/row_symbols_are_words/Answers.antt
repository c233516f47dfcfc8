use Rattle.std.proofs.Common.{rules}
use Rattle.rs_field.specs.rows.View.{cell}
use Rattle.rs_field.proofs.rows.bytes.row_symbols_are_words.Goals as goal

pub returns : goal.returns
unfolding cell
returns c k s i hk hs hi = search rules
