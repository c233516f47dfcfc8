use Rattle.std.proofs.Common.{rules}
use Rattle.rs_field.proofs.rows_lemmas.Symbols.{byte_fits}
use Rattle.rs_field.proofs.rows.bytes.symbols_are_words.Goals as goal

pub returns : goal.returns
returns c k s q r = search (rules, byte_fits)
