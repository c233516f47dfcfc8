use Rattle.rs_field.proofs.words_lemmas.LogWalsh.{AreFirst}
use Rattle.rs_field.proofs.words.tables.log_walsh_table.Given as goal

abbrev pub invariant-loop-places : goal.invariant-loop-places
invariant-loop-places l = AreFirst l.places l.table.items
