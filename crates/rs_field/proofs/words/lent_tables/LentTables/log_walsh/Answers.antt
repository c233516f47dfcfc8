use Rattle.std.proofs.Common.{refl}
use Rattle.rs_field.proofs.words.lent_tables.LentTables.log_walsh.Goals as goal

pub log_walsh_below-requires-clause-power : goal.log_walsh_below-requires-clause-power
log_walsh_below-requires-clause-power c = (16, refl)
