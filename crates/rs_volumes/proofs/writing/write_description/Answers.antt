use Rattle.std.proofs.Common.{rules}
use Rattle.rs_volumes.proofs.CheckLemmas.{each_is_short}
use Rattle.rs_volumes.proofs.writing.write_description.Goals as goal

pub put_fields-requires-clause-each : goal.put_fields-requires-clause-each
put_fields-requires-clause-each c = search (rules, each_is_short)
