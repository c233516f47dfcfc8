use Rattle.std.proofs.Common.{rules}
use Rattle.rs_field.proofs.code_lemmas.Columns.{column-chunk, column-tail, shard_from_columns}
use Rattle.rs_field.proofs.code_lemmas.Unique.{codes_unique, recovery_unique}
use Rattle.rs_field.proofs.code.laws.code_laws.Goals as goal

pub returns : goal.returns
returns c = search (rules, column-chunk, column-tail, shard_from_columns, codes_unique, recovery_unique)
