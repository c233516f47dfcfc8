use Rattle.std.proofs.Common.{rules}
use Rattle.rs_volumes.proofs.DataLemmas.{fields_spelled_further}
use Rattle.rs_volumes.proofs.writing.bytes_of.Goals as goal

pub put_field-requires : goal.put_field-requires
put_field-requires c =
    rw c.field-item.is (c.requires c.loop-field.field-index _ c.loop-field-test.true)

pub loop-field-preserved : goal.loop-field-preserved
loop-field-preserved c = search (rules, fields_spelled_further)
