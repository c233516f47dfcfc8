use Rattle.std.proofs.Common.{ap, ◌∙◌, take}
use Rattle.rs_field.proofs.rows_lemmas.LayoutLemmas.{take-flat}
use Rattle.rs_field.proofs.rows.layout.shard_of.Goals as goal

pub returns : goal.returns
returns c =
    ap (take c.args.shard_bytes) c.as_flattened-bytes.ensures.value
    ∙ take-flat c.args.shard_bytes c.args.row.now c.told-row c.requires
