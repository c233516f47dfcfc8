use Rattle.std.proofs.Common.{◌∙◌, sym}
use Rattle.rs_field.proofs.rows_lemmas.Parts.{part_of_halved, part_of_more}
use Rattle.rs_field.proofs.rows.block.Block.part_rows.Goals as goal

pub returns-then-is_halved : goal.returns-then-is_halved
returns-then-is_halved c = sym (part_of_halved c.args.self.size (sym c.is_halved.ensures ∙ c.if-is_halved.true))

pub returns-else-is_halved : goal.returns-else-is_halved
returns-else-is_halved c = sym (part_of_more c.args.self.size (sym c.is_halved.ensures ∙ c.if-is_halved.false))
