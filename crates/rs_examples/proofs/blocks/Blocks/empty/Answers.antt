use Rattle.std.proofs.Common.{rules}
use Rattle.std.proofs.lemmas.List.{map-append}
use Rattle.rs_examples.proofs.BlocksBack.{replicate_more}
use Rattle.rs_examples.proofs.blocks.Blocks.empty.Goals as goal

pub loop-preserved : goal.loop-preserved
loop-preserved c = search (rules, map-append, replicate_more)
