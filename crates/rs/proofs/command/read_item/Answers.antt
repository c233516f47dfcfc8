use Rattle.std.proofs.Common.{arith}
use Rattle.std.proofs.lemmas.Str.Pattern.{strip_prefix_char}
use Rattle.rs.proofs.ReadingLemmas.{item_of-other}
use Rattle.rs.proofs.command.read_item.Goals as goal

pub returns : goal.returns
returns c =
    let no_original = strip_prefix_char 111 c.args.text.now _ c.strip_prefix.ensures.cases (omega arith) in
    let no_recovery = strip_prefix_char 114 c.args.text.now _ c.strip_prefix-2.ensures.cases (omega arith) in
    item_of-other c.args.text.now (rw c.in_default.is at no_original) (rw c.in_default-strip_prefix.is at no_recovery)
