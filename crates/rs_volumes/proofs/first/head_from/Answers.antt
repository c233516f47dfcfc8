use Rattle.std.proofs.Common.{rules}
use Rattle.rs_volumes.proofs.Fields.{number_length, fixed_length, magic_length}
use Rattle.rs_volumes.proofs.first.head_from.Goals as goal

pub digest_in-requires : goal.digest_in-requires
digest_in-requires c = search (rules, magic_length, fixed_length, number_length)
