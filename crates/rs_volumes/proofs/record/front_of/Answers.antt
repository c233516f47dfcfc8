use Rattle.std.proofs.Common.{rules}
use Rattle.rs_volumes.proofs.Fields.{number_length, magic_length}
use Rattle.rs_volumes.proofs.record.front_of.Goals as goal

pub digest_in-requires : goal.digest_in-requires
digest_in-requires c = search (rules, magic_length, number_length)
