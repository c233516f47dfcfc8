use Rattle.std.proofs.lemmas.List.{get_or-replicate}
use Rattle.rs_tests.proofs.locators.located.Goals as goal

pub loop-y-init : goal.loop-y-init
loop-y-init g c = λ k hk ht. get_or-replicate 65536 k 0 0 ht
