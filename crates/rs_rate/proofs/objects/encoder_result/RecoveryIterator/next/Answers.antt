use Rattle.std.proofs.Common.{rules, sym, ◌∙◌, arith}
use Rattle.rs_rate.proofs.rows_lemmas.ResultLemmas.{left-past, lends_next, recovery_count-few}
use Rattle.rs_rate.proofs.objects.encoder_result.RecoveryIterator.next.Goals as goal

pub returns-in_err-shard-clause-steps : goal.returns-in_err-shard-clause-steps
returns-in_err-shard-clause-steps c =
    let none = sym c.self.view_is ∙ left-past c.self.inside.rows.now c.self.inside.next_index c.in_err-shard.ensures in
    rw c.from_residual.ensures (none, none)

pub overflow_add-self : goal.overflow_add-self
overflow_add-self c = omega (arith, c.in_ok-shard.ensures.0, recovery_count-few c.self.inside.rows.now)

pub returns-clause-steps : goal.returns-clause-steps
returns-clause-steps c =
    sym c.self.view_is ∙ lends_next c.self.inside.rows.now c.self.inside.next_index _ c.in_ok-shard.ensures.0
    c.in_ok-shard.ensures.1

pub returns-clause-goes : goal.returns-clause-goes
returns-clause-goes c = search (rules, lends_next)
