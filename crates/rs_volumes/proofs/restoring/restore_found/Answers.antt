use Rattle.std.proofs.Common.{rules, refl, inl}
use Rattle.rs_volumes.specs.Found.{NamesLostOf}
use Rattle.rs_volumes.proofs.restoring.restore_found.Goals as goal

pub returns-in-Some-first_lost-clause-right : goal.returns-in-Some-first_lost-clause-right
returns-in-Some-first_lost-clause-right g c =
    let error = c.in-Some-first_lost.error in
    let names : NamesLostOf c.args.shape c.args.plan.now c.args.found.now.places.items error = search rules in
    inl (error, refl, names)
