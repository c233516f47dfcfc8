use Rattle.std.proofs.Common.{◌≡◌, ℕ, ◌+◌, ◌-◌, replicate, subst, arith}
use Rattle.rs_field.specs.rows.View.{cell}
use Rattle.rs_field.proofs.rows.engine.Engine.ifft_given.Goals as goal

pub ifft-requires-clause-zeros : goal.ifft-requires-clause-zeros
ifft-requires-clause-zeros g c i k hk from to =
    let r : ℕ = i - c.args.pos in
    let at : c.args.pos + r ≡ i = omega arith in
    subst (λ (p : ℕ). cell c.args.data.now k p ≡ replicate 64 0) at
    (c.requires.zeros r k hk (omega arith) (c.marked_end-end.ensures.past r (omega arith)))
