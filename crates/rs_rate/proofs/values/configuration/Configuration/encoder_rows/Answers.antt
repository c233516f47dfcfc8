use Rattle.std.proofs.Common.{◌<◌, sym, ◌∙◌, subst, arith}
use Rattle.std.proofs.lemmas.Nat.{pow_pos}
use Rattle.rs_rate.specs.values.Configured.{block_of}
use Rattle.rs_rate.proofs.values_lemmas.ConfiguredLemmas.{HasBlocks, blocks-known}
use Rattle.rs_rate.proofs.values_lemmas.PowerLemmas.{next_multiple-is}
use Rattle.rs_rate.proofs.values.configuration.Configuration.encoder_rows.Goals as goal
use Rattle.rs_rate.proofs.values.configuration.Configuration.encoder_rows.Goals.{After-block_rows, then-self, else-self}

-- The blocks of the rows that are coded.
blocks : (c : After-block_rows) → HasBlocks c.args.self c.if-self.coded
blocks c = elim c.if-self.branch [
  | then-self w ↦ subst (HasBlocks c.args.self) (sym w.coded-is)
      (blocks-known c.requires w.if-self.true)
  | else-self w ↦ subst (HasBlocks c.args.self) (sym w.coded-is)
      (blocks-known c.requires w.if-self.false)
]

pub next_multiple_of_power-requires-clause-power : goal.next_multiple_of_power-requires-clause-power
next_multiple_of_power-requires-clause-power c =
    let known = blocks (goal.at.next_multiple_of_power-requires-clause-power c).After-block_rows in
    (known.power.0, c.block_rows.ensures ∙ known.power.1)

pub next_multiple_of_power-requires-clause-fits : goal.next_multiple_of_power-requires-clause-fits
next_multiple_of_power-requires-clause-fits c =
    let known = blocks (goal.at.next_multiple_of_power-requires-clause-fits c).After-block_rows in
    omega (arith, known.few, c.block_rows.ensures)

pub returns : goal.returns
returns c =
    let known = blocks (goal.at.returns c).After-block_rows in
    let positive = pow_pos known.power.0 in
    let some : 0 < block_of c.args.self = omega (arith, positive, known.power.1) in
    let e = c.next_multiple_of_power.ensures in
    next_multiple-is c.if-self.coded (block_of c.args.self) c.next_multiple_of_power.result some e.lower_bound
    (omega (arith, e.upper_bound, c.block_rows.ensures)) (rw c.block_rows.ensures at e.multiple) ∙ known.rows
