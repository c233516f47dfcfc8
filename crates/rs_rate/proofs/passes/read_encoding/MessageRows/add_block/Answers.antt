use Rattle.std.proofs.Common.{arith}
use Rattle.rs_field.specs.rows.Written.{steps_before}
use Rattle.rs_field.proofs.code_lemmas.NextPower.{own_is_power}
use Rattle.rs_field.proofs.words_lemmas.Counting.{counts_within}
use Rattle.rs_rate.proofs.passes_lemmas.Reading.{block_steps, many_rows}
use Rattle.rs_rate.proofs.passes.read_encoding.MessageRows.add_block.Goals as goal

pub add_ifft_of_many-requires-clause-many : goal.add_ifft_of_many-requires-clause-many
add_ifft_of_many-requires-clause-many g c =
    let own = c.args.self.now in
    let points = own.points c.args.start c.requires.aligned c.requires.some in
    many_rows own.block c.if-self-gt4.true (own_is_power own.block own.power (omega (arith, points)))

pub ifft_of_rows-requires-clause-power : goal.ifft_of_rows-requires-clause-power
ifft_of_rows-requires-clause-power g c =
    let own = c.args.self.now in
    let points = own.points c.args.start c.requires.aligned c.requires.some in
    own_is_power own.block own.power (omega (arith, points))

pub returns-else-self-gt4-clause-counts : goal.returns-else-self-gt4-clause-counts
unfolding steps_before
returns-else-self-gt4-clause-counts g c =
    let own = c.args.self.now in
    let points = own.points c.args.start c.requires.aligned c.requires.some in
    let steps = block_steps own.block own.some (omega (arith, c.if-self-gt4.false))
    (own_is_power own.block own.power (omega (arith, points))) in
    counts_within (omega (arith, steps)) c.ifft_of_rows.ensures.counts
