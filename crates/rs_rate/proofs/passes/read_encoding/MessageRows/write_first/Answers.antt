use Rattle.std.proofs.Common.{refl, sym, ap, ◌∙◌, arith, zero-add}
use Rattle.std.proofs.Math.Nat.{zero-mod}
use Rattle.rs_field.specs.declared.rows.reading.Writing.{Writing}
use Rattle.rs_field.specs.rows.Written.{steps_before}
use Rattle.rs_field.proofs.code_lemmas.NextPower.{own_is_power}
use Rattle.rs_field.proofs.rows_lemmas.Written.{replacing}
use Rattle.rs_field.proofs.words_lemmas.Counting.{counts_within}
use Rattle.rs_rate.specs.passes.Coding.{zero_padded}
use Rattle.rs_rate.specs.passes.Reading.{message_word}
use Rattle.rs_rate.proofs.passes_lemmas.Reading.{many_rows}
use Rattle.rs_rate.proofs.passes.read_encoding.MessageRows.write_first.Goals as goal

pub ifft_of_many-requires-clause-many : goal.ifft_of_many-requires-clause-many
ifft_of_many-requires-clause-many g c =
    let own = c.args.self.now in
    let points = own.points 0 (zero-mod own.block) own.originals in
    many_rows own.block c.if-self-gt4.true (own_is_power own.block own.power (omega (arith, points)))

pub ifft_of_rows-requires-clause-power : goal.ifft_of_rows-requires-clause-power
ifft_of_rows-requires-clause-power g c =
    let own = c.args.self.now in
    let points = own.points 0 (zero-mod own.block) own.originals in
    own_is_power own.block own.power (omega (arith, points))

pub returns-then-self-gt4-clause-written : goal.returns-then-self-gt4-clause-written
returns-then-self-gt4-clause-written g c k s inside symbols =
    let own = c.args.self.now in
    let words = message_word (g.M.StripMessage.shards own.message.now) k s in
    replacing Writing.Replacing own.block own.block own.len k s (zero_padded own.count words) c.args.sums.now
    c.ifft_of_many.new.x refl (λ i low. ap (zero_padded own.count words) (sym (zero-add i))
    ∙ c.ifft_of_many.ensures.written k s inside symbols i low)

pub returns-else-self-gt4-clause-counts : goal.returns-else-self-gt4-clause-counts
unfolding steps_before
returns-else-self-gt4-clause-counts g c = counts_within (omega arith) c.ifft_of_rows.ensures.counts
