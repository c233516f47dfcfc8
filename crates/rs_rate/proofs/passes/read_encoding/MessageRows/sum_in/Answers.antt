use Rattle.std.proofs.Common.{arith}
use Rattle.std.proofs.Math.Nat.{mul-le-mul_right}
use Rattle.rs_rate.specs.passes.Reading.{message_word}
use Rattle.rs_rate.proofs.passes_lemmas.Reading.{front_sums, rows_of_block, spare_rows}
use Rattle.rs_rate.proofs.passes.read_encoding.MessageRows.sum_in.Goals as goal

pub overflow_mul-self : goal.overflow_mul-self
overflow_mul-self g c =
    let own = c.args.self.now in
    let enough = mul-le-mul_right own.len (rows_of_block own.block own.count) in
    omega (arith, enough, c.requires.room)

pub split_at_mut-sums-requires : goal.split_at_mut-sums-requires
split_at_mut-sums-requires g c =
    let own = c.args.self.now in
    let enough = mul-le-mul_right own.len (rows_of_block own.block own.count) in
    omega (arith, enough, c.requires.room)

pub sum_blocks-requires-clause-spare : goal.sum_blocks-requires-clause-spare
sum_blocks-requires-clause-spare g c many further =
    let own = c.args.self.now in
    let twice = spare_rows own.block own.count many further in
    let room = rw twice at c.requires.room in
    omega (arith, c.split_at_mut-sums.ensures.back_len, room)

pub returns-clause-sums : goal.returns-clause-sums
returns-clause-sums g c =
    let own = c.args.self.now in
    let sums = c.sum_blocks.ensures.sums in (
      sums.0,
      sums.1,
      sums.2,
      (λ k s inside symbols.
          front_sums c.sum_blocks.new.sums c.sum_blocks.new.spare own.block sums.0 own.count own.len k s
          (message_word (g.M.StripMessage.shards own.message.now) k s)
          (omega (arith, c.sum_blocks.ensures.length, c.split_at_mut-sums.ensures.front_len)) inside
          (sums.3 k s inside symbols)),
    )
