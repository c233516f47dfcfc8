use Rattle.std.proofs.Common.{rules, ◌≡◌, ℕ, ◌/◌, length, inl, inr, arith}
use Rattle.std.proofs.lemmas.Bool.{cases_lt}
use Rattle.rs_rate.proofs.rows_lemmas.ByteSums.{bytes-first, bytes-last}
use Rattle.rs_rate.proofs.rows.shard_rows.add_bytes.Goals as goal

pub returns-then-not-is_empty : goal.returns-then-not-is_empty
returns-then-not-is_empty c = λ b inside.
    let n : ℕ = length c.as_chunks.result.0.now in
    let front = c.as_chunks.ensures.front_len in
    let back = c.as_chunks.ensures.back_len in
    let long : length c.xor.new.xs ≡ length c.as_chunks.result.0.now = search rules in
    elim (cases_lt (b / 64) n) [
      | inl early ↦
          bytes-first n b c.args.shard.now c.args.row.now c.split_at_mut-chunks.result.0.now c.as_chunks.result.0.now
          c.xor.new.xs c.xor-then-not-is_empty.new.xs early long (search rules) (search rules)
          (λ k i h small. c.xor.ensures.bytes k i (search rules) small)
      | inr late ↦
          bytes-last n b c.args.shard.now c.as_chunks.result.1.now c.args.row.now c.split_at_mut-chunks.result.1.now
          c.xor.new.xs c.xor-then-not-is_empty.new.xs c.chunk_of.result late (omega (arith, inside, front, back))
          (omega (arith, back)) long (search rules) (search rules) c.chunk_of.ensures
          (λ i small. c.xor-then-not-is_empty.ensures.bytes 0 i (search rules) small)
    ]

pub returns-else-not-is_empty : goal.returns-else-not-is_empty
returns-else-not-is_empty c = λ b inside.
    let n : ℕ = length c.as_chunks.result.0.now in
    let front = c.as_chunks.ensures.front_len in
    let back = c.as_chunks.ensures.back_len in
    let none : length c.as_chunks.result.1.now ≡ 0 = search rules in
    let long : length c.xor.new.xs ≡ length c.as_chunks.result.0.now = search rules in
    bytes-first n b c.args.shard.now c.args.row.now c.split_at_mut-chunks.result.0.now c.as_chunks.result.0.now
    c.xor.new.xs c.split_at_mut-chunks.result.1.now (omega (arith, inside, front, back, none)) long (search rules)
    (search rules) (λ k i h small. c.xor.ensures.bytes k i (search rules) small)
