use Rattle.std.proofs.Common.{rules, ◌≡◌, ◌+◌, ◌-◌, ◌*◌, length}
use Rattle.rs_field.proofs.rows_lemmas.ByteChunks.{after_chunk, other_chunks}
use Rattle.rs_field.proofs.rows.byte_chunks.put_chunk.Goals as goal

pub returns-clause-others : goal.returns-clause-others
returns-clause-others c j s small other =
    let long : length c.copy_from_slice.new.self ≡ c.args.k * 64 + 64 - c.args.k * 64 = search rules in
    other_chunks c.args.bytes.now c.copy_from_slice.new.self c.args.k c.requires long j s small other

pub returns-clause-rest : goal.returns-clause-rest
returns-clause-rest c n later =
    let long : length c.copy_from_slice.new.self ≡ c.args.k * 64 + 64 - c.args.k * 64 = search rules in
    after_chunk c.args.bytes.now c.copy_from_slice.new.self c.args.k n c.requires long later
