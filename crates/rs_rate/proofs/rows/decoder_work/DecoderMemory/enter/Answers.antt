use Rattle.std.proofs.Common.{rules, length}
use Rattle.std.proofs.lemmas.List.{with_items_is}
use Rattle.std.specs.Vec.{with_items}
use Rattle.rs_rate.specs.rows.Marks.{given_marks}
use Rattle.rs_rate.specs.rows.ShardRows.{shard_laid_out}
use Rattle.rs_rate.proofs.rows_lemmas.RowMaps.{rows-entered}
use Rattle.rs_rate.proofs.rows.decoder_work.DecoderMemory.enter.Goals as goal

pub returns-clause-rows : goal.returns-clause-rows
returns-clause-rows c =
    let old = c.args.self.now in
    let size = length c.args.shard.now in
    rows-entered (given_marks old.marks) (given_marks c.mark_given.new.self) (shard_laid_out old.chunks.items size)
    (shard_laid_out (with_items old.chunks c.insert_at.new.chunks).items size) c.args.row c.args.shard.now
    c.mark_given.ensures.here
    c.mark_given.ensures.others (search (rules, with_items_is)) (search (rules, with_items_is))

pub returns-clause-laid : goal.returns-clause-laid
returns-clause-laid c = search rules
