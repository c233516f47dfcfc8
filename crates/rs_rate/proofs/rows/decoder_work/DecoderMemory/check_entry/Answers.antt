use Rattle.std.proofs.Common.{sym, ◌∙◌}
use Rattle.rs_rate.specs.rows.Marks.{given_marks}
use Rattle.rs_rate.specs.rows.ShardRows.{shard_laid_out}
use Rattle.rs_rate.proofs.rows_lemmas.AddedShards.{none_of}
use Rattle.rs_rate.proofs.rows_lemmas.RowMaps.{some-marked}
use Rattle.rs_rate.specs.rows.Entering.{given_rows}
use Rattle.rs_rate.proofs.rows.decoder_work.DecoderMemory.check_entry.Goals as goal

pub returns-clause-free : goal.returns-clause-free
returns-clause-free c =
    let own = c.args.self.now in
    none_of (given_rows own c.args.shard_bytes c.args.row)
    (some-marked (given_marks own.marks) (shard_laid_out own.chunks.items c.args.shard_bytes) c.args.row
    ∙ sym c.is_given.ensures ∙ c.if-is_given.false)
