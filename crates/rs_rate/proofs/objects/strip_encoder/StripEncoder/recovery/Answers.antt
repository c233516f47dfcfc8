use Rattle.std.proofs.Common.{[], arith, ap, length, ◌∙◌, sym}
use Rattle.rs_field.proofs.words_lemmas.UpTo.{length-up_to, get-up_to}
use Rattle.rs_rate.specs.passes.Reading.{strip_rows}
use Rattle.rs_rate.specs.rows.ShardRows.{shard_in_order}
use Rattle.rs_rate.proofs.rows_lemmas.ShardRowsLemmas.{chunk_count-within}
use Rattle.rs_rate.proofs.passes_lemmas.Reading.{recovery_fits}
use Rattle.rs_rate.proofs.objects.strip_encoder.StripEncoder.recovery.Goals as goal

pub returns-then-index-self : goal.returns-then-index-self
returns-then-index-self c =
    let own = c.args.self.now in
    let count = length-up_to own.configuration.recovery_count
    (shard_in_order own.chunks.items own.configuration.shard_bytes) in
    omega (arith, count, c.if-index-self.true)

pub shard_at-requires : goal.shard_at-requires
shard_at-requires c =
    let own = c.args.self.now in
    let slice = ap length c.as_slice.ensures.value in
    let fits = recovery_fits own.reads own.configuration own.configured own.can in
    let within = chunk_count-within c.args.index (strip_rows own.reads own.configuration) own.configuration.shard_bytes
    (length own.chunks.items) (omega (arith, fits, c.if-index-self.false)) (omega (arith, own.room)) in
    omega (arith, slice, within)

pub returns : goal.returns
returns c =
    let own = c.args.self.now in
    let f = shard_in_order own.chunks.items own.configuration.shard_bytes in
    let count = length-up_to own.configuration.recovery_count f in (
      omega (arith, count, c.if-index-self.false),
      c.shard_at.ensures
          ∙ ap (λ xs. shard_in_order xs own.configuration.shard_bytes c.args.index) c.as_slice.ensures.value
          ∙ sym (get-up_to own.configuration.recovery_count f c.args.index [] c.if-index-self.false),
    )
