use Rattle.std.proofs.Common.{rules, sym, subst, arith}
use Rattle.std.proofs.lemmas.List.{with_items_is}
use Rattle.rs_field.specs.code.Code.{AreRecovery}
use Rattle.rs_field.specs.code.Configuration.{configuration}
use Rattle.rs_field.specs.code.Counts.{default_rate}
use Rattle.rs_field.specs.rows.Rows.{Chunks}
use Rattle.rs_rate.specs.declared.values.configuration.Configuration.{Configuration}
use Rattle.rs_rate.specs.passes.Reading.{strip_rows}
use Rattle.rs_rate.specs.rows.EncoderView.{shards_in}
use Rattle.rs_rate.specs.values.Configured.{rate_of}
use Rattle.rs_rate.proofs.passes_lemmas.EncodeCounting.{steps_alike}
use Rattle.rs_rate.proofs.passes_lemmas.Reading.{reads_shorter}
use Rattle.rs_rate.proofs.rows_lemmas.ShardRowsLemmas.{chunk_count-size}
use Rattle.rs_rate.proofs.values_lemmas.ConfiguredLemmas.{narrowed}
use Rattle.rs_rate.proofs.values_lemmas.RateLemmas.{shards_alike}
use Rattle.rs_rate.proofs.objects.strip_encoder.StripEncoder.encode.Goals as goal

pub encode_message-requires-clause-room : goal.encode_message-requires-clause-room
encode_message-requires-clause-room g c =
    let own = c.args.self.now in
    let less = chunk_count-size (strip_rows own.reads own.configuration) c.args.bytes own.configuration.shard_bytes
    c.requires.shorter in
    omega (arith, less, own.room, c.as_mut_slice-chunks.ensures.len)

pub invariant_of-self : goal.invariant_of-self
invariant_of-self g c =
    let own = c.args.self.now in
    let less = chunk_count-size (strip_rows own.reads own.configuration) c.args.bytes own.configuration.shard_bytes
    c.requires.shorter in
    record {
      configured = narrowed own.configured c.args.bytes c.requires.some c.requires.even;
      alike = own.alike;
      can = λ reads. reads_shorter (own.can reads) c.args.bytes c.requires.shorter (c.requires.whole reads);
      room = omega (arith, less, own.room);
    }

pub returns-clause-coded : goal.returns-clause-coded
returns-clause-coded g c =
    let own = c.args.self.now in
    let now : Configuration = record own.configuration { shard_bytes = c.args.bytes } in
    shards_alike (rate_of own.configuration) default_rate own.configuration.original_count
    own.configuration.recovery_count c.args.bytes (g.M.StripMessage.shards c.args.message.now) _ own.alike
    (subst (λ (xs : Chunks). AreRecovery (configuration (rate_of own.configuration) own.configuration.original_count
    own.configuration.recovery_count c.args.bytes) (g.M.StripMessage.shards c.args.message.now)
    (shards_in now xs)) (sym (with_items_is own.chunks
    c.encode_message.new.chunks (omega (arith, c.encode_message.auto.chunks, c.as_mut_slice-chunks.ensures.len))))
    c.encode_message.ensures.recovery)

pub returns-clause-counts : goal.returns-clause-counts
returns-clause-counts g c = search (rules, steps_alike)
