use Rattle.std.proofs.Common.{◌≡◌, ℕ, ◌+◌, ◌<◌, [], length, sym, ap, ◌∙◌, subst, arith, inl, inr}
use Rattle.std.proofs.lemmas.Bool.{cases_lt}
use Rattle.std.proofs.lemmas.List.{get_or_past, with_items_is}
use Rattle.rs_field.specs.code.Column.{Shard, shard_at}
use Rattle.rs_field.specs.rows.Rows.{Chunks}
use Rattle.rs_field.specs.words.UpTo.{up_to}
use Rattle.rs_field.proofs.words_lemmas.UpTo.{length-up_to, get-up_to}
use Rattle.rs_rate.specs.passes.Reading.{strip_rows}
use Rattle.rs_rate.specs.rows.ShardRows.{shard_in_order, IsByteSum}
use Rattle.rs_rate.specs.values.ChunkCounts.{chunk_count}
use Rattle.rs_rate.proofs.rows_lemmas.ShardRowsLemmas.{chunk_count-within}
use Rattle.rs_rate.proofs.passes_lemmas.Reading.{recovery_fits}
use Rattle.rs_rate.proofs.objects.strip_encoder.StripEncoder.add_to_recovery.Goals as goal

pub add_at-requires : goal.add_at-requires
add_at-requires c = record {
  room =
      let own = c.args.self.now in
      let fits = recovery_fits own.reads own.configuration own.configured own.can in
      let count = length-up_to own.configuration.recovery_count
      (shard_in_order own.chunks.items own.configuration.shard_bytes) in
      let within = chunk_count-within c.args.index (strip_rows own.reads own.configuration)
      own.configuration.shard_bytes (length own.chunks.items) (omega (arith, fits, count, c.requires.index))
      (omega (arith, own.room)) in
      let size = ap (λ n. chunk_count (c.args.index + 1) n) c.requires.sized in
      omega (arith, size, within, c.as_mut_slice.ensures.len);
}

pub returns-clause-sum : goal.returns-clause-sum
returns-clause-sum c =
    let own = c.args.self.now in
    let r : ℕ = own.configuration.recovery_count in
    let size : ℕ = own.configuration.shard_bytes in
    let inside : c.args.index < c.args.self.now.configuration.recovery_count =
    omega (arith, c.requires.index, length-up_to r (shard_in_order own.chunks.items size)) in
    let now = with_items_is c.args.self.now.chunks c.add_at.new.chunks
    (omega (arith, c.add_at.auto.chunks, c.as_mut_slice.ensures.len)) in
    subst (λ (xs : Chunks). IsByteSum (shard_at (up_to r (shard_in_order own.chunks.items size)) c.args.index)
    c.args.shard.now (shard_at (up_to r (shard_in_order xs size)) c.args.index)) (sym now)
    (subst (λ (x : Shard). IsByteSum x c.args.shard.now
    (shard_at (up_to r (shard_in_order c.add_at.new.chunks size)) c.args.index))
    (sym (get-up_to r (shard_in_order own.chunks.items size) c.args.index [] inside))
    (subst (λ (x : Shard). IsByteSum (shard_in_order own.chunks.items size c.args.index) c.args.shard.now x)
    (sym (get-up_to r (shard_in_order c.add_at.new.chunks size) c.args.index [] inside))
    (subst (λ (n : ℕ). IsByteSum (shard_in_order own.chunks.items n c.args.index) c.args.shard.now
    (shard_in_order c.add_at.new.chunks n c.args.index)) c.requires.sized
    (subst (λ (xs : Chunks). IsByteSum (shard_in_order xs (length c.args.shard.now) c.args.index) c.args.shard.now
    (shard_in_order c.add_at.new.chunks (length c.args.shard.now) c.args.index)) c.as_mut_slice.ensures.value
    c.add_at.ensures.here))))

pub returns-clause-others : goal.returns-clause-others
returns-clause-others c i other =
    let own = c.args.self.now in
    let r : ℕ = own.configuration.recovery_count in
    let size : ℕ = own.configuration.shard_bytes in
    let old = shard_in_order own.chunks.items size in
    let new = shard_in_order c.add_at.new.chunks size in
    let now = with_items_is c.args.self.now.chunks c.add_at.new.chunks
    (omega (arith, c.add_at.auto.chunks, c.as_mut_slice.ensures.len)) in
    let same : shard_in_order c.add_at.new.chunks size i ≡ shard_in_order own.chunks.items size i =
    rw (c.requires.sized, c.as_mut_slice.ensures.value) at (c.add_at.ensures.others i other) in
    ap (λ xs. shard_at (up_to r (shard_in_order xs size)) i) now ∙ elim (cases_lt i r) [
      | inl inside ↦ get-up_to r new i [] inside ∙ same ∙ sym (get-up_to r old i [] inside)
      | inr past ↦
          get_or_past (up_to r new) i [] (omega (arith, past, length-up_to r new))
          ∙ sym (get_or_past (up_to r old) i [] (omega (arith, past, length-up_to r old)))
    ]
