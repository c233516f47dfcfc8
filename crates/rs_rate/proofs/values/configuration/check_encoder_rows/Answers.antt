use Rattle.std.proofs.Common.{rules, ◌≡◌, ◌^◌, ℕ, Bool, cond, Ok, Err, sym, ap, ◌∙◌}
use Rattle.std.proofs.lemmas.Bool.{lt-leb, le-leb}
use Rattle.rs_field.specs.declared.code.error.Error.TheVariants.{OutOfMemory}
use Rattle.rs_field.specs.code.Frame.{encoder_rows}
use Rattle.rs_rate.specs.values.RowCounts.{encoder_rows_set_up}
use Rattle.rs_rate.specs.values.ChunkCounts.{chunk_count, memory_outcome}
use Rattle.rs_rate.proofs.values_lemmas.ConfiguredLemmas.{asked_rows}
use Rattle.rs_rate.proofs.values.configuration.check_encoder_rows.Goals as goal

pub returns-in_err-chunk_count : goal.returns-in_err-chunk_count
returns-in_err-chunk_count g c =
    let made = c.in_ok-new.ensures in
    let is = asked_rows encoder_rows encoder_rows_set_up made in
    let rows = c.encoder_rows-rows.ensures ∙ is.count in
    let led = is.answer ∙ ap (λ (n : ℕ). memory_outcome (chunk_count n c.args.shard_bytes)) (sym rows) in
    let refused : c.from_residual-in_err-chunk_count.result ≡ Err OutOfMemory = search rules in
    refused ∙ sym (led ∙ ap (λ (b : Bool). cond b (Err OutOfMemory) (Ok tt))
    (le-leb (2 ^ 64) _ c.in_err-chunk_count.ensures.1))

pub returns : goal.returns
returns g c =
    let made = c.in_ok-new.ensures in
    let is = asked_rows encoder_rows encoder_rows_set_up made in
    let rows = c.encoder_rows-rows.ensures ∙ is.count in
    let led = is.answer ∙ ap (λ (n : ℕ). memory_outcome (chunk_count n c.args.shard_bytes)) (sym rows) in
    let n = c.in_ok-chunk_count.ensures.0 in
    sym (led ∙ ap (λ (b : Bool). cond b (Err OutOfMemory) (Ok tt))
    (lt-leb (2 ^ 64) _ (rw n at c.in_ok-chunk_count.ensures.1)))
