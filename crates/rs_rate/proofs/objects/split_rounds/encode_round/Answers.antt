use Rattle.std.proofs.Common.{rules, sym, ◌∙◌, arith}
use Rattle.std.proofs.lemmas.Result.{err_from_is_err_and}
use Rattle.rs_field.proofs.words_lemmas.UpTo.{length-up_to}
use Rattle.rs_rate.specs.values.Configured.{rate_of}
use Rattle.rs_rate.specs.rows.EncoderView.{encoder_state, given_originals, lent_shards}
use Rattle.rs_rate.proofs.passes_lemmas.EncodeCounting.{steps_alike}
use Rattle.rs_rate.proofs.values_lemmas.RateLemmas.{shards_alike}
use Rattle.rs_rate.specs.rows.ShardRows.{shard_laid_out}
use Rattle.rs_rate.proofs.rows_lemmas.StateLemmas.{after_encode-refused, encode_answers-refused, message-whole}
use Rattle.rs_rate.proofs.rows_lemmas.StateLemmas.{after_encode-made, encode_answers-made, encoder_state-fresh}
use Rattle.rs_rate.proofs.objects.split_rounds.encode_round.Goals as goal

pub returns-in_err-check_all_given-clause-answer : goal.returns-in_err-check_all_given-clause-answer
returns-in_err-check_all_given-clause-answer g c =
    let state = encoder_state g.C.RateMarker.rate c.args.encoder.now.rows in
    let p = err_from_is_err_and c.from_residual.result c.from_residual.ensures.1 in
    rw (p.1, p.2) (encode_answers-refused state _ (c.in_err-check_all_given.ensures g.C.RateMarker.rate))

pub returns-in_err-check_all_given-clause-state : goal.returns-in_err-check_all_given-clause-state
returns-in_err-check_all_given-clause-state g c =
    after_encode-refused (encoder_state g.C.RateMarker.rate c.args.encoder.now.rows) _
    (c.in_err-check_all_given.ensures g.C.RateMarker.rate)

pub encode_rows-requires : goal.encode_rows-requires
encode_rows-requires g c =
    let rows = c.args.encoder.now.rows in
    let whole = message-whole (encoder_state g.C.RateMarker.rate rows)
    (c.in_ok-check_all_given.ensures g.C.RateMarker.rate) in
    let given = length-up_to rows.originals_given
    (shard_laid_out rows.chunks.items rows.configuration.shard_bytes) in
    omega (arith, whole.0, given, rows.no_more)

pub returns-clause-answer : goal.returns-clause-answer
returns-clause-answer g c =
    let rows = c.args.encoder.now.rows in
    let own = rows.configuration in
    let state = encoder_state g.C.RateMarker.rate rows in
    encode_answers-made state (lent_shards c.encode_rows.new.rows) (c.in_ok-check_all_given.ensures g.C.RateMarker.rate)
    (shards_alike (rate_of own) g.C.RateMarker.rate own.original_count own.recovery_count own.shard_bytes
    (given_originals rows) (lent_shards c.encode_rows.new.rows) c.args.encoder.now.set_up.alike
    c.encode_rows.ensures.recovery)

pub returns-clause-counts : goal.returns-clause-counts
returns-clause-counts g c = search (rules, steps_alike)

pub returns-clause-state : goal.returns-clause-state
returns-clause-state g c =
    let rows = c.args.encoder.now.rows in
    let coded = c.encode_rows.ensures in
    encoder_state-fresh g.C.RateMarker.rate c.encode_rows.new.rows rows.configuration coded.configuration coded.none
    ∙ sym (after_encode-made (encoder_state g.C.RateMarker.rate rows)
    (c.in_ok-check_all_given.ensures g.C.RateMarker.rate))
