use Rattle.std.proofs.Common.{ℕ, sym, ◌∙◌, subst, arith}
use Rattle.std.proofs.lemmas.Result.{err_from_is_err_and}
use Rattle.rs_field.specs.code.Bounds.{DecodeCounts}
use Rattle.rs_rate.specs.rows.DecoderView.{decoder_state, restored_by_rows}
use Rattle.rs_rate.proofs.rows_lemmas.DecoderRows.{enough-least, after_decode-refused, after_decode-made}
use Rattle.rs_rate.proofs.rows_lemmas.DecoderRows.{decode_answers-refused, decode_answers-made}
use Rattle.rs_rate.specs.values.RowCounts.{decoder_rows_set_up}
use Rattle.rs_rate.proofs.objects.split_rounds.decode_round.Goals as goal

pub returns-in_err-check_enough_given-clause-answer : goal.returns-in_err-check_enough_given-clause-answer
returns-in_err-check_enough_given-clause-answer g c =
    let state = decoder_state g.C.RateMarker.rate c.args.decoder.now.rows in
    let p = err_from_is_err_and c.from_residual.result c.from_residual.ensures.1 in
    rw (p.1, p.2) (decode_answers-refused state _ (c.in_err-check_enough_given.ensures g.C.RateMarker.rate))

pub returns-in_err-check_enough_given-clause-state : goal.returns-in_err-check_enough_given-clause-state
returns-in_err-check_enough_given-clause-state g c =
    after_decode-refused (decoder_state g.C.RateMarker.rate c.args.decoder.now.rows) _
    (c.in_err-check_enough_given.ensures g.C.RateMarker.rate)

pub decode_rows-requires-clause-enough : goal.decode_rows-requires-clause-enough
decode_rows-requires-clause-enough g c =
    let rows = c.args.decoder.now.rows in
    let least = enough-least (decoder_state g.C.RateMarker.rate rows)
    (c.in_ok-check_enough_given.ensures g.C.RateMarker.rate) in
    omega (arith, least, rows.given.originals_counted, rows.given.recovery_counted)

pub returns-clause-answer : goal.returns-clause-answer
returns-clause-answer g c =
    decode_answers-made (decoder_state g.C.RateMarker.rate c.args.decoder.now.rows)
    (restored_by_rows c.decode_rows.new.rows) c.decode_rows.result
    (c.in_ok-check_enough_given.ensures g.C.RateMarker.rate)
    (c.decode_rows.ensures.answer g.C.RateMarker.rate c.args.decoder.now.set_up)

pub returns-clause-counts : goal.returns-clause-counts
returns-clause-counts g c =
    subst (λ (n : ℕ). DecodeCounts n c.args.steps.now c.decode_rows.new.steps)
    (c.args.decoder.now.rows.configured.rows
    ∙ decoder_rows_set_up g.C.RateMarker.rate c.args.decoder.now.rows.configuration c.args.decoder.now.set_up)
    c.decode_rows.ensures.counts

pub returns-clause-state : goal.returns-clause-state
returns-clause-state g c =
    c.decode_rows.ensures.state g.C.RateMarker.rate
    ∙ sym (after_decode-made (decoder_state g.C.RateMarker.rate c.args.decoder.now.rows)
    (c.in_ok-check_enough_given.ensures g.C.RateMarker.rate))
