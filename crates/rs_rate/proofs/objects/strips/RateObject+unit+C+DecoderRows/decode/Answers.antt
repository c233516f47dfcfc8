use Rattle.std.proofs.Common.{ℕ, sym, ◌∙◌, subst, arith}
use Rattle.rs_field.specs.code.Bounds.{DecodeCounts}
use Rattle.rs_rate.specs.values.RowCounts.{decoder_rows_set_up}
use Rattle.rs_rate.specs.rows.DecoderView.{decoder_state}
use Rattle.rs_rate.proofs.rows_lemmas.DecoderRows.{enough-least}
use Rattle.rs_rate.proofs.objects.strips.RateObject+unit+C+DecoderRows.decode.Goals as goal

pub decode_rows-requires-clause-enough : goal.decode_rows-requires-clause-enough
decode_rows-requires-clause-enough g c =
    let rows = c.args.self.now.rows in
    let least = enough-least (decoder_state g.C.RateMarker.rate rows) (sym c.requires.enough) in
    omega (arith, least, rows.given.originals_counted, rows.given.recovery_counted)

pub returns-clause-answer : goal.returns-clause-answer
returns-clause-answer g c = c.decode_rows.ensures.answer g.C.RateMarker.rate c.args.self.now.set_up

pub returns-clause-counts : goal.returns-clause-counts
returns-clause-counts g c =
    subst (λ (n : ℕ). DecodeCounts n c.args.steps.now c.decode_rows.new.steps)
    (c.args.self.now.rows.configured.rows
    ∙ decoder_rows_set_up g.C.RateMarker.rate c.args.self.now.rows.configuration c.args.self.now.set_up)
    c.decode_rows.ensures.counts

pub returns-clause-state : goal.returns-clause-state
returns-clause-state g c = c.decode_rows.ensures.state g.C.RateMarker.rate
