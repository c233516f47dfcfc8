use Rattle.std.proofs.Common.{ap, sym, ◌∙◌, arith}
use Rattle.rs_field.specs.rows.Rows.{chunk, symbol}
use Rattle.rs_rate.proofs.passes_lemmas.Reading.{read_word}
use Rattle.rs_rate.proofs.passes_lemmas.ZeroPadded.{zero_padded-in, zero_padded-past}
use Rattle.rs_rate.proofs.passes.read_encoding.MessageRows.row.Goals as goal

pub returns-then-index-self-clause-words : goal.returns-then-index-self-clause-words
returns-then-index-self-clause-words g c k s inside symbols =
    c.args.self.now.blank.1 k s inside symbols
    ∙ sym (zero_padded-past c.args.self.now.count _ c.args.index c.if-index-self.true)

pub returns-clause-words : goal.returns-clause-words
returns-clause-words g c k s inside symbols =
    ap (λ chunks. symbol (chunk chunks k) s) c.as_chunks.ensures.front
    ∙ read_word c.args.self.now.len k s c.args.index c.piece.result.now
    (g.M.StripMessage.shards c.args.self.now.message.now) c.piece.ensures
    (omega (arith, c.if-index-self.false, c.args.self.now.number)) c.args.self.now.sized inside symbols
    ∙ sym (zero_padded-in c.args.self.now.count _ c.args.index c.if-index-self.false)
