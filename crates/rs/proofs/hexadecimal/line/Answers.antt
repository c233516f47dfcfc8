use Rattle.std.proofs.Common.{◌∷◌, [], ◌++◌, ◌∙◌, ap}
use Rattle.rs.proofs.HexLemmas.{hex_of-same}
use Rattle.rs.proofs.hexadecimal.line.Goals as goal

pub returns-clause-text : goal.returns-clause-text
returns-clause-text c =
    c.in_ok-push_str.ensures.bytes ∙ ap (λ t. t ++ 10 ∷ []) (c.in_ok-text.ensures ∙ hex_of-same c.args.bytes.now)
