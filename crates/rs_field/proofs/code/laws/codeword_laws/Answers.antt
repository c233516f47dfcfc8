use Rattle.std.proofs.Common.{rules}
use Rattle.rs_field.specs.code.CodeLaws.{HasOneRestoration}
use Rattle.rs_field.proofs.code_lemmas.Changes.{changes_noticed}
use Rattle.rs_field.proofs.code_lemmas.Places.{fixed_by_places}
use Rattle.rs_field.proofs.code.laws.codeword_laws.Goals as goal

-- Two restorations are equal, since both are the missing shards of the one message that agrees.
one_restoration : HasOneRestoration
one_restoration s one other a b = search rules

pub returns : goal.returns
returns c = record { places = fixed_by_places; restored = one_restoration; changes = changes_noticed }
