use Rattle.rs_field.proofs.words_lemmas.Sums.{sixteen, nibble_additive}
use Rattle.rs_field.proofs.words.mul16.nibble_sums.Goals as goal

pub returns : goal.returns
returns c n f ea eb ec ed =
    record { entries = sixteen (nibble_additive n f) ea eb ec ed }
