-- The locator in the rows of a decoder.
use Rattle.std.specs.Prelude.{◌≡◌, ◌⊎◌, ℕ, Bool, List, take, Option, None, Some}
use Rattle.rs_field.specs.declared.code.frame.Frame.{Frame}
use Rattle.rs_field.specs.declared.words.steps.Steps.{Steps}
use Rattle.rs_rate.specs.declared.rows.decoder_work.DecoderRows.{DecoderRows}
use Rattle.rs_rate.specs.passes.Decoding.{IsLocatorOf}
use Rattle.rs_rate.specs.rows.Marks.{given_marks}

-- if there is a number of marks, the entries are the locator of the rows that are erased by a frame and so many first
-- marks
abbrev pub AreLocated : Frame → List Bool → Option ℕ → List ℕ → Type 0
AreLocated frame marks located entries = (n : ℕ) → located ≡ Some n → IsLocatorOf frame (take n marks) entries

-- if there is a number of marks, the entries in the rows of a decoder are the locator of the rows that are erased by its
-- frame and so many first marks
abbrev pub IsLocated : DecoderRows → Option ℕ → Type 0
IsLocated rows located =
    AreLocated rows.configuration.frame (given_marks rows.memory.marks) located rows.memory.entries.items

-- a round computes a locator only if it stores a number of marks that was not stored before: otherwise it counts no pair
-- sum and no product
abbrev pub LocatesOnce : Option ℕ → Option ℕ → Steps → Steps → Type 0
LocatesOnce before after old new =
    (after ≡ None) ⊎ (after ≡ before) → (new.pair_sums ≡ old.pair_sums) × (new.products ≡ old.products)
