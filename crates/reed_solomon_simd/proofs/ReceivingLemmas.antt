-- From shards that were added to a decoder to the result of collecting received shards.
use Rattle.std.proofs.Common.{◌≡◌, ℕ, Option, Some, Result, Ok, sym, ap, ◌∙◌, inl, inr}
use Rattle.rs_field.specs.declared.code.error.Error.{Error}
use Rattle.rs_field.specs.code.Configuration.{start_outcome, UpToMemory}
use Rattle.rs_field.specs.code.Counts.{default_rate}
use Rattle.rs_field.specs.code.Decoder.{DecoderState, fresh_decoder}
use Rattle.rs_field.specs.code.Frame.{decoder_rows}
use Rattle.rs_field.specs.code.OneCall.{Items, default_of, with_both}
use Rattle.rs_field.specs.code.Outcome.{result_and_then}
use Rattle.reed_solomon_simd.specs.Verified.{received_size, receiving_outcome, IsReceiving}

-- If a setting up can only fail because memory is short, and it succeeds, its outcome is a success.
was-set_up : (o : Result (Unit {0}) Error) → UpToMemory o (Ok tt) → o ≡ Ok tt
was-set_up o (inl same) = sym same
was-set_up o (inr lacks) = let refused = lacks.1 in absurd (let no : ⊥ = cc in no)

module _ (k r : ℕ) (originals recovery : Items) where
  module _ (size : ℕ) (sized : Some size ≡ received_size originals recovery) where
    abbrev opened : Result (Unit {0}) Error
    opened = start_outcome (decoder_rows default_rate k r) (default_of k r size)

    abbrev after_opening : Result (Unit {0}) Error → Result DecoderState Error
    after_opening = result_and_then (λ _. with_both (fresh_decoder (default_of k r size)) originals recovery)

    receiving-led : (o : Result DecoderState Error) → receiving_outcome k r (Some size) originals recovery ≡ o
        → IsReceiving k r originals recovery o
    receiving-led o is =
        inl (sym is ∙ ap (λ (n : Option ℕ). receiving_outcome k r n originals recovery) sized)

    -- If the decoder was set up, the outcome of adding the shards is the outcome of collecting them.
    pub receiving-given : (start : DecoderState)
        → UpToMemory opened (Ok tt)
        → start ≡ fresh_decoder (default_of k r size) → (o : Result DecoderState Error)
        → with_both start originals recovery ≡ o
        → IsReceiving k r originals recovery o
    receiving-given start made fresh o is =
        receiving-led o
        (ap after_opening
        (was-set_up opened made)
        ∙ sym (ap (λ (s : DecoderState). with_both s originals recovery) fresh) ∙ is)
