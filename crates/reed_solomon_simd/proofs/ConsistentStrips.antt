-- Received shards are consistent exactly if their pieces in each strip are consistent.
use Rattle.std.proofs.Common.{rules, ◌≡◌, ℕ, ◌+◌, ◌-◌, ◌/◌, ◌%◌, ◌≤◌, true, inl, inr, subst, arith}
use Rattle.std.proofs.lemmas.Bool.{cases_lt}
use Rattle.rs_field.specs.code.Counts.{default_rate, supports}
use Rattle.rs_field.specs.code.Decoder.{DecoderState, IsDecoder, originals_given, recovery_given, IsConsistent}
use Rattle.rs_field.specs.code.Pieces.{pieces, IsStrip}
use Rattle.rs_field.specs.code.PieceStates.{state_of_pieces}
use Rattle.rs_field.proofs.code_lemmas.GivenRows.{AreGiven, given_within}
use Rattle.rs_field.proofs.code_lemmas.AnyShards.{any_consistent}
use Rattle.rs_field.proofs.code_lemmas.PieceStates.{AreConsistentBelow, consistent-whole, agrees-cut}
use Rattle.rs_field.proofs.code_lemmas.SupportedCounts.{default_fits}
use Rattle.rs_rate.proofs.rows_lemmas.StateLemmas.{valid-supported}
use Rattle.reed_solomon_simd.proofs.SetUp.{valid-even}

-- Before the first strip, no column needs a strip.
pub checked-none : (s : DecoderState) → AreConsistentBelow s 0
checked-none s j inside = absurd (let no : ⊥ = omega (arith, inside) in no)

-- After one more strip with consistent pieces, the columns up to its end are in such strips.
pub checked-further : (s : DecoderState) (start end : ℕ) → IsStrip start end s.configuration.shard_bytes
    → IsConsistent (state_of_pieces start end s) → AreConsistentBelow s start → AreConsistentBelow s end
checked-further s start end strip consistent before j inside = elim (cases_lt j (start / 2)) [
  | inl low ↦ before j low
  | inr high ↦ (start, end, strip, high, inside, consistent)
]

module _ (s : DecoderState) (is : IsDecoder default_rate s) where
  supported : supports s.configuration.rate s.configuration.original_count s.configuration.recovery_count ≡ true
  supported = valid-supported s.configuration is.valid

  even : s.configuration.shard_bytes % 2 ≡ 0
  even = valid-even s.configuration is.valid

  -- A strip has an even number of bytes.
  pub even-strip : (start end : ℕ) → IsStrip start end s.configuration.shard_bytes → (end - start) % 2 ≡ 0
  even-strip start end strip = search rules

  -- There are at most 65536 originals.
  pub few-originals : s.configuration.original_count ≤ 65536
  few-originals =
      let fits = default_fits s.configuration.original_count s.configuration.recovery_count
      (subst (λ rate. supports rate s.configuration.original_count s.configuration.recovery_count ≡ true) is.of_rate
      supported) in
      omega (arith, fits.2)

  given : AreGiven s
  given = given_within s.configuration s.originals s.recovery supported is.originals_within is.recovery_within

  -- If the pieces of all strips are consistent, the shards are consistent.
  pub checked-all : AreConsistentBelow s s.configuration.shard_bytes → IsConsistent s
  checked-all = consistent-whole given even

  -- As many shards as originals are consistent.
  pub exact-consistent : originals_given s + recovery_given s ≡ s.configuration.original_count → IsConsistent s
  exact-consistent = any_consistent given even

-- If shards are consistent, their pieces in a strip are consistent.
pub consistent-cut : (s : DecoderState) (start end : ℕ) → IsStrip start end s.configuration.shard_bytes
    → IsConsistent s → IsConsistent (state_of_pieces start end s)
consistent-cut s start end strip (message, agrees) =
    let c = s.configuration in (
      pieces start end message,
      agrees-cut strip agrees,
    )
