-- The decoder with the shards that are left of a codeword.
use Rattle.std.proofs.Common.{rules, ◌≡◌, ℕ, ◌+◌, ◌<◌, Bool, cond, List, [], ◌∷◌, length, Result, Ok, Err, Some}
use Rattle.std.proofs.Common.{MatchResult, refl, sym, ap, ap₂, ◌∙◌, subst, inl, inr, arith}
use Rattle.std.specs.Prelude.{◌⊎◌, nat_lt}
use Rattle.std.proofs.lemmas.List.Elements.{recursion_from_All}
use Rattle.reed_solomon_simd.specs.declared.Error.{Error}
use Rattle.reed_solomon_simd.specs.declared.Error.TheVariants.{OutOfMemory, NotEnoughShards}
use Rattle.reed_solomon_simd.specs.Column.{Shard}
use Rattle.reed_solomon_simd.specs.Configuration.{start_outcome}
use Rattle.reed_solomon_simd.specs.Counts.{default_rate}
use Rattle.reed_solomon_simd.specs.Decoder.{DecoderState, fresh_decoder, enough_given, IsAgreeing}
use Rattle.reed_solomon_simd.specs.Frame.{decoder_rows}
use Rattle.reed_solomon_simd.specs.Given.{nothing, count_below}
use Rattle.reed_solomon_simd.specs.OneCall.{Items, default_of, with_both}
use Rattle.reed_solomon_simd.specs.Outcome.{result_and_then}
use Rattle.reed_solomon_simd.specs.RoundTrip.{AreCoded, AreLeft, enough_left}
use Rattle.reed_solomon_simd.specs.Verified.{received_size, receiving_outcome}
use Rattle.reed_solomon_simd.proofs.Entries.{AreFree, entered_all, count-nothing, count-entered_all, among-entered_all}
use Rattle.reed_solomon_simd.proofs.OneRoundTrip.{left_with, all_taken}
use Rattle.reed_solomon_simd.proofs.StateLemmas.{valid-supported}

-- Success unless there are too few shards.
abbrev pub unless_few : ℕ → ℕ → ℕ → Bool → Result (Unit {0}) Error
unless_few k originals recovery few = cond few (Err (NotEnoughShards k originals recovery)) (Ok tt)

-- The empty map has no shard at the indexes of any items.
all_free : (items : Items) → AreFree nothing items
all_free [] = tt
all_free (item ∷ items) = (refl, all_free items)

-- The map of the items that are left has as many shards as there are items.
left-count : {count : ℕ} {shards : List Shard} {items : Items} → length shards ≡ count → AreLeft shards items
    → count_below count (entered_all nothing items) ≡ length items
left-count {count = count} {items = items} long left =
    let counted = count-entered_all count items nothing
    (recursion_from_All (λ (item : ℕ × Shard). item.0 < count) items
    (λ i d h. let own = (left.own i d h).0 in omega (arith, own, long))) (all_free items) left.once in
    counted ∙ ap (λ (n : ℕ). n + length items) (count-nothing count)
    ∙ (let e : 0 + length items ≡ length items = omega arith in e)

module _ {k r : ℕ} {originals recovery : List Shard} {kept received : Items} (was : AreCoded k r originals recovery)
    (left : AreLeft originals kept) (got : AreLeft recovery received) where
  -- The state of a decoder with the shards that are left.
  abbrev pub left_state : DecoderState
  left_state = left_with (default_of k r was.size) kept received

  -- The originals agree with the shards that are left.
  pub left_agrees : IsAgreeing left_state originals
  left_agrees = search (rules, among-entered_all, recursion_from_All)

  -- There are enough shards in the decoder exactly if enough shards are left.
  pub left_enough : enough_given left_state ≡ enough_left k kept received
  left_enough =
      ap₂ (λ (o c : ℕ). unless_few k o c (nat_lt (o + c) k))
      (left-count was.shards.length_is left)
      (left-count was.coded.shards.length_is got)

  -- A property of the outcome of setting up a decoder and adding the shards.
  abbrev Begun : (DecoderState → Type 0) → (Error → Type 0) → Result (Unit {0}) Error → Type 0
  Begun A B begun =
      MatchResult (result_and_then (λ _. with_both (fresh_decoder (default_of k r was.size)) kept received) begun) A B

  by_start : (A : DecoderState → Type 0) (B : Error → Type 0)
      → Begun A B (start_outcome (decoder_rows default_rate k r) (default_of k r was.size))
      → A left_state ⊎ B OutOfMemory
  by_start A B holds = search (rules, all_taken)

module _ {k r : ℕ} {originals recovery : List Shard} (was : AreCoded k r originals recovery) where
  -- A property of the outcome of collecting what is left is a property of the decoder with these shards, or of
  -- `OutOfMemory`, or of `NotEnoughShards` if nothing is left.
  pub received-left : {kept received : Items} → AreLeft originals kept → AreLeft recovery received
      → (A : DecoderState → Type 0) (B : Error → Type 0)
      → MatchResult (receiving_outcome k r (received_size kept received) kept received) A B
      → (A (left_with (default_of k r was.size) kept received) ⊎ B OutOfMemory)
      ⊎ (B (NotEnoughShards k 0 0) × (kept ≡ []) × (received ≡ []))
  received-left {kept = kept} {received = first ∷ rest} left got A B holds =
      let own = got.own 0 first (omega arith) in
      let size : length first.1 ≡ was.size =
      sym (ap length own.1) ∙ (was.coded.shards.each first.0 [] own.0).length_is in
      inl (by_start was left got A B
      (subst (λ (n : ℕ). MatchResult (receiving_outcome k r (Some n) kept (first ∷ rest)) A B) size holds))
  received-left {kept = first ∷ rest} {received = []} left got A B holds =
      let own = left.own 0 first (omega arith) in
      let size : length first.1 ≡ was.size =
      sym (ap length own.1) ∙ (was.shards.each first.0 [] own.0).length_is in
      inl (by_start was left got A B
      (subst (λ (n : ℕ). MatchResult (receiving_outcome k r (Some n) (first ∷ rest) []) A B) size holds))
  received-left {kept = []} {received = []} left got A B holds =
      let supported = valid-supported (default_of k r was.size) was.valid in
      inr (rw supported at holds, refl, refl)
