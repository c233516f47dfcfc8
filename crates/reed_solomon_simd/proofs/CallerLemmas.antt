-- Facts about a valid configuration, and what a decoder returns for the number of its shards.
use Rattle.std.proofs.Common.{rules, ◌≡◌, ℕ, ◌+◌, ◌<◌, true, cond, ap, min, max, Ok}
use Rattle.std.specs.Prelude.{nat_le, nat_lt, ◌&&◌, Result, Err, is_ok, IfOk, IfErr}
use Rattle.std.proofs.lemmas.Bool.{and_parts, ltb-true}
use Rattle.std.specs.BTreeMap.{BTreeMap}
use Rattle.std.specs.declared.vec.Vec.{Vec}
use Rattle.rs_field.specs.declared.code.error.Error.{Error}
use Rattle.rs_field.specs.declared.code.error.Error.TheVariants.{NotEnoughShards}
use Rattle.rs_field.specs.code.Given.{Shards}
use Rattle.rs_field.specs.code.Decoder.{DecoderState, fresh_decoder, enough_given, after_decode}
use Rattle.rs_field.specs.code.OneCall.{collected_map, shards_in}
use Rattle.rs_field.specs.code.Counts.{Rate, low_rate, high_rate, default_rate, next_power, supports}
use Rattle.rs_field.specs.code.Configuration.{Configuration, validation_outcome}
use Rattle.rs_field.proofs.code_lemmas.Entries.{count-nothing}
use Rattle.rs_rate.proofs.rows_lemmas.StateLemmas.{valid-supported}

pub some_originals : (rate : Rate) (k r : ℕ) → supports rate k r ≡ true → 0 < k
unfolding supports
some_originals low_rate k r is =
    ltb-true 0 k (and_parts (nat_lt 0 k) (nat_lt 0 r)
    (and_parts (nat_lt 0 k && nat_lt 0 r) (nat_le (next_power k + r) 65536) is).0).0
some_originals high_rate k r is =
    ltb-true 0 k (and_parts (nat_lt 0 k) (nat_lt 0 r)
    (and_parts (nat_lt 0 k && nat_lt 0 r) (nat_le (next_power r + k) 65536) is).0).0
some_originals default_rate k r is =
    ltb-true 0 k (and_parts (nat_lt 0 k) (nat_lt 0 r)
    (and_parts (nat_lt 0 k && nat_lt 0 r) (nat_le (min (next_power k) (next_power r) + max k r) 65536) is).0).0

-- A valid configuration has at least one original.
pub valid-some : (c : Configuration) → validation_outcome c ≡ Ok tt → 0 < c.original_count
valid-some c valid =
    some_originals c.rate c.original_count c.recovery_count (valid-supported c valid)

-- A decoder without shards fails with `NotEnoughShards`.
pub fresh-too_few : (c : Configuration) → validation_outcome c ≡ Ok tt
    → enough_given (fresh_decoder c) ≡ Err (NotEnoughShards c.original_count 0 0)
fresh-too_few c valid = search (rules, count-nothing, valid-some)

-- After a round, a decoder has no shards.
pub ended : (s : DecoderState) → enough_given s ≡ Ok tt → after_decode s ≡ fresh_decoder s.configuration
ended s enough = ap (λ (m : Result (Unit {0}) Error). cond (is_ok m) (fresh_decoder s.configuration) s) enough

-- A property of the shards that one-call `decode` returns is a property of the shards in its map.
pub collected_shards-holds : {Y : Type 0} (result : Result (BTreeMap ℕ (Vec ℕ Y)) Error) (P : Shards → Type 0)
    → IfOk (collected_map result) P → IfOk result (λ m. P (shards_in m))
collected_shards-holds (Ok m) P h = h
collected_shards-holds (Err e) P h = tt

-- A property of the error of a collected map holds for the error of the result.
pub collected_shards-refused : {Y : Type 0} (result : Result (BTreeMap ℕ (Vec ℕ Y)) Error) (P : Error → Type 0)
    → IfErr (collected_map result) P → IfErr result P
collected_shards-refused (Ok m) P h = tt
collected_shards-refused (Err e) P h = h
