-- The shards of a map at the indexes below a number, which a decoder takes in the order of their indexes.
use Rattle.std.proofs.Common.{◌≡◌, ℕ, ◌+◌, ◌<◌, ◌≤◌, Bool, cond, length, Ok, Err, Some, None, sym, ap, ◌∙◌, inl, inr}
use Rattle.std.proofs.Common.{arith}
use Rattle.std.specs.Prelude.{◌==◌, nat_lt, nat_le, is_some, not, if◌then◌else◌}
use Rattle.std.proofs.Math.Path.{fun_ext}
use Rattle.std.proofs.lemmas.Bool.{cases_eq, cases_lt, lt-ltb, le-ltb, lt-leb, eq-eqb}
use Rattle.rs_field.specs.declared.code.error.Error.{Error}
use Rattle.rs_field.specs.code.Column.{Shard}
use Rattle.rs_field.specs.code.Decoder.{DecoderState, with_original, with_recovery}
use Rattle.rs_field.specs.code.Given.{Shards, nothing, with_entry}
use Rattle.rs_field.proofs.code_lemmas.Given.{entered_cases}

-- The shards of a map at the indexes below n.
abbrev pub first : ℕ → Shards → Shards
first n given i = cond (nat_lt i n) (given i) None

first-inside : (n i : ℕ) (given : Shards) → i < n → first n given i ≡ given i
first-inside n i given inside = ap (λ (b : Bool). cond b (given i) None) (lt-ltb i n inside)

first-outside : (n i : ℕ) (given : Shards) → n ≤ i → first n given i ≡ None
first-outside n i given outside = ap (λ (b : Bool). cond b (given i) None) (le-ltb i n outside)

-- There are no shards at the indexes below zero.
pub first-none : (given : Shards) → nothing ≡ first 0 given
first-none given = fun_ext (λ i. sym (first-outside 0 i given (omega arith)))

-- If a map has no shards from index n on, its shards below n are all its shards.
pub first-all : (n : ℕ) (given : Shards) → ((i : ℕ) → n ≤ i → given i ≡ None) → first n given ≡ given
first-all n given none = fun_ext (λ i. elim (cases_lt i n) [
  | inl inside ↦ first-inside n i given inside
  | inr outside ↦ first-outside n i given outside ∙ sym (none i outside)
])

-- If index n has no shard, the shards below n + 1 are the shards below n.
pub first-skipped : (n : ℕ) (given : Shards) → given n ≡ None → first n given ≡ first (n + 1) given
first-skipped n given free = fun_ext (λ i. elim (cases_lt i n) [
  | inl inside ↦ first-inside n i given inside ∙ sym (first-inside (n + 1) i given (omega (arith, inside)))
  | inr outside ↦ first-outside n i given outside ∙ elim (cases_eq i n) [
    | inl same ↦ sym (first-inside (n + 1) i given (omega (arith, same)) ∙ ap given same ∙ free)
    | inr other ↦ sym (first-outside (n + 1) i given (omega (arith, outside, other)))
  ]
])

-- Entering the shard with index n into the shards below n gives the shards below n + 1.
first-entered : (n : ℕ) (given : Shards) (shard : Shard) → given n ≡ Some shard
    → with_entry (first n given) n shard ≡ first (n + 1) given
first-entered n given shard found = fun_ext (λ i. elim (entered_cases (first n given) n i shard) [
  | inl here ↦ here.1 ∙ sym found ∙ sym (ap given here.0) ∙ sym (first-inside (n + 1) i given (omega (arith, here.0)))
  | inr other ↦ other.1 ∙ elim (cases_lt i n) [
    | inl inside ↦ first-inside n i given inside ∙ sym (first-inside (n + 1) i given (omega (arith, inside)))
    | inr outside ↦ first-outside n i given outside
        ∙ sym (first-outside (n + 1) i given (omega (arith, outside, other.0)))
  ]
])

-- Adding the shard with index n enters it if n is below the count and the shard has the size.
taken : (count size n : ℕ) (given : Shards) (shard : Shard) (past double other : Error) (put : Shards → DecoderState)
    → n < count → given n ≡ Some shard → length shard ≡ size
    → (
    if nat_le count n then Err past else if is_some (first n given n) then Err double
    else if not (length shard == size) then Err other else Ok (put (with_entry (first n given) n shard))
    ) ≡ Ok (put (first (n + 1) given))
taken count size n given shard past double other put inside found sized =
    let none = first-outside n n given (omega arith) in
    rw (lt-leb count n inside, none, eq-eqb (length shard) size sized)
    (ap (λ (g : Shards). Ok (put g)) (first-entered n given shard found))

module _ (s : DecoderState) (n : ℕ) (given : Shards) (shard : Shard) (found : given n ≡ Some shard)
    (sized : length shard ≡ s.configuration.shard_bytes) where
  -- A decoder that has the originals with an index below n takes the original with index n.
  pub original-taken : n < s.configuration.original_count
      → with_original (record s { originals = first n given }) n shard
      ≡ Ok (record s { originals = first (n + 1) given })
  original-taken inside =
      taken s.configuration.original_count s.configuration.shard_bytes n given shard _ _ _
      (λ g. record s { originals = g }) inside found sized

  -- A decoder that has the recovery shards with an index below n takes the recovery shard with index n.
  pub recovery-taken : n < s.configuration.recovery_count
      → with_recovery (record s { recovery = first n given }) n shard
      ≡ Ok (record s { recovery = first (n + 1) given })
  recovery-taken inside =
      taken s.configuration.recovery_count s.configuration.shard_bytes n given shard _ _ _
      (λ g. record s { recovery = g }) inside found sized
