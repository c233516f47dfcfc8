-- Encoding a strip of the received originals with zeros for the missing ones, and adding the received recovery shards.
use Rattle.std.proofs.Common.{◌≡◌, ◌≢◌, ℕ, ◌+◌, ◌<◌, ◌≤◌, Bor, List, [], length, take, replicate, refl, sym, ap, ◌∙◌}
use Rattle.std.proofs.Common.{arith, inl, inr, subst}
use Rattle.std.specs.Prelude.{Option, Some, None, option_copied, unwrap_or}
use Rattle.std.proofs.lemmas.Bool.{cases_eq}
use Rattle.std.proofs.lemmas.List.{ext_get_or, length-replicate, get_or-replicate, get_or-take, length-take-le}
use Rattle.rs_field.specs.code.Column.{Shard, shard_at}
use Rattle.rs_field.specs.code.Configuration.{Configuration}
use Rattle.rs_field.specs.code.Given.{Shards}
use Rattle.rs_field.proofs.rows_lemmas.LayoutLemmas.{length-in_order}
use Rattle.rs_field.proofs.words_lemmas.UpTo.{length-up_to, get-up_to}
use Rattle.rs_rate.specs.declared.objects.strip_encoder.StripEncoder.{StripEncoder}
use Rattle.rs_rate.specs.objects.StripView.{code_of, coded_shards}
use Rattle.rs_rate.specs.rows.ShardRows.{row_chunk, shard_in_order, IsByteSum}

-- The number of the shards that an encoder lends, and their size.
pub lent-count : (encoder : StripEncoder) (c : Configuration) → code_of encoder ≡ c
    → length (coded_shards encoder) ≡ c.recovery_count
lent-count encoder c code =
    length-up_to encoder.configuration.recovery_count
    (shard_in_order encoder.chunks.items encoder.configuration.shard_bytes)
    ∙ ap (λ (d : Configuration). d.recovery_count) code

pub lent-size : (encoder : StripEncoder) (c : Configuration) → code_of encoder ≡ c
    → encoder.configuration.shard_bytes ≡ c.shard_bytes
lent-size encoder c code = ap (λ (d : Configuration). d.shard_bytes) code

pub lent-length : (encoder : StripEncoder) (i : ℕ) → i < length (coded_shards encoder)
    → length (shard_at (coded_shards encoder) i) ≡ encoder.configuration.shard_bytes
lent-length encoder i inside =
    let n : ℕ = encoder.configuration.recovery_count in
    let size : ℕ = encoder.configuration.shard_bytes in
    let shards = shard_in_order encoder.chunks.items size in
    let below : i < encoder.configuration.recovery_count = omega (arith, inside, length-up_to n shards) in
    ap (λ (shard : Shard). length shard) (get-up_to n shards i [] below)
    ∙ length-in_order size (row_chunk encoder.chunks.items size i)

-- The first zeros of more zeros.
pub fewer-zeros : (n m : ℕ) → n ≤ m → take n (replicate {A = ℕ} m 0) ≡ replicate n 0
fewer-zeros n m most =
    let long : length (take n (replicate {A = ℕ} m 0)) ≡ n =
    length-take-le n (replicate {A = ℕ} m 0) (omega (arith, most, length-replicate {A = ℕ} m 0)) in
    ext_get_or 0 (take n (replicate {A = ℕ} m 0)) (replicate {A = ℕ} n 0) (long ∙ sym (length-replicate {A = ℕ} n 0))
    (λ i h. get_or-take n (replicate {A = ℕ} m 0) i 0 (omega (arith, h, long))
    ∙ get_or-replicate {A = ℕ} m i 0 0 (omega (arith, h, long, most))
    ∙ sym (get_or-replicate {A = ℕ} n i 0 0 (omega (arith, h, long))))

-- A lent piece, or zeros if there is none.
pub piece-or-zeros : (piece : Option (Bor Shard)) (zeros : Bor Shard) (there : Option Shard) (n : ℕ)
    → option_copied piece ≡ there → zeros.now ≡ replicate n 0
    → (unwrap_or piece zeros).now ≡ unwrap_or there (replicate n 0)
piece-or-zeros None zeros there n is none = none ∙ ap (λ (o : Option Shard). unwrap_or o (replicate n 0)) is
piece-or-zeros (Some piece) zeros there n is none = ap (λ (o : Option Shard). unwrap_or o (replicate n 0)) is

-- The shards below n are syndromes of the given recovery shards, and the others are the encoded ones.
pub record AddedBelow (n : ℕ) (given : Shards) (encoded now : List Shard) : Type 0 where
  pub added : (i : ℕ) (shard : Shard) → i < n → given i ≡ Some shard
      → IsByteSum (shard_at encoded i) shard (shard_at now i)
  pub others : (i : ℕ) → n ≤ i → shard_at now i ≡ shard_at encoded i

-- No shard was added.
pub added-none : (given : Shards) (encoded : List Shard) → AddedBelow 0 given encoded encoded
added-none given encoded = record {
  added = λ i shard h e. absurd (let no : ⊥ = omega (arith, h) in no);
  others = λ i h. refl;
}

-- The next shard was added.
pub added-more : (n : ℕ) (given : Shards) (piece : Shard) (encoded old new : List Shard) → given n ≡ Some piece
    → IsByteSum (shard_at old n) piece (shard_at new n)
    → ((i : ℕ) → i ≢ n → shard_at new i ≡ shard_at old i) → AddedBelow n given encoded old
    → AddedBelow (n + 1) given encoded new
added-more n given piece encoded old new is sum same before = record {
  added = λ i shard h e. elim (cases_eq i n) [
    | inl here ↦
        let both : ◌≡◌ {A = Option Shard} (Some piece) (Some shard) = sym is ∙ ap given (sym here) ∙ e in
        let one : ◌≡◌ {A = Shard} piece shard = cc both in
        subst (λ (m : ℕ). IsByteSum (shard_at encoded m) shard (shard_at new m)) (sym here)
        (subst (λ (x : Shard). IsByteSum x shard (shard_at new n)) (before.others n (omega arith))
        (subst (λ (p : Shard). IsByteSum (shard_at old n) p (shard_at new n)) one sum))
    | inr other ↦
        subst (λ (x : Shard). IsByteSum (shard_at encoded i) shard x) (sym (same i other))
        (before.added i shard (omega (arith, h, other)) e)
  ];
  others = λ i h. same i (λ here. let e : i ≡ n = here in omega (arith, h, e)) ∙ before.others i (omega (arith, h));
}

-- There is no next shard to add.
pub added-passed : (n : ℕ) (given : Shards) (encoded now : List Shard) → given n ≡ None
    → AddedBelow n given encoded now → AddedBelow (n + 1) given encoded now
added-passed n given encoded now none before = record {
  added = λ i shard h e. elim (cases_eq i n) [
    | inl here ↦
        let both : ◌≡◌ {A = Option Shard} None (Some shard) = sym none ∙ ap given (sym here) ∙ e in
        absurd (let no : ⊥ = cc both in no)
    | inr other ↦ before.added i shard (omega (arith, h, other)) e
  ];
  others = λ i h. before.others i (omega (arith, h));
}
