-- Listed shards are added one after another: the outcome after each shard.
use Rattle.std.proofs.Common.{rules, ◌≡◌, refl, ℕ, ◌+◌, ◌<◌, Bool, true, false, List, ◌∷◌, length, map, drop, get_or}
use Rattle.std.proofs.Common.{Result, Ok, Err, Vec, drop-cons}
use Rattle.std.specs.List.{enumerate_from, filter}
use Rattle.reed_solomon_simd.specs.declared.Error.{Error}
use Rattle.reed_solomon_simd.specs.Column.{Shard}
use Rattle.reed_solomon_simd.specs.OneCall.{one_by_one}

-- The shards of the vectors from number n on.
abbrev pub shards_from : {Y : Type 0} → ℕ → List (Vec ℕ Y) → List Shard
shards_from n vectors = map (λ vector. vector.items) (drop n vectors)

pub shards_from-next : {Y : Type 0} (n : ℕ) (vectors : List (Vec ℕ Y)) (d : Vec ℕ Y) → n < length vectors
    → shards_from n vectors ≡ (get_or vectors n d).items ∷ shards_from (n + 1) vectors
shards_from-next n vectors d inside = search (rules, drop-cons)

module _ {S : Type 0} (add : S → ℕ × Shard → Result S Error) (kept : ℕ × Shard → Bool) where
  -- The outcome of adding the shards from number n on, without the shards that are not kept.
  abbrev pub led_by : S → ℕ → List Shard → Result S Error
  led_by s n shards = one_by_one add s (filter kept (enumerate_from n shards))

  -- If a shard that is kept is added without an error, the outcome is the outcome of adding the later shards to the
  -- next state.
  pub kept-next : (s : S) {next : S} (n : ℕ) {m index : ℕ} {shard : Shard} {shards rest : List Shard}
      → shards ≡ shard ∷ rest
      → index ≡ n → m ≡ n + 1 → kept (index, shard) ≡ true
      → add s (index, shard) ≡ Ok next → led_by s n shards ≡ led_by next m rest
  kept-next s n is first after keeps taken = rw (is, after, ← first, keeps, taken) refl

  -- If a shard that is kept cannot be added, its error is the outcome.
  pub kept-refused : (s : S) (n : ℕ) {index : ℕ} {shard : Shard} {shards rest : List Shard} {e : Error}
      → shards ≡ shard ∷ rest → index ≡ n → kept (index, shard) ≡ true
      → add s (index, shard) ≡ Err e → led_by s n shards ≡ Err e
  kept-refused s n is first keeps refused = rw (is, ← first, keeps, refused) refl

  -- If a shard is not kept, the outcome is the outcome of adding the later shards.
  pub lost-next : (s : S) (n : ℕ) {m index : ℕ} {shard : Shard} {shards rest : List Shard} → shards ≡ shard ∷ rest
      → index ≡ n
      → m ≡ n + 1 → kept (index, shard) ≡ false
      → led_by s n shards ≡ led_by s m rest
  lost-next s n is first after passes = rw (is, after, ← first, passes) refl
