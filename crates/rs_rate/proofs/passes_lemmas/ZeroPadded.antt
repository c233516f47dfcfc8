-- The first words, and zeros after them.
use Rattle.std.proofs.Common.{◌≡◌, ℕ, ◌<◌, ◌≤◌, Bool, cond, ap}
use Rattle.std.specs.Prelude.{nat_lt}
use Rattle.std.proofs.lemmas.Bool.{lt-ltb, le-ltb}
use Rattle.rs_rate.specs.passes.Coding.{zero_padded}

module _ (k : ℕ) (words : ℕ → ℕ) (i : ℕ) where
  pub zero_padded-in : i < k → zero_padded k words i ≡ words i
  unfolding zero_padded
  zero_padded-in inside = ap (λ (b : Bool). cond b (words i) 0) (lt-ltb i k inside)

  pub zero_padded-past : k ≤ i → zero_padded k words i ≡ 0
  unfolding zero_padded
  zero_padded-past past = ap (λ (b : Bool). cond b (words i) 0) (le-ltb i k past)

  pub zero_padded-same : (others : ℕ → ℕ) → words i ≡ others i → zero_padded k words i ≡ zero_padded k others i
  unfolding zero_padded
  zero_padded-same others same = ap (λ w. cond (nat_lt i k) w 0) same
