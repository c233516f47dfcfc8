use Rattle.std.proofs.Common.{◌≡◌, ℕ, ◌<◌, get_or, length}
use Rattle.rs_field.specs.words.Field.{product, generator}
use Rattle.rs_field.proofs.words.powers.low_products.Given as goal

abbrev pub invariant-loop-i : goal.invariant-loop-i
invariant-loop-i l = record {
  size : length l.products ≡ 256;
  so_far : (k : ℕ) → k < l.i → get_or l.products k 0 ≡ product k generator;
}
