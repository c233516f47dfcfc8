use Rattle.std.proofs.Common.{◌≡◌, ℕ, ◌<◌, [], get_or, length}
use Rattle.rs_field.specs.words.Field.{power}
use Rattle.rs_field.specs.words.Products.{IsNibbles}
use Rattle.rs_field.proofs.words.mul16.mul16_table.Given as goal

abbrev pub invariant-loop-m : goal.invariant-loop-m
invariant-loop-m l = record {
  size : length l.table.items ≡ l.m;
  so_far : (k : ℕ) → k < l.m → IsNibbles (power k) (get_or l.table.items k []);
}
