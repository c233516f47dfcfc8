use Rattle.std.proofs.Common.{◌≡◌, ℕ, ◌<◌, get_or, length}
use Rattle.rs_field.specs.words.Field.{power}
use Rattle.rs_field.specs.words.Products.{IsNibbleBytes}
use Rattle.rs_field.specs.declared.words.table_types.Multiply128lutT.{Multiply128lutT}
use Rattle.rs_field.proofs.words.mul128.mul128_table.Given as goal

abbrev pub invariant-loop-m : goal.invariant-loop-m
invariant-loop-m l = record {
  size : length l.table.items ≡ l.m;
  so_far : (k : ℕ) (d : Multiply128lutT) → k < l.m → IsNibbleBytes (power k) (get_or l.table.items k d);
}
