use Rattle.std.proofs.Common.{ℕ, ◌<◌, [], get_or}
use Rattle.rs_field.specs.words.Field.{power}
use Rattle.rs_field.specs.words.Products.{IsNibbleBytes}
use Rattle.rs_ffi.specs.Tables.{products_of}
use Rattle.rs_ffi.proofs.tables.fill_products.Given as goal

abbrev pub invariant-loop-m : goal.invariant-loop-m
invariant-loop-m l = (k : ℕ) → k < l.m → IsNibbleBytes (power k) (products_of (get_or l.table k []))
