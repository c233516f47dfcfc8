-- The logarithm of a factor, and the products with a factor.
use Rattle.std.specs.Prelude.{◌≡◌, ℕ, slice_index}
use Rattle.rs_field.specs.declared.words.table_types.Multiply128lutT.{Multiply128lutT}
use Rattle.rs_engines.specs.declared.any_factor.AnyFactor.{AnyFactor}
use Rattle.rs_engines.specs.declared.shuffle_tables.Products.{Products}

-- the logarithm of a factor of any class; 65535 represents the factor zero
abbrev pub log_of : AnyFactor → ℕ
log_of (AnyFactor.Zero factor) = 65535
log_of (AnyFactor.Small factor) = factor.log_m
log_of (AnyFactor.General factor) = factor.log_m

-- the six look-ups of a small factor need only four numbers: the high bytes of the products of high bytes are the low
-- bytes of the products of low bytes; no other factor needs so few
abbrev pub NeedsFourNumbers : AnyFactor → Type 0
NeedsFourNumbers (AnyFactor.Zero factor) = ⊥
NeedsFourNumbers (AnyFactor.Small factor) =
    let products = factor.products.now in
    (slice_index products.hi 2 ≡ slice_index products.lo 0) × (slice_index products.hi 3 ≡ slice_index products.lo 1)
NeedsFourNumbers (AnyFactor.General factor) = ⊥

-- the products with one factor, which are held or lent
abbrev pub products_of : Products → Multiply128lutT
products_of (Products.Lent products) = products.now
products_of (Products.Held products) = products
