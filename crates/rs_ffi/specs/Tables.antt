-- The tables in memory of a C program.
use Rattle.std.specs.Prelude.{◌≡◌, ℕ, ◌+◌, ◌*◌, ◌^◌, ◌<◌, List, [], ◌∷◌, slice_index, slice_index_or}
use Rattle.rs_field.specs.declared.words.table_types.Multiply128lutT.{Multiply128lutT}
use Rattle.rs_field.specs.words.Field.{power}
use Rattle.rs_field.specs.words.Products.{IsNibbleBytes}
use Rattle.rs_field.specs.words.Tables.{IsSkew, AreLogWalshes}
use Rattle.rs_ffi.specs.declared.tables.RsTables.{RsTables}
use Rattle.rs_ffi.specs.declared.tables.TheConstants.{STAMP}

-- number n of a list of numbers of 16 bytes. Each number is stored as two halves, the lower half first
abbrev pub number : List ℕ → ℕ → ℕ
number halves n = slice_index halves (2 * n) + 2 ^ 64 * slice_index halves (2 * n + 1)

-- the products with one factor. Their eight numbers are stored as halves, the four numbers of the low bytes first
abbrev pub products_of : List ℕ → Multiply128lutT
products_of halves =
    record {
      lo = number halves 0 ∷ number halves 1 ∷ number halves 2 ∷ number halves 3 ∷ [];
      hi = number halves 4 ∷ number halves 5 ∷ number halves 6 ∷ number halves 7 ∷ [];
    }

-- entry m of the table holds the products with the generator to the power m
abbrev pub AreProducts : List (List ℕ) → Type 0
AreProducts table = (m : ℕ) → m < 65536 → IsNibbleBytes (power m) (products_of (slice_index_or table m []))

-- the tables have the stamp that `rs_tables_make` writes last
abbrev pub AreStamped : RsTables → Type 0
AreStamped tables = tables.stamp ≡ STAMP

-- the tables are filled: they hold the tables of the field, and the stamp
pub record AreTables (tables : RsTables) : Type 0 where
  pub products : AreProducts tables.products
  pub skew : IsSkew tables.skew
  pub log_walsh : AreLogWalshes tables.log_walsh
  pub stamp : AreStamped tables
