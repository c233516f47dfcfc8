-- Slices of chunks that are lent, one, two or four at once, and the lengths of the parts of a list of chunks.
use Rattle.rs_field.proofs.Walking.{◌≡◌, ℕ, ◌+◌, ◌-◌, ◌≤◌, arith, [], ◌∷◌, length, take, drop_list, length-drop}
use Rattle.rs_field.proofs.Walking.{length-take-le, named, Lft, u8, RattleType, Array, MutSlice, row, tuple_type, shape}
use Rattle.rs_field.proofs.Walking.{List, Val, MutBor}
use base.Fml.{Fml}
use seplogic.Ra.Ura.{Ura}
use types.Logic.{Logic}
use denote.Laws.{Lawful, Lawfuls}
use denote.Slice.{mut_slice_Lawful}
use denote.Struct.Struct.{Struct, Struct-Lawful}
use denote.Struct.Declared.{Declared, fields}
use denote.Struct.Recorded.{recorded_lawful}
use Rattle.rs_field.specs.rows.Rows.{Chunks}
use Rattle.rs_field.specs.rows.Lending.{between}
use Rattle.rs_field.specs.contracts.rows.shards.ShardsRefMut.{the_row}

abbrev pub E : RattleType
E = Array u8 64

abbrev pub Bare : RattleType
Bare = the_row (record { mir = named 1; lft = [] })

abbrev Lent : Lft → RattleType
Lent κ = MutSlice (named 0) κ E

abbrev pub Slice : Lft → MutBor Chunks → List Val → Fml
Slice κ = (Lent κ).own_val

abbrev pub Pair : Lft → RattleType
Pair κ = row (tuple_type (Lent κ ∷ Lent κ ∷ []))

abbrev pub Fours : Lft → RattleType
Fours κ = row (tuple_type (Lent κ ∷ Lent κ ∷ Lent κ ∷ Lent κ ∷ []))

module _ {M : Type 1} {𝓤 : Ura M} (𝓛 : Logic 𝓤) (κ : Lft) where
  slice : Lawful 𝓛 (Lent κ)
  slice = mut_slice_Lawful 𝓛 (named 0) κ E

  declared : (T : Declared) → Lawfuls 𝓛 (fields T) → Lawful 𝓛 (row T)
  declared T laws = recorded_lawful (Struct (shape T)) T.D T.to T.to_one 𝓛 (Struct-Lawful 𝓛 (shape T) laws)

  pub pair : Lawful 𝓛 (Pair κ)
  pair = declared (tuple_type (Lent κ ∷ Lent κ ∷ [])) (slice, (slice, tt))

  pub fours : Lawful 𝓛 (Fours κ)
  fours = declared (tuple_type (Lent κ ∷ Lent κ ∷ Lent κ ∷ Lent κ ∷ [])) (slice, (slice, (slice, (slice, tt))))

-- The lengths of the parts into which a list of chunks is cut.
pub taken : (xs : Chunks) (i n : ℕ) → i + n ≤ length xs → length (take n (drop_list i xs)) ≡ n
taken xs i n within = let left = length-drop i xs in length-take-le n (drop_list i xs) (omega arith)

pub between-long : (xs : Chunks) (i j : ℕ) → i ≤ j → j ≤ length xs → length (between i j xs) ≡ j - i
between-long xs i j ordered within = taken xs i (j - i) (omega arith)
