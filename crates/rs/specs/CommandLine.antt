-- The request that a command line represents.
use Rattle.std.specs.Prelude.{ℕ, Bool, List, [], ◌∷◌, length, codes, nat_lt, ◌==◌, Option, Some, None, if◌then◌else◌}
use Rattle.std.specs.List.{position_or_len, before_first, after_first}
use Rattle.std.specs.Option.{option_map, option_zip}
use Rattle.std.specs.Str.{bytes_eq}
use Rattle.reed_solomon_simd.specs.Column.{Shard}
use Rattle.reed_solomon_simd.specs.OneCall.{Items}
use Rattle.reed_solomon_simd.specs.declared.engine.EngineKind.{EngineKind}
use Rattle.reed_solomon_simd.specs.Kind.{engine_named}
use Rattle.rs.specs.Hex.{bytes_of_hex}
use Rattle.rs.specs.Number.{number_of}

-- the shards that words represent, if each word is HEX
abbrev pub shards_of : List (List ℕ) → Option (List Shard)
shards_of [] = Some []
shards_of (word ∷ words) = option_map (λ p. p.0 ∷ p.1) (option_zip (bytes_of_hex word) (shards_of words))

-- the sign between an index and a shard: `=` is 61
abbrev pub is_equals_sign : ℕ → Bool
is_equals_sign c = c == 61

-- the index and the shard that a text represents, if it is I=HEX
abbrev pub indexed_shard_of : List ℕ → Option (ℕ × Shard)
indexed_shard_of text =
    if nat_lt (position_or_len is_equals_sign text) (length text)
    then option_zip (number_of (before_first is_equals_sign text)) (bytes_of_hex (after_first is_equals_sign text))
    else None

-- an original or a recovery shard, with its index
pub data Item : Type 0 where
  OriginalItem : ℕ × Shard → Item
  RecoveryItem : ℕ × Shard → Item

-- the shard that a word represents, if it is an ITEM: oI=HEX is an original and rI=HEX is a recovery shard. `o` is 111
-- and `r` is 114
abbrev pub item_of : List ℕ → Option Item
item_of [] = None
item_of (letter ∷ text) =
    if letter == 111 then option_map OriginalItem (indexed_shard_of text)
    else if letter == 114 then option_map RecoveryItem (indexed_shard_of text)
    else None

-- given shards with their indexes: originals, and recovery shards
pub record GivenItems : Type 0 where
  pub originals : Items
  pub recovery : Items

-- given shards after one more shard was put before them
abbrev pub with_item : Item → GivenItems → GivenItems
with_item (OriginalItem item) given = record { originals = item ∷ given.originals; recovery = given.recovery }
with_item (RecoveryItem item) given = record { originals = given.originals; recovery = item ∷ given.recovery }

-- the shards that words represent, if each word is an ITEM
abbrev pub items_of : List (List ℕ) → Option GivenItems
items_of [] = Some (record { originals = []; recovery = [] })
items_of (word ∷ words) = option_map (λ p. with_item p.0 p.1) (option_zip (item_of word) (items_of words))

-- the two kinds of commands: encode these originals, or restore originals from these shards
pub data Task : Type 0 where
  Coded : List Shard → Task
  Restored : GivenItems → Task

-- a request: an engine, the counts of originals and of recovery shards, and a task
pub record Request : Type 0 where
  pub engine : EngineKind
  pub original_count : ℕ
  pub recovery_count : ℕ
  pub task : Task

-- what the name of a command and the words after the counts ask for, if they are valid
abbrev pub task_of : List ℕ → List (List ℕ) → Option Task
task_of command words =
    if bytes_eq command (codes "encode") then option_map Coded (shards_of words)
    else if bytes_eq command (codes "decode") then option_map Restored (items_of words)
    else None

-- the request that words represent, or None if they are not a valid command line
abbrev pub request_of : List (List ℕ) → Option Request
request_of (command ∷ engine ∷ original ∷ recovery ∷ words) =
    option_map (λ p. record { engine = p.0; original_count = p.1.0.0; recovery_count = p.1.0.1; task = p.1.1 })
    (option_zip (engine_named engine)
    (option_zip (option_zip (number_of original) (number_of recovery)) (task_of command words)))
request_of _ = None
