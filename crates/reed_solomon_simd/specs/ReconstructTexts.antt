-- The text of each error of a call that reconstructs wanted shards.
use Rattle.std.specs.Prelude.{ℕ, List, ◌++◌, codes}
use Rattle.std.specs.Fmt.{decimal}
use Rattle.rs_field.specs.code.Texts.{text_of}
use Rattle.reed_solomon_simd.specs.declared.reconstruct_error.ReconstructError.{ReconstructError}
use Rattle.reed_solomon_simd.specs.declared.reconstruct_error.ReconstructError.TheVariants.{
  Refused,
  WantedIndexTooLarge,
}
use Rattle.reed_solomon_simd.specs.declared.reconstruct_error.ReconstructError.TheVariants.{WantedTwice, WantedReceived}
use Rattle.reed_solomon_simd.specs.declared.reconstruct_error.ReconstructError.TheVariants.{WrongNumberOfRooms}
use Rattle.reed_solomon_simd.specs.declared.reconstruct_error.ReconstructError.TheVariants.{WrongLength}
use Rattle.reed_solomon_simd.specs.declared.shard_index.ShardIndex.{ShardIndex}
use Rattle.reed_solomon_simd.specs.declared.shard_index.ShardIndex.TheVariants.{Original, Recovery}

-- the name of a shard, with its index in decimal digits
abbrev pub text_of_shard_index : ShardIndex → List ℕ
text_of_shard_index (Original index) = codes "original " ++ decimal index
text_of_shard_index (Recovery index) = codes "recovery shard " ++ decimal index

-- the text of an error, with its numbers in decimal digits
abbrev pub text_of_reconstruct_error : ReconstructError → List ℕ
text_of_reconstruct_error (Refused error) = text_of error
text_of_reconstruct_error (WantedIndexTooLarge wanted count) =
    codes "wanted index too large: " ++ text_of_shard_index wanted ++ codes ", count " ++ decimal count
text_of_reconstruct_error (WantedTwice wanted) = codes "shard wanted twice: " ++ text_of_shard_index wanted
text_of_reconstruct_error (WantedReceived wanted) = codes "wanted shard was received: " ++ text_of_shard_index wanted
text_of_reconstruct_error (WrongNumberOfRooms wanted got) =
    codes "wrong number of rooms: expected " ++ decimal wanted ++ codes ", got " ++ decimal got
text_of_reconstruct_error (WrongLength wanted got) =
    codes "wrong length: expected " ++ decimal wanted ++ codes " bytes, got " ++ decimal got ++ codes " bytes"
