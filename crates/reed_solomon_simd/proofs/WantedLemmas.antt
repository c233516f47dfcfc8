-- Checking wanted shards one after another.
use Rattle.std.proofs.Common.{rules, ◌≡◌, ℕ, ◌+◌, ◌<◌, List, [], ◌∷◌, length, get_or, drop}
use Rattle.std.proofs.Common.{Result}
use Rattle.std.proofs.lemmas.List.{drop_more}
use Rattle.rs_field.specs.code.Decoder.{DecoderState}
use Rattle.rs_field.specs.code.Outcome.{result_and_then}
use Rattle.reed_solomon_simd.specs.declared.reconstruct_error.ReconstructError.{ReconstructError}
use Rattle.reed_solomon_simd.specs.declared.shard_index.ShardIndex.{ShardIndex}
use Rattle.reed_solomon_simd.specs.Reconstructed.{wanted_outcome}

-- Checking a wanted shard and others is checking the shard, and then the others.
pub wanted-more : (s : DecoderState) (before rest : List ShardIndex) (shard : ShardIndex)
    → wanted_outcome s before (shard ∷ rest)
    ≡ result_and_then (λ _. wanted_outcome s (shard ∷ before) rest) (wanted_outcome s before (shard ∷ []))
wanted-more s before rest shard = search rules

-- If the next wanted shard was checked, what is left is to check the others after it, or to return its error.
pub wanted-next : (s : DecoderState) (before wanted : List ShardIndex) (i : ℕ) (d : ShardIndex)
    (o : Result (Unit {0}) ReconstructError) → i < length wanted
    → o ≡ wanted_outcome s before (get_or wanted i d ∷ [])
    → wanted_outcome s before (drop i wanted)
    ≡ result_and_then (λ _. wanted_outcome s (get_or wanted i d ∷ before) (drop (i + 1) wanted)) o
wanted-next s before wanted i d o inside checks = search (rules, drop_more, wanted-more)
