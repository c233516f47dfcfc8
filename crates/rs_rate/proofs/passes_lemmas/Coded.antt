-- The recovery shards of a message, from the words of each column.
use Rattle.std.proofs.Common.{rules, ◌≡◌, ℕ, zero, suc, ◌/◌, ◌<◌, List, [], ◌∷◌, ◌++◌, refl, sym, ap, ◌∙◌, subst}
use Rattle.std.proofs.lemmas.List.{map-append}
use Rattle.rs_field.specs.code.Column.{Shard, IsShard, column, columns}
use Rattle.rs_field.specs.code.Code.{AreRecovery, AreRecoveryWords}
use Rattle.rs_field.specs.code.Configuration.{Configuration}
use Rattle.rs_field.specs.code.Counts.{Rate}
use Rattle.rs_field.specs.words.UpTo.{up_to}
use Rattle.rs_field.specs.rows.Rows.{Chunks, word_in}
use Rattle.rs_field.specs.rows.View.{cell, word}
use Rattle.rs_field.specs.declared.rows.shards.ShardsRefMut.{ShardsRefMut}
use Rattle.rs_field.proofs.words_lemmas.UpTo.{length-up_to, up_to-same, all-up_to}
use Rattle.rs_rate.specs.passes.Coding.{CodesWords}

-- Words that are equal to coded words at the same indexes are coded.
pub words-read : (rate : Rate) (k r : ℕ) (old new old_read new_read : ℕ → ℕ) → ((i : ℕ) → i < k → old_read i ≡ old i)
    → ((i : ℕ) → i < r → new_read i ≡ new i)
    → CodesWords rate k r old new → CodesWords rate k r old_read new_read
words-read rate k r old new old_read new_read same_old same_new coded = search (rules, up_to-same)

-- Words read from the chunks of coded rows are coded.
pub rows-read : (rate : Rate) (k r n c s : ℕ) (before after : Chunks) (old new : ShardsRefMut) → old.shard_len_64 ≡ n
    → new.shard_len_64 ≡ n
    → old.chunks.now ≡ before → after ≡ new.chunks.now
    → CodesWords rate k r (word old c s) (word new c s)
    → CodesWords rate k r (word_in before n c s) (word_in after n c s)
unfolding cell
rows-read rate k r n c s before after old new len len_too was is coded = search rules

columns-up_to : (j n : ℕ) (shards : ℕ → Shard) → columns j (up_to n shards) ≡ up_to n (λ i. column j (shards i))
columns-up_to j zero shards = refl
columns-up_to j (suc n) shards =
    map-append (column j) (up_to n shards) (shards n ∷ [])
    ∙ ap (λ words. words ++ column j (shards n) ∷ []) (columns-up_to j n shards)

-- If the words of each column are recovery words, the shards are the recovery shards of the message.
pub are_recovery : (c : Configuration) (laid moved : ℕ → Shard)
    → ((i : ℕ) → i < c.recovery_count → IsShard c.shard_bytes (moved i))
    → ((j : ℕ) → j < c.shard_bytes / 2
    → CodesWords c.rate c.original_count c.recovery_count (λ i. column j (laid i)) (λ i. column j (moved i)))
    → AreRecovery c (up_to c.original_count laid) (up_to c.recovery_count moved)
are_recovery c laid moved shards coded =
    record {
      shards = record {
        length_is = length-up_to c.recovery_count moved;
        each =
            all-up_to (IsShard c.shard_bytes) c.recovery_count moved shards;
      };
      words = λ j inside.
          subst (λ (words : List ℕ).
          AreRecoveryWords c.rate c.original_count c.recovery_count words
          (columns j (up_to c.recovery_count moved))) (sym (columns-up_to j c.original_count laid))
          (subst (λ (words : List ℕ).
          AreRecoveryWords c.rate c.original_count c.recovery_count
          (up_to c.original_count (λ i. column j (laid i))) words) (sym (columns-up_to j c.recovery_count moved))
          (coded j inside));
    }
