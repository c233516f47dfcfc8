-- The rows of a decode over chunks: their words, and the entries of the locator.
use Rattle.std.proofs.Common.{◌≡◌, ℕ, ◌%◌, ◌<◌, List, Bool, ap, ap₂, ◌∙◌, subst, ◌+◌, ◌*◌}
use mathlib.Core.Path.{fun_ext}
use Rattle.rs_field.specs.words.Locator.{IsLocatorBelow}
use Rattle.rs_field.specs.rows.Rows.{Chunks, chunk, symbol, word_in}
use Rattle.rs_field.specs.rows.View.{cell, word}
use Rattle.rs_field.specs.declared.rows.shards.ShardsRefMut.{ShardsRefMut}
use Rattle.rs_field.proofs.words_lemmas.LocatorLemmas.{log_sum-same}
use Rattle.rs_rate.specs.declared.values.configuration.Configuration.{Configuration}
use Rattle.rs_rate.specs.passes.Decoding.{FindsWords}

-- Words that are equal to the found words at the same rows are found.
finds_alike : (c : Configuration) (marks : List Bool) (surplus : ℕ)
    (old new old_too new_too : ℕ → ℕ → ℕ → ℕ) (agrees : Bool)
    → ((k s i : ℕ) → old k s i ≡ old_too k s i) → ((k s i : ℕ) → new k s i ≡ new_too k s i)
    → FindsWords c marks surplus old new agrees
    → FindsWords c marks surplus old_too new_too agrees
finds_alike c marks surplus old new old_too new_too agrees same_old same_new r =
    subst (λ (f : ℕ → ℕ → ℕ → ℕ). FindsWords c marks surplus f new_too agrees)
    (fun_ext (λ k. fun_ext (λ s. fun_ext (λ i. same_old k s i))))
    (subst (λ (f : ℕ → ℕ → ℕ → ℕ). FindsWords c marks surplus old f agrees)
    (fun_ext (λ k. fun_ext (λ s. fun_ext (λ i. same_new k s i)))) r)

-- The words that were found in the rows are found in the chunks of the rows.
pub found_read : (c : Configuration) (marks : List Bool) (surplus n : ℕ)
    (before after : Chunks) (old new : ShardsRefMut) (agrees : Bool)
    → old.shard_len_64 ≡ n → new.shard_len_64 ≡ n → old.chunks.now ≡ before → new.chunks.now ≡ after
    → FindsWords c marks surplus (word old) (word new) agrees
    → FindsWords c marks surplus (word_in before n) (word_in after n) agrees
unfolding cell
found_read c marks surplus n before after old new agrees len len_too was is restored =
    finds_alike c marks surplus (word old) (word new) (word_in before n) (word_in after n) agrees
    (λ k s i. ap₂ (λ (m : ℕ) (xs : Chunks). symbol (chunk xs (i * m + k)) s) len was)
    (λ k s i. ap₂ (λ (m : ℕ) (xs : Chunks). symbol (chunk xs (i * m + k)) s) len_too is) restored

-- Entries that are equal at all rows have the same locator.
pub locator_same : (rows : ℕ) (old entries new : ℕ → ℕ) → ((y : ℕ) → y < rows → entries y ≡ old y)
    → IsLocatorBelow rows entries new → IsLocatorBelow rows old new
locator_same rows old entries new same l x hx = l x hx ∙ ap (λ n. n % 65535) (log_sum-same rows entries old x same)
