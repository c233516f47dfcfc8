-- The transform of one row, the transform of rows of zeros, and rows that are equal.
use Rattle.std.proofs.Common.{◌≡◌, ℕ, ◌+◌, ◌<◌, List, replicate, sym, ap, ◌∙◌, arith}
use Rattle.rs_field.specs.words.Transform.{forward}
use Rattle.rs_field.specs.rows.Rows.{symbol}
use Rattle.rs_field.specs.rows.View.{cell, word, Fits, SameExtent}
use Rattle.rs_field.specs.declared.rows.shards.ShardsRefMut.{ShardsRefMut}
use Rattle.rs_field.proofs.rows_lemmas.Symbols.{symbol-zero}
use Rattle.rs_field.proofs.words_lemmas.Combination.{forward-one, forward-zero}
use Rattle.std.proofs.lemmas.Grind.{common_steps}

pub fits_kept : {a b : ShardsRefMut} → SameExtent a b → Fits a → Fits b
fits_kept p h = rw (p.count, p.len_64, p.length) h

pub word_same : (a b : ShardsRefMut) (k s i j : ℕ) → cell a k i ≡ cell b k j → word a k s i ≡ word b k s j
word_same a b k s i j e = ap (λ (c : List ℕ). symbol c s) e

-- The transform of one row is this row.
pub one_row : (size shift i : ℕ) (f : ℕ → ℕ) → size ≡ 1 → i < size → f 0 < 65536 → f i ≡ forward size shift f i
one_row size shift i f e h fits = grind (arith, common_steps, forward-one)

-- The transform of rows of zeros is rows of zeros.
pub zero_rows : (rows : ShardsRefMut) (k s a size shift i : ℕ) → s < 32 → i < size
    → ((q : ℕ) → q < size → cell rows k (a + q) ≡ replicate 64 0)
    → word rows k s (a + i) ≡ forward size shift (λ q. word rows k s (a + q)) i
zero_rows rows k s a size shift i hs hi zeros =
    let none : (q : ℕ) → q < size → word rows k s (a + q) ≡ 0 = λ q hq.
    ap (λ (c : List ℕ). symbol c s) (zeros q hq) ∙ symbol-zero s hs in
    none i hi ∙ sym (forward-zero size shift (λ q. word rows k s (a + q)) i none)
