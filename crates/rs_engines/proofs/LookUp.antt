-- Look-ups by shuffles. Each group of 16 lanes looks up in its own copy of a table of 16 bytes.
use Rattle.std.proofs.Common.{◌≡◌, ℕ, List, ◌<◌, ◌*◌, ◌+◌, ◌/◌, ◌%◌, ◌^◌, length, get_or, replicate, refl, bit_and}
use Rattle.std.proofs.Common.{Fits, ap, sym, ◌∙◌, arith, w8}
use Rattle.std.proofs.lemmas.Nat.{and_mask, and_le_r}
use lib.Lanes.{zip2, Each1}
use Rattle.std.proofs.lemmas.Simd.{length-replicate, swz_l, SwzOk, SwzOk-from_below, Each1-zip2, Each2-splat, Each1-all}
use Rattle.std.proofs.lemmas.Simd.{Each1-weaker, below_from_Fits, length-zip2, get_or-swz_l_below, get_or-zip2}
use Rattle.std.proofs.lemmas.Simd.{get_or-replicate}
use Rattle.rs_field.specs.words.Products.{byte_at}
use Rattle.rs_field.proofs.rows_lemmas.Symbols.{byte_of}

-- The indexes into the table, which are computed from the bytes of a vector and one number.
module _ (n b : ℕ) (v : List ℕ) (blocks : n ≡ b * 16) (long : length v ≡ n) (f : ℕ → ℕ → ℕ) (m : ℕ)
    (small : Each1 (λ a. f a m < 16) v) where
  abbrev places : List ℕ
  places = zip2 f v (replicate n m)

  long_places : length places ≡ n
  long_places = length-zip2 f v (replicate n m) (long ∙ sym (length-replicate {A = ℕ} n m)) ∙ long

  are_places : SwzOk w8 16 n 0 places
  are_places =
      SwzOk-from_below w8 16 b n 0 places blocks (omega (arith, long_places))
      (Each1-zip2 f (λ j. j < 16) v (replicate n m) (Each2-splat (λ a b. f a b < 16) v n m small))

  -- Each lane of the result is the byte of the table at the index that was computed for this lane.
  looked_up : (table : List ℕ) (t i p : ℕ) → ((j : ℕ) → j < n → get_or table j 0 ≡ byte_at t (j % 16)) → i < n
      → f (get_or v i 0) m ≡ p → p < 16
      → get_or (swz_l w8 16 table 0 places) i 0 ≡ byte_at t p
  looked_up table t i p is h at below =
      let here : get_or places i 0 ≡ p =
      get_or-zip2 f v (replicate n m) i 0 0 0 (omega arith) (omega (arith, length-replicate {A = ℕ} n m))
      ∙ ap (f (get_or v i 0)) (get_or-replicate n i m 0 h) ∙ at in
      get_or-swz_l_below w8 16 table 0 places i (omega (arith, long_places)) (omega arith)
      ∙ ap (λ k. get_or table k 0) (omega arith)
      ∙ is (16 * (i / 16) + p) (omega arith)
      ∙ ap (byte_at t) (omega arith)

abbrev down : ℕ → ℕ → ℕ
down a b = a / 2 ^ b

module _ (n b : ℕ) (v : List ℕ) (blocks : n ≡ b * 16) (long : length v ≡ n) where
  low_small : Each1 (λ a. bit_and a 15 < 16) v
  low_small = Each1-all (λ a. bit_and a 15 < 16) (λ a. omega (arith, and_le_r a 15)) v

  pub low_places : SwzOk w8 16 n 0 (zip2 bit_and v (replicate n 15))
  low_places = are_places n b v blocks long bit_and 15 low_small

  pub low_byte : (table : List ℕ) (t i : ℕ) → ((j : ℕ) → j < n → get_or table j 0 ≡ byte_at t (j % 16)) → i < n
      → get_or (swz_l w8 16 table 0 (zip2 bit_and v (replicate n 15))) i 0 ≡ byte_at t (get_or v i 0 % 16)
  low_byte table t i is h =
      looked_up n b v blocks long bit_and 15 low_small table t i (get_or v i 0 % 16) is h (and_mask (get_or v i 0) 4)
      (omega arith)

  high_small : Each1 (Fits w8) v → Each1 (λ a. a / 16 < 16) v
  high_small fits = Each1-weaker (λ a. a < 256) (λ a. a / 16 < 16) (λ a h. omega arith) v (below_from_Fits w8 v fits)

  pub high_places : Each1 (Fits w8) v → SwzOk w8 16 n 0 (zip2 down v (replicate n 4))
  high_places fits = are_places n b v blocks long down 4 (high_small fits)

  pub high_byte : (table : List ℕ) (t i : ℕ) → Each1 (Fits w8) v
      → ((j : ℕ) → j < n → get_or table j 0 ≡ byte_at t (j % 16)) → i < n
      → get_or (swz_l w8 16 table 0 (zip2 down v (replicate n 4))) i 0 ≡ byte_at t (get_or v i 0 / 16)
  high_byte table t i fits is h =
      looked_up n b v blocks long down 4 (high_small fits) table t i (get_or v i 0 / 16) is h refl
      (let small = byte_of v i fits in omega arith)
