-- One layer of butterflies between the halves of a block, and two layers between its quarters, for one symbol of the
-- rows.
use Rattle.std.proofs.Common.{rules, ◌≡◌, ℕ, suc, ◌+◌, ◌-◌, ◌*◌, ◌%◌, ◌^◌, ◌<◌, ◌≤◌, cond, nat_lt, List, get_or}
use Rattle.std.proofs.Common.{bit_xor, sym, ap, ap₂, ◌∙◌, subst, arith, zero}
use Rattle.std.proofs.Math.Nat.{mul-le-mul_right}
use Rattle.std.proofs.lemmas.Grind.{common_steps}
use Rattle.rs_field.specs.words.Field.{product}
use Rattle.rs_field.specs.words.Subspace.{subspace}
use Rattle.rs_field.specs.words.Transform.{forward}
use Rattle.rs_field.specs.words.Tables.{IsSkew, times_factor}
use Rattle.rs_field.specs.rows.Pairs.{IsForwardTwo, IsBackwardTwo}
use Rattle.rs_field.specs.rows.TwoLayers.{forward_first, forward_second, backward_first, backward_second, IsForwardFour}
use Rattle.rs_field.specs.rows.TwoLayers.{IsBackwardFour}
use Rattle.rs_field.specs.rows.Layers.{ArePartsOf}
use Rattle.rs_field.proofs.words_lemmas.Combination.{lower_half, upper_half}
use Rattle.rs_field.proofs.words_lemmas.Halves.{half_power, few_halves, shift_half, table_factor, xor_undo}

-- The size of a block, its position among the points, and its table of factors.
pub record IsBlock (skew : List ℕ) (size shift : ℕ) : Type 0 where
  pub table : IsSkew skew
  pub large : 1 < size
  pub power : (d : ℕ) × (size ≡ 2 ^ d)
  pub aligned : shift % size ≡ 0
  pub points : shift + size ≤ 65536

-- Both halves of a block of more than two rows are blocks.
block_halves : {skew : List ℕ} (n : ℕ) {shift : ℕ} → IsBlock skew (n + n) shift → 1 < n → IsBlock skew n shift
    × IsBlock skew n (shift + n)
block_halves n {shift} b large =
    let p = half_power (n + n) b.large b.power in
    let half : n ≡ 2 ^ p.0 = omega (arith, p.2) in
    let s = shift_half (n + n) p.0 shift p.1 b.aligned in (
      record {
        table = b.table;
        large = large;
        power =
            (p.0, half);
        aligned = subst (λ (m : ℕ). shift % m ≡ 0) (sym half) s.0;
        points = omega (arith, b.points);
      },
      record {
        table = b.table;
        large = large;
        power = (p.0, half);
        aligned = subst (λ (m : ℕ). (shift + m) % m ≡ 0) (sym half) s.1;
        points = omega (arith, b.points);
      },
    )

-- The factor of the butterflies between the halves, as a logarithm.
abbrev pub factor : List ℕ → ℕ → ℕ → ℕ
factor skew half shift = get_or skew (shift + half - 1) 0

-- The words g are the result of one layer of butterflies between the halves of the words f.
pub record IsLayer (skew : List ℕ) (half shift : ℕ) (f g : ℕ → ℕ) : Type 0 where
  pub first : (q : ℕ) → q < half → g q ≡ bit_xor (f q) (times_factor (factor skew half shift) (f (half + q)))
  pub second : (q : ℕ) → q < half → g (half + q) ≡ bit_xor (f (half + q)) (g q)

made : {skew : List ℕ} {n : ℕ} (e : ℕ) {shift : ℕ} {f g : ℕ → ℕ} → IsBlock skew (n + n) shift → n ≡ 2 ^ e
    → IsLayer skew n shift f g
    → (q : ℕ) → q < 2 ^ e → g q ≡ bit_xor (f q) (product (f (2 ^ e + q)) (subspace e shift))
made e b half l q hq = grind (arith, common_steps, table_factor)

module _ {skew : List ℕ} {n shift : ℕ} (i : ℕ) {f g : ℕ → ℕ} (b : IsBlock skew (n + n) shift) (hi : i < n)
    (l : IsLayer skew n shift f g) where
  -- Transforming the first half of the words after one layer gives the first half of the transform of the whole.
  layer_low : forward n shift g i ≡ forward (n + n) shift f i
  layer_low =
      let (e, is, part) = half_power (n + n) b.large b.power in
      let half : n ≡ 2 ^ e = omega (arith, part) in
      ap (λ m. forward m shift g i) half
      ∙ lower_half e shift (few_halves (n + n) e shift is b.points) (subst (λ (m : ℕ). shift % m ≡ 0) is b.aligned)
      (subst (λ (m : ℕ). shift + m ≤ 65536) is b.points) f g i (subst (λ (m : ℕ). i < m) half hi) (made e b half l)
      ∙ ap (λ m. forward m shift f i) (sym is)

  -- Transforming the second half of the words after one layer gives the second half of the transform of the whole.
  layer_high : forward n (shift + n) (λ q. g (n + q)) i ≡ forward (n + n) shift f (n + i)
  layer_high =
      let (e, is, part) = half_power (n + n) b.large b.power in
      let half : n ≡ 2 ^ e = omega (arith, part) in
      ap (λ m. forward m (shift + m) (λ q. g (n + q)) i) half
      ∙ upper_half e shift (few_halves (n + n) e shift is b.points) (subst (λ (m : ℕ). shift % m ≡ 0) is b.aligned)
      (subst (λ (m : ℕ). shift + m ≤ 65536) is b.points) f g i (subst (λ (m : ℕ). i < m) half hi) (made e b half l)
      (λ q. g (n + q))
      (λ q hq. l.second q (subst (λ (m : ℕ). q < m) (sym half) hq) ∙ ap (λ m. bit_xor (f (m + q)) (g q)) half)
      ∙ ap₂ (λ m o. forward m shift f (o + i)) (sym is) (sym half)

-- The transform of part j, with another name for the place where the part begins.
as_part : (size n shift j i to at : ℕ) (f g : ℕ → ℕ) (place : ℕ → ℕ) → shift + j * n ≡ to → j * n + i ≡ at
    → ((q : ℕ) → j * n + q ≡ place q)
    → forward n to (λ q. g (place q)) i ≡ forward size shift f at
    → forward n (shift + j * n) (λ q. g (j * n + q)) i ≡ forward size shift f (j * n + i)
as_part size n shift j i to at f g place e is same r = search rules

-- One layer leaves two parts of the transform.
pub one_layer : {skew : List ℕ} {n shift : ℕ} {f g : ℕ → ℕ} → IsBlock skew (n + n) shift → IsLayer skew n shift f g
    → ArePartsOf (n + n) n shift f g
one_layer {n} {shift} {f} {g} b l zero i hj hi =
    as_part (n + n) n shift 0 i shift i f g (λ q. q) (omega arith) (omega arith) (λ q. omega arith) (layer_low i b hi l)
one_layer {n} {shift} {f} {g} b l (suc zero) i hj hi =
    as_part (n + n) n shift 1 i (shift + n) (n + i) f g (λ q. n + q) (omega arith) (omega arith) (λ q. omega arith)
    (layer_high i b hi l)
one_layer {n} b l (suc (suc j)) i hj hi = let le : 2 * n ≤ suc (suc j) * n =
    mul-le-mul_right n (omega arith) in absurd (omega arith)

-- Two layers leave four parts of the transform.
pub two_layers : {skew : List ℕ} {n shift : ℕ} {f g h : ℕ → ℕ} → IsBlock skew (n + n + (n + n)) shift
    → IsLayer skew (n + n) shift f g
    → IsLayer skew n shift g h → IsLayer skew n (shift + (n + n)) (λ q. g (n + n + q)) (λ q. h (n + n + q))
    → ArePartsOf (n + n + (n + n)) n shift f h
two_layers {skew} {n} {shift} {f} {h} b l low high = parts (block_halves (n + n) b (omega (arith, b.large)))
  where
    parts : IsBlock skew (n + n) shift × IsBlock skew (n + n) (shift + (n + n))
        → ArePartsOf (n + n + (n + n)) n shift f h
    parts b2 zero i hj hi =
        as_part (n + n + (n + n)) n shift 0 i shift i f h (λ q. q) (omega arith) (omega arith) (λ q. omega arith)
        (layer_low i b2.0 hi low ∙ layer_low i b (omega arith) l)
    parts b2 (suc zero) i hj hi =
        as_part (n + n + (n + n)) n shift 1 i (shift + n) (n + i) f h (λ q. n + q) (omega arith) (omega arith)
        (λ q. omega arith) (layer_high i b2.0 hi low ∙ layer_low (n + i) b (omega arith) l)
    parts b2 (suc (suc zero)) i hj hi =
        as_part (n + n + (n + n)) n shift 2 i (shift + (n + n)) (n + n + i) f h (λ q. n + n + q) (omega arith)
        (omega arith) (λ q. omega arith) (layer_low i b2.1 hi high ∙ layer_high i b (omega arith) l)
    parts b2 (suc (suc (suc zero))) i hj hi =
        as_part (n + n + (n + n)) n shift 3 i (shift + (n + n) + n) (n + n + (n + i)) f h (λ q. n + n + (n + q))
        (omega arith) (omega arith) (λ q. omega arith) (layer_high i b2.1 hi high
        ∙ layer_high (n + i) b (omega arith) l)
    parts b2 (suc (suc (suc (suc j)))) i hj hi = let le : 4 * n ≤ suc (suc (suc (suc j))) * n =
        mul-le-mul_right n (omega arith) in absurd (omega arith)

-- ---- butterflies of four words

-- The words between the two layers of butterflies.
between : (log_m half : ℕ) (f : ℕ → ℕ) → ℕ → ℕ
between log_m half f q =
    cond (nat_lt q half) (forward_first log_m (f q) (f (half + q))) (forward_second log_m (f (q - half)) (f q))

between_first : (log_m half : ℕ) (f : ℕ → ℕ) (q : ℕ) → q < half
    → between log_m half f q ≡ forward_first log_m (f q) (f (half + q))
unfolding between
between_first log_m half f q hq = grind (arith, common_steps)

between_second : (log_m half : ℕ) (f : ℕ → ℕ) (q : ℕ)
    → between log_m half f (half + q) ≡ forward_second log_m (f q) (f (half + q))
unfolding between
between_second log_m half f q = grind (arith, common_steps)

-- A relation of four old words and four new words holds at each offset in the four quarters of n words.
abbrev pub at_quarters : (ℕ → ℕ → ℕ → ℕ → ℕ → ℕ → ℕ → ℕ → Type 0) → ℕ → (ℕ → ℕ) → (ℕ → ℕ) → Type 0
at_quarters related n f h =
    (q : ℕ) → q < n → related (f q) (f (n + q)) (f (n + n + q)) (f (n + n + (n + q))) (h q) (h (n + q)) (h (n + n + q))
    (h (n + n + (n + q)))

-- Forward butterflies of four words leave the four parts of the transform of a block.
pub forward_parts : {skew : List ℕ} (n : ℕ) {shift : ℕ} (f h : ℕ → ℕ) → IsBlock skew (n + n + (n + n)) shift
    → at_quarters (IsForwardFour (factor skew (n + n) shift) (factor skew n shift) (factor skew n (shift + (n + n)))) n
    f h
    → ArePartsOf (n + n + (n + n)) n shift f h
forward_parts {skew} n {shift} f h b four =
    two_layers b (record {
      first = λ q hq. between_first m (n + n) f q hq;
      second = λ q hq. between_second m (n + n) f q
          ∙ ap (bit_xor (f (n + n + q))) (sym (between_first m (n + n) f q hq));
    })
    (record {
      first = λ q hq. (four q hq).0 ∙ sym (ap₂ (forward_first (factor skew n shift)) (g0 q hq) (g1 q hq));
      second = λ q hq. (four q hq).1 ∙ sym (ap₂ bit_xor (g1 q hq) ((four q hq).0));
    })
    (record {
      first = λ q hq. (four q hq).2 ∙ sym (ap₂ (forward_first (factor skew n (shift + (n + n)))) (g2 q) (g3 q));
      second = λ q hq. (four q hq).3 ∙ sym (ap₂ bit_xor (g3 q) ((four q hq).2));
    })
  where
    m : ℕ
    m = factor skew (n + n) shift

    g : ℕ → ℕ
    g = between m (n + n) f

    g0 : (q : ℕ) → q < n → g q ≡ forward_first m (f q) (f (n + n + q))
    g0 q hq = between_first m (n + n) f q (omega arith)

    g1 : (q : ℕ) → q < n → g (n + q) ≡ forward_first m (f (n + q)) (f (n + n + (n + q)))
    g1 q hq = between_first m (n + n) f (n + q) (omega arith)

    g2 : (q : ℕ) → g (n + n + q) ≡ forward_second m (f q) (f (n + n + q))
    g2 q = between_second m (n + n) f q

    g3 : (q : ℕ) → g (n + n + (n + q)) ≡ forward_second m (f (n + q)) (f (n + n + (n + q)))
    g3 q = between_second m (n + n) f (n + q)

-- A forward butterfly undoes a backward butterfly: the first and the second word are the original ones.
undo_first : (log_m x y : ℕ) → forward_first log_m (backward_first log_m x y) (backward_second x y) ≡ x
undo_first log_m x y = grind (arith, common_steps)

undo_second : (log_m x y : ℕ) → forward_second log_m (backward_first log_m x y) (backward_second x y) ≡ y
undo_second log_m x y = grind (arith, common_steps, xor_undo)

-- Two forward layers undo two backward layers.
pub backward_undone : (m02 m01 m23 x0 x1 x2 x3 y0 y1 y2 y3 : ℕ) → IsBackwardFour m02 m01 m23 x0 x1 x2 x3 y0 y1 y2 y3
    → IsForwardFour m02 m01 m23 y0 y1 y2 y3 x0 x1 x2 x3
backward_undone m02 m01 m23 x0 x1 x2 x3 y0 y1 y2 y3 (e0, e1, e2, e3) =
    grind (arith, common_steps, undo_first, undo_second)

-- ---- rows

-- A forward butterfly of two rows undoes a backward butterfly.
pub pair_undone : (log_m x y x' y' : ℕ) → IsBackwardTwo log_m x y x' y' → IsForwardTwo log_m x' y' x y
pair_undone log_m x y x' y' (first, second) = search (rules, xor_undo)

-- Butterflies between the halves of a block of rows are one layer.
pub half_rows : (skew : List ℕ) (n shift pos : ℕ) (f g : ℕ → ℕ) → IsBlock skew (n + n) shift
    → ((q : ℕ) → q < n → IsForwardTwo (factor skew n shift) (f (pos + q)) (f (pos + n + q)) (g (pos + q))
    (g (pos + n + q)))
    → ArePartsOf (n + n) n shift (λ q. f (pos + q)) (λ q. g (pos + q))
half_rows skew n shift pos f g b pair = search (rules, one_layer)

-- Forward butterflies of four words in four rows.
abbrev pub FourRows : ℕ → ℕ → ℕ → (ℕ → ℕ) → (ℕ → ℕ) → ℕ → ℕ → ℕ → ℕ → Type 0
FourRows m02 m01 m23 f g a b c d = IsForwardFour m02 m01 m23 (f a) (f b) (f c) (f d) (g a) (g b) (g c) (g d)

-- Butterflies between the quarters of a block of rows are two layers.
pub four_rows : (skew : List ℕ) (n shift pos : ℕ) (f g : ℕ → ℕ) → IsBlock skew (4 * n) shift
    → ((q : ℕ) → q < n → FourRows (get_or skew (shift + 2 * n - 1) 0) (get_or skew (shift + n - 1) 0)
    (get_or skew (shift + 2 * n + n - 1) 0) f g
    (pos + q) (pos + n + q) (pos + 2 * n + q) (pos + 3 * n + q))
    → ArePartsOf (4 * n) n shift (λ q. f (pos + q)) (λ q. g (pos + q))
four_rows skew n shift pos f g b four =
    subst (λ (m : ℕ). ArePartsOf m n shift (λ q. f (pos + q)) (λ q. g (pos + q))) (sym whole)
    (forward_parts n (λ q. f (pos + q)) (λ q. g (pos + q)) (subst (λ (m : ℕ). IsBlock skew m shift) whole b) placed)
  where
    whole : 4 * n ≡ n + n + (n + n)
    whole = omega arith

    placed : at_quarters
        (IsForwardFour (factor skew (n + n) shift) (factor skew n shift) (factor skew n (shift + (n + n)))) n
        (λ q. f (pos + q)) (λ q. g (pos + q))
    placed q hq =
        let on02 : shift + 2 * n - 1 ≡ shift + (n + n) - 1 = omega arith in
        let on23 : shift + 2 * n + n - 1 ≡ shift + (n + n) + n - 1 = omega arith in
        let on1 : pos + n + q ≡ pos + (n + q) = omega arith in
        let on2 : pos + 2 * n + q ≡ pos + (n + n + q) = omega arith in
        let on3 : pos + 3 * n + q ≡ pos + (n + n + (n + q)) = omega arith in
        rw (on02, on23, on1, on2, on3) at (four q hq)
