-- Larger lanes of two vectors, and layers of sums and differences in 16 lanes.
use Rattle.std.proofs.Common.{◌≡◌, ℕ, zero, suc, ◌+◌, ◌-◌, ◌*◌, ◌/◌, ◌%◌, ◌<◌, ◌≤◌, ◌^◌, Bool, true, false, ◌&&◌, cond}
use Rattle.std.proofs.Common.{List, [], ◌∷◌, ◌++◌, map, length, get_or, max, refl, ap, ap₂, ◌∙◌, arith, w16, Fits}
use Rattle.std.specs.Prelude.{◌==◌, if◌then◌else◌, nat_eq, nat_lt}
use Rattle.std.specs.Simd.Lanes.{Each1}
use Rattle.std.proofs.Math.Dec.{ltb}
use Rattle.std.proofs.lemmas.Simd.{tops_compared, get_or-sel_l, length-sel_l, get_or-zip2, length-zip2}
use Rattle.std.proofs.lemmas.List.{get_or-map, get_or_append_left}
use Rattle.std.proofs.lemmas.Bool.{and_parts, eqb-true, ltb-true}
use Rattle.std.proofs.lemmas.Grind.{common_steps}
use Rattle.rs_field.specs.words.Walsh.{IsWalsh, IsLayer}
use Rattle.rs_field.proofs.words_lemmas.Linear.{passes_below, from_passes_below}
use Rattle.rs_field.proofs.words_lemmas.Halving.{walsh-halves, walsh-same, walsh-one}
use lib.Lanes.{zip2, sel_l, top}

-- ---- the larger of two lanes

larger_chosen : (a b : ℕ) → cond (ltb a b) b a ≡ max a b
larger_chosen a b = grind (arith, common_steps)

compared : (xs ys : List ℕ)
    → sel_l (map (top 15) (zip2 (λ a b. cond (ltb a b) 65535 0) xs ys)) ys xs ≡ sel_l (zip2 ltb xs ys) ys xs
compared xs ys = ap (λ ms. sel_l ms ys xs) (tops_compared w16 ltb xs ys)

-- `simd_max` gives the larger of two lanes in each lane.
pub larger_lane : (xs ys : List ℕ) (i : ℕ) → length xs ≡ 16 → length ys ≡ 16 → i < 16
    → get_or (sel_l (map (top 15) (zip2 (λ a b. cond (ltb a b) 65535 0) xs ys)) ys xs) i 0
    ≡ max (get_or xs i 0) (get_or ys i 0)
larger_lane xs ys i hx hy h =
    grind (arith, common_steps, length-zip2, compared, get_or-sel_l, get_or-zip2, larger_chosen)

pub length-larger : (xs ys : List ℕ) → length xs ≡ 16 → length ys ≡ 16
    → length (sel_l (map (top 15) (zip2 (λ a b. cond (ltb a b) 65535 0) xs ys)) ys xs) ≡ 16
length-larger xs ys hx hy = grind (arith, common_steps, length-zip2, compared, length-sel_l)

-- ---- lanes that are words

pub lane_below : (v : List ℕ) (i : ℕ) → Each1 (Fits w16) v → get_or v i 0 < 65536
lane_below [] i h = omega arith
lane_below (x ∷ v) zero h = h.0.fits
lane_below (x ∷ v) (suc i) h = lane_below v i h.1

-- The sum of lanes m and k, which a swizzle and a shuffle brought together.
summed : (v w : List ℕ) (r m k : ℕ) → length v ≡ 16 → m < 16 → k < 16
    → r % 65535 ≡ (get_or (v ++ v) m 0 + get_or (v ++ w) k 0) % 65535
    → r % 65535 ≡ (get_or v m 0 + get_or v k 0) % 65535
summed v w r m k size hm hk e =
    e ∙ ap₂ (λ a b. (a + b) % 65535) (get_or_append_left v v 0 m (omega arith))
    (get_or_append_left v w 0 k (omega arith))

-- A sum with a complemented lane is a difference, because the complement is the negative modulo 65535.
subtracted : (v : List ℕ) (r m k : ℕ) → length v ≡ 16 → Each1 (Fits w16) v → m < 16 → k < 16
    → r % 65535 ≡ (get_or (v ++ v) m 0 + get_or (v ++ map (λ n. 65535 - n) v) (16 + k) 0) % 65535
    → r % 65535 ≡ (get_or v m 0 + 65534 * get_or v k 0) % 65535
subtracted v r m k size fits hm hk e = grind (arith, common_steps)

-- Lane k receives the lanes m and n of two vectors that a layer with distance d joins.
abbrev joins : ℕ → ℕ → ℕ → ℕ → Bool → Bool
joins d k m n even = cond even (nat_eq m (k + d) && (nat_eq n k && nat_lt m 16)) (nat_eq m (k - d) && nat_eq n (16 + k))

joined : (v : List ℕ) (r d k m n : ℕ) (even : Bool) → length v ≡ 16 → Each1 (Fits w16) v → k < 16
    → joins d k m n even ≡ true
    → r % 65535 ≡ (get_or (v ++ v) m 0 + get_or (v ++ map (λ x. 65535 - x) v) n 0) % 65535
    → r % 65535 ≡ cond even (get_or v (k + d) 0 + get_or v k 0) (get_or v (k - d) 0 + 65534 * get_or v k 0) % 65535
joined v r d k m n true size fits h test e = grind (arith, common_steps, and_parts, ltb-true, summed, eqb-true)
joined v r d k m n false size fits h test e = grind (arith, common_steps, and_parts, subtracted, eqb-true)

abbrev lanes_from : ℕ → (ℕ → ℕ) → ℕ → List ℕ
lanes_from zero f k = []
lanes_from (suc n) f k = f k ∷ lanes_from n f (k + 1)

-- The lanes of v that a layer with distance d swizzles into lanes 0 to 15.
abbrev partners : ℕ → List ℕ
partners d = lanes_from 16 (λ k. cond (k / d % 2 == 0) (k + d) (k - d)) 0

-- The lanes of v and of its complement that the layer shuffles into lanes 0 to 15.
abbrev signed : ℕ → List ℕ
signed d = lanes_from 16 (λ k. cond (k / d % 2 == 0) k (16 + k)) 0

-- A layer with distance d: at each lane, a lane of the vector is added to a lane of the vector or of its complement.
pub layer_of : (d : ℕ) (v new : List ℕ) → length v ≡ 16 → Each1 (Fits w16) v
    → passes_below 16 (λ k. joins d k (get_or (partners d) k 0) (get_or (signed d) k 0) (k / d % 2 == 0)) ≡ true
    → ((k : ℕ) → k < 16 → get_or new k 0 % 65535
    ≡ (get_or (map (λ m. get_or (v ++ v) m 0) (partners d)) k 0 + get_or
    (map (λ n. get_or (v ++ map (λ x. 65535 - x) v) n 0) (signed d)) k 0) % 65535)
    → IsLayer d v new
layer_of d v new size fits test e k h =
    joined v (get_or new k 0) d k (get_or (partners d) k 0) (get_or (signed d) k 0) (k / d % 2 == 0) size fits h
    (from_passes_below 16 (λ k. joins d k (get_or (partners d) k 0) (get_or (signed d) k 0) (k / d % 2 == 0)) test k h)
    (e k h ∙ ap₂ (λ x y. (x + y) % 65535) (get_or-map (λ m. get_or (v ++ v) m 0) (partners d) k 0 0 h)
    (get_or-map (λ n. get_or (v ++ map (λ x. 65535 - x) v) n 0) (signed d) k 0 0 h))

-- ---- four layers

abbrev by_parity : ℕ → ℕ → ℕ → ℕ
by_parity b even odd = (if b == 0 then even else odd) % 65535

-- The n lanes from lane a on are transformed.
abbrev TransformedFrom : ℕ → ℕ → List ℕ → List ℕ → Type 0
TransformedFrom a n f g = IsWalsh n (λ y. get_or f (a + y) 0) (λ w. get_or g (a + w) 0)

-- A layer joins the transforms of two halves.
stage : (half a : ℕ) (f g new : List ℕ) → (e : ℕ) × (half ≡ 2 ^ e) → a + (half + half) ≤ 16
    → ((i : ℕ) → i < half → (a + i) / half % 2 ≡ 0) → ((i : ℕ) → i < half → (a + (half + i)) / half % 2 ≡ 1)
    → IsLayer half g new → TransformedFrom a half f g → TransformedFrom (a + half) half f g
    → TransformedFrom a (half + half) f new
stage half a f g new power room first second layer low high =
    walsh-halves _ _ _ power low (walsh-same _ (λ y hy. ap (λ k. get_or f k 0) (omega arith)) high) _ (λ i hi. (
      let there : a + i + half ≡ a + half + i = omega arith in
          layer (a + i) (omega arith)
          ∙ ap (λ b. by_parity b (get_or g (a + i + half) 0 + get_or g (a + i) 0)
          (get_or g (a + i - half) 0 + 65534 * get_or g (a + i) 0)) (first i hi)
          ∙ ap (λ k. (get_or g k 0 + get_or g (a + i) 0) % 65535) there ∙ ap (λ v. v % 65535) (omega arith),
      layer (a + (half + i)) (omega arith)
          ∙ ap (λ b. by_parity b (get_or g (a + (half + i) + half) 0 + get_or g (a + (half + i)) 0)
          (get_or g (a + (half + i) - half) 0 + 65534 * get_or g (a + (half + i)) 0)) (second i hi)
          ∙ ap₂ (λ k m. (get_or g k 0 + 65534 * get_or g m 0) % 65535) (omega arith) (omega arith),
    ))

-- Four layers make the transform of 16 lanes.
pub four_layers : (f g1 g2 g3 g4 : List ℕ) → IsLayer 1 f g1 → IsLayer 2 g1 g2 → IsLayer 4 g2 g3 → IsLayer 8 g3 g4
    → IsWalsh 16 (λ y. get_or f y 0) (λ w. get_or g4 w 0)
four_layers f g1 g2 g3 g4 l1 l2 l4 l8 =
    walsh-same _
    (λ y hy. let z : 0 + y ≡ y = omega arith in ap (λ k. get_or f k 0) z)
    (λ w hw. let z : w ≡ 0 + w = omega arith in ap (λ k. get_or g4 k 0 % 65535) z ∙ whole w hw)
  where
    two : (a : ℕ) → a + 2 ≤ 16 → a % 2 ≡ 0 → TransformedFrom a 2 f g1
    two a le even = stage 1 a _ _ _ (0, refl) le (λ i h. omega arith) (λ i h. omega arith) l1
        (walsh-one _ refl) (walsh-one _ refl)

    four : (a : ℕ) → a + 4 ≤ 16 → a % 4 ≡ 0 → TransformedFrom a 4 f g2
    four a le even = stage 2 a _ _ _ (1, refl) le (λ i h. omega arith) (λ i h. omega arith) l2
        (two a (omega arith) (omega arith)) (two (a + 2) (omega arith) (omega arith))

    eight : (a : ℕ) → a + 8 ≤ 16 → a % 8 ≡ 0 → TransformedFrom a 8 f g3
    eight a le even = stage 4 a _ _ _ (2, refl) le (λ i h. omega arith) (λ i h. omega arith) l4
        (four a (omega arith) (omega arith)) (four (a + 4) (omega arith) (omega arith))

    whole : TransformedFrom 0 16 f g4
    whole = stage 8 0 _ _ _ (3, refl) (omega arith) (λ i h. omega arith) (λ i h. omega arith) l8
        (eight 0 (omega arith) (omega arith)) (eight (0 + 8) (omega arith) (omega arith))
