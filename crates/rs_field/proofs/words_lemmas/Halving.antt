-- A Walsh-Hadamard transform from the transforms of its halves, and from the transforms of its quarters.
use Rattle.std.proofs.Common.{rules, ◌≡◌, ℕ, suc, ◌+◌, ◌-◌, ◌*◌, ◌/◌, ◌%◌, ◌^◌, ◌<◌, ◌≤◌, List, ◌++◌, length, take}
use Rattle.std.proofs.Common.{drop, get_or, set, get_or-set_same, get_or-set_other, refl, sym, ap, ap₂, ◌∙◌, subst}
use Rattle.std.proofs.Common.{arith, inl, inr, pow-suc}
use Rattle.std.proofs.lemmas.Bool.{cases_lt}
use Rattle.std.proofs.lemmas.List.{get_or-take, get_or-drop, get_or_append_left, get_or-append-add, length-append}
use Rattle.std.proofs.lemmas.List.{length-set}
use Rattle.std.proofs.lemmas.Grind.{common_steps}
use Rattle.rs_field.specs.words.Search.{first_below}
use Rattle.rs_field.specs.words.StepBounds.{CountsPairs, WalshCounts, log2, transform_steps}
use Rattle.rs_field.specs.words.Walsh.{sign, signed_sum, IsWalsh, IsFourSums}
use Rattle.rs_field.specs.declared.words.steps.Steps.{Steps}
use Rattle.rs_field.proofs.words_lemmas.Halves.{quarter_power, steps_quarters}
use Rattle.rs_field.proofs.words_lemmas.Totals.{total-zero, total-suc, total-same, total-near, total-none, total-split}
use Rattle.rs_field.proofs.words_lemmas.Totals.{total-scale, mul_near}
use Rattle.rs_field.proofs.words_lemmas.Signs.{sign-left, sign-right, sign-both, sign-zero}

-- An entry of the first half of a transform is the sum of the entries of both halves.
pub sum_lower : (e w : ℕ) (f : ℕ → ℕ) → w < 2 ^ e
    → signed_sum (2 ^ e + 2 ^ e) f w ≡ signed_sum (2 ^ e) f w + signed_sum (2 ^ e) (λ y. f (2 ^ e + y)) w
sum_lower e w f hw = grind (arith, common_steps, total-split, total-same, sign-right)

-- An entry of the second half of a transform is the difference of the entries of both halves.
pub sum_upper : (e w : ℕ) (f : ℕ → ℕ) → w < 2 ^ e
    → signed_sum (2 ^ e + 2 ^ e) f (2 ^ e + w) % 65535
    ≡ (signed_sum (2 ^ e) f w + 65534 * signed_sum (2 ^ e) (λ y. f (2 ^ e + y)) w) % 65535
sum_upper e w f hw =
    let half : ℕ = 2 ^ e in
    let split = total-split half half (λ y. sign (half + w) y * f y) in
    let low =
    total-same half (λ y. sign (half + w) y * f y) (λ y. sign w y * f y)
    (λ y hy. ap (λ v. v * f y) (sign-left e w y hw hy)) in
    let high =
    total-near half (λ y. sign (half + w) (half + y) * f (half + y)) (λ y. 65534 * (sign w y * f (half + y)))
    (λ y hy. mul_near (sign (half + w) (half + y)) (f (half + y)) (65534 * sign w y) (f (half + y))
    (sign-both e w y hw hy) refl
    ∙ ap (λ v. v % 65535)
    (let r : 65534 * sign w y * f (half + y) ≡ 65534 * (sign w y * f (half + y)) = omega arith in r)) in
    let scaled = total-scale half 65534 (λ y. sign w y * f (half + y)) in omega arith

-- One entry is its own transform, and zeros are their own transform.
pub walsh-one : {n : ℕ} (f : ℕ → ℕ) → n ≡ 1 → IsWalsh n f f
walsh-one f one w hw = grind (arith, common_steps, total-suc, total-zero, sign-zero)

pub walsh-none : {n : ℕ} {f : ℕ → ℕ} → ((y : ℕ) → y < n → f y ≡ 0) → IsWalsh n f f
walsh-none none w hw = grind (arith, common_steps, total-none)

-- ---- equal residues, values, sizes

pub walsh-near : {n : ℕ} (f g h : ℕ → ℕ) → ((y : ℕ) → y < n → f y % 65535 ≡ g y % 65535) → IsWalsh n f h → IsWalsh n g h
walsh-near f g h near is w hw = search (rules, total-near, mul_near)

pub walsh-same : {n : ℕ} {f g : ℕ → ℕ} (h : ℕ → ℕ) → ((y : ℕ) → y < n → f y ≡ g y) → IsWalsh n f h → IsWalsh n g h
walsh-same h same is = walsh-near _ _ h (λ y hy. ap (λ v. v % 65535) (same y hy)) is

pub walsh-at : {n m : ℕ} (f g : ℕ → ℕ) → n ≡ m → IsWalsh n f g → IsWalsh m f g
walsh-at f g same is = subst (λ (k : ℕ). IsWalsh k f g) same is

-- A list is the transform of the first n entries of another.
abbrev pub IsListWalsh : ℕ → List ℕ → List ℕ → Type 0
IsListWalsh n old new = IsWalsh n (λ y. get_or old y 0) (λ w. get_or new w 0)

-- ---- halves

-- x is the sum of a and b modulo 65535, and y their difference.
abbrev pub IsPairSum : ℕ → ℕ → ℕ → ℕ → Type 0
IsPairSum a b x y = (x % 65535 ≡ (a + b) % 65535) × (y % 65535 ≡ (a + 65534 * b) % 65535)

-- What holds below n, and from n on below n + n, holds below n + n.
in_both : (n : ℕ) (P : ℕ → Type 0) → ((i : ℕ) → i < n → P i) → ((i : ℕ) → i < n → P (n + i)) → (i : ℕ)
    → i < n + n → P i
in_both n P first second i hi = elim (cases_lt i n) [
  | inl low ↦ first i low
  | inr high ↦
      let back : n + (i - n) ≡ i = omega arith in subst P back (second (i - n) (omega arith))
]

module _ {half : ℕ} (old low high : ℕ → ℕ) (power : (e : ℕ) × (half ≡ 2 ^ e)) (front : IsWalsh half old low)
    (back : IsWalsh half (λ y. old (half + y)) high) where
  -- The entries of a transform are the sums and differences of the entries of the transforms of both halves.
  walsh-entries : (i : ℕ) → i < half
      → IsPairSum (low i) (high i) (signed_sum (half + half) old i) (signed_sum (half + half) old (half + i))
  walsh-entries i hi =
      let (e, is) = power in
      let lower = subst (λ n. signed_sum (n + n) old i ≡ signed_sum n old i + signed_sum n (λ y. old (n + y)) i)
      (sym is) (sum_lower e i old (omega arith)) in
      let upper = subst (λ n. signed_sum (n + n) old (n + i) % 65535
      ≡ (signed_sum n old i + 65534 * signed_sum n (λ y. old (n + y)) i) % 65535) (sym is)
      (sum_upper e i old (omega arith)) in omega (arith, front i hi, back i hi)

  -- The sums and differences of the transforms of both halves are the transform.
  pub walsh-halves : (new : ℕ → ℕ) → ((i : ℕ) → i < half → IsPairSum (low i) (high i) (new i) (new (half + i)))
      → IsWalsh (half + half) old new
  walsh-halves new sums =
      in_both half (λ w. new w % 65535 ≡ signed_sum (half + half) old w % 65535)
      (λ i hi. (sums i hi).0 ∙ sym (walsh-entries i hi).0) (λ i hi. (sums i hi).1 ∙ sym (walsh-entries i hi).1)

-- The entries of two lists, one after another.
appended : {n : ℕ} (xs ys : List ℕ) (i : ℕ) → length xs ≡ n
    → (i < n → get_or (xs ++ ys) i 0 ≡ get_or xs i 0) × (get_or (xs ++ ys) (n + i) 0 ≡ get_or ys i 0)
appended xs ys i size = (
  λ hi. get_or_append_left xs ys 0 i (omega arith),
  ap (λ k. get_or (xs ++ ys) (k + i) 0) (sym size) ∙ get_or-append-add xs ys i 0,
)

-- Two halves that were transformed and one layer between them make the transform of the list.
pub walsh-two : (half : ℕ) (old t0 t1 u0 u1 : List ℕ) {x0 x1 : List ℕ} → (e : ℕ) × (half ≡ 2 ^ e)
    → x0 ≡ take half old → x1 ≡ drop half old
    → length u0 ≡ half → IsListWalsh half x0 t0 → IsListWalsh half x1 t1
    → ((i : ℕ) → i < half → IsPairSum (get_or t0 i 0) (get_or t1 i 0) (get_or u0 i 0) (get_or u1 i 0))
    → IsListWalsh (half + half) old (u0 ++ u1)
walsh-two half old t0 t1 u0 u1 power front back size done0 done1 sums =
    walsh-halves _ _ _ power
    (walsh-same _ (λ y hy. ap (λ (l : List ℕ). get_or l y 0) front ∙ get_or-take half old y 0 hy) done0)
    (walsh-same _ (λ y hy. ap (λ (l : List ℕ). get_or l y 0) back ∙ get_or-drop half old y 0) done1)
    _ (λ i hi. let (x, y) = appended u0 u1 i size in let first = x hi in omega (arith, sums i hi))

-- The transform of one pair is its sum and its difference.
pub walsh-pair : (old : List ℕ) (sum difference : ℕ) → length old ≡ 2
    → IsPairSum (get_or old 0 0) (get_or old 1 0) sum difference
    → IsListWalsh (length old) old (set (set old 0 sum) 1 difference)
walsh-pair old sum difference two (is_sum, is_difference) =
    walsh-at _ new (sym two) (walsh-halves _ _ _ (0, refl) (walsh-one _ refl) (walsh-one _ refl) new (λ i hi.
    let z : i ≡ 0 = omega arith in
    subst (λ k. IsPairSum (get_or old k 0) (get_or old (1 + k) 0) (new k) (new (1 + k))) (sym z)
    (ap (λ v. v % 65535) first ∙ is_sum, ap (λ v. v % 65535) second ∙ is_difference)))
  where
    new : ℕ → ℕ
    new w = get_or (set (set old 0 sum) 1 difference) w 0

    first : new 0 ≡ sum
    first = get_or-set_other (set old 0 sum) 1 0 difference 0 (λ (no : 0 ≡ 1). omega arith)
        ∙ get_or-set_same old 0 sum 0 (omega arith)

    second : new 1 ≡ difference
    second = get_or-set_same (set old 0 sum) 1 difference 0 (let s = length-set old 0 sum in omega arith)

-- ---- quarters

-- A list has the first n values of f as entries.
pub record HasEntries (n : ℕ) (f : ℕ → ℕ) (xs : List ℕ) : Type 0 where
  pub size : length xs ≡ n
  pub entry : (y : ℕ) → y < n → get_or xs y 0 ≡ f y

-- The four quarters of a list, each of q entries.
pub record AreQuarters (q : ℕ) (old x0 x1 x2 x3 : List ℕ) : Type 0 where
  pub power : (e : ℕ) × (q ≡ 2 ^ e)
  pub whole : length old ≡ q + q + (q + q)
  pub part0 : HasEntries q (λ y. get_or old y 0) x0
  pub part1 : HasEntries q (λ y. get_or old (q + y) 0) x1
  pub part2 : HasEntries q (λ y. get_or old (q + q + y) 0) x2
  pub part3 : HasEntries q (λ y. get_or old (q + q + (q + y)) 0) x3

-- The halves of the halves of a list are its quarters.
pub cut_in_quarters : {half q : ℕ} {old low high x0 x1 x2 x3 : List ℕ} → (e : ℕ) × (q ≡ 2 ^ e) → half ≡ q + q
    → length old ≡ half + half → low ≡ take half old → high ≡ drop half old → x0 ≡ take q low → x1 ≡ drop q low
    → x2 ≡ take q high → x3 ≡ drop q high
    → AreQuarters q old x0 x1 x2 x3
cut_in_quarters power two size is_low is_high is0 is1 is2 is3 = grind (arith, common_steps)

-- A list whose length is a power of two above 2 has four quarters.
pub in_quarters : {old low high x0 x1 x2 x3 : List ℕ} → 2 < length old → (d : ℕ) × (length old ≡ 2 ^ d)
    → low ≡ take (length old / 2) old → high ≡ drop (length old / 2) old → x0 ≡ take (length old / 4) low
    → x1 ≡ drop (length old / 4) low → x2 ≡ take (length old / 4) high → x3 ≡ drop (length old / 4) high
    → AreQuarters (length old / 4) old x0 x1 x2 x3
in_quarters {old} large power is_low is_high is0 is1 is2 is3 =
    let (e, is, part, whole) = quarter_power (length old) large power in
    cut_in_quarters (e, part) (omega arith) (omega arith) is_low is_high is0 is1 is2 is3

-- Four quarters that were transformed, and two layers between them.
pub record AreJoined (q : ℕ) (x0 x1 x2 x3 t0 t1 t2 t3 u0 u1 u2 u3 : List ℕ) : Type 0 where
  pub size0 : length u0 ≡ q
  pub size1 : length u1 ≡ q
  pub size2 : length u2 ≡ q
  pub done0 : IsListWalsh q x0 t0
  pub done1 : IsListWalsh q x1 t1
  pub done2 : IsListWalsh q x2 t2
  pub done3 : IsListWalsh q x3 t3
  pub sums : (i : ℕ) → i < q
      → IsFourSums (get_or t0 i 0) (get_or t1 i 0) (get_or t2 i 0) (get_or t3 i 0) (get_or u0 i 0) (get_or u1 i 0)
      (get_or u2 i 0) (get_or u3 i 0)

module _ {q : ℕ} {old x0 x1 x2 x3 : List ℕ} (cut : AreQuarters q old x0 x1 x2 x3) where
  -- Two layers make the transform of a list from the transforms of its four quarters.
  pub walsh-joined : {t0 t1 t2 t3 u0 u1 u2 u3 : List ℕ} → AreJoined q x0 x1 x2 x3 t0 t1 t2 t3 u0 u1 u2 u3
      → IsListWalsh (length old) old ((u0 ++ u1) ++ (u2 ++ u3))
  walsh-joined {t0} {t1} {t2} {t3} {u0} {u1} {u2} {u3} j =
      walsh-at entry new (sym cut.whole) (walsh-halves entry low high
      (suc cut.power.0, let p = pow-suc 2 cut.power.0 in let s = cut.power.1 in omega arith)
      (λ w hw. refl) (λ w hw. refl) new
      (in_both q (λ k. IsPairSum (low k) (high k) (new k) (new (q + q + k)))
      (λ i hi.
      let x = (appended (u0 ++ u1) (u2 ++ u3) i front).0 (omega arith) ∙ (appended u0 u1 i j.size0).0 hi in
      let y = (appended (u0 ++ u1) (u2 ++ u3) i front).1 ∙ (appended u2 u3 i j.size2).0 hi in
      omega (arith, lows i hi, highs i hi, j.sums i hi))
      (λ i hi.
      let x = (appended (u0 ++ u1) (u2 ++ u3) (q + i) front).0 (omega arith) ∙ (appended u0 u1 i j.size0).1 in
      let y = (appended (u0 ++ u1) (u2 ++ u3) (q + i) front).1 ∙ (appended u2 u3 i j.size2).1 in
      omega (arith, lows i hi, highs i hi, j.sums i hi))))
    where
      entry : ℕ → ℕ
      entry y = get_or old y 0

      new : ℕ → ℕ
      new w = get_or ((u0 ++ u1) ++ (u2 ++ u3)) w 0

      -- The transforms of both halves.
      low : ℕ → ℕ
      low = signed_sum (q + q) entry

      high : ℕ → ℕ
      high = signed_sum (q + q) (λ y. entry (q + q + y))

      lows : (i : ℕ) → i < q → IsPairSum (get_or t0 i 0) (get_or t1 i 0) (low i) (low (q + i))
      lows =
          walsh-entries _ _ _ cut.power (walsh-same _ cut.part0.entry j.done0) (walsh-same _ cut.part1.entry j.done1)

      highs : (i : ℕ) → i < q → IsPairSum (get_or t2 i 0) (get_or t3 i 0) (high i) (high (q + i))
      highs =
          walsh-entries _ _ _ cut.power (walsh-same _ cut.part2.entry j.done2) (walsh-same _ cut.part3.entry j.done3)

      front : length (u0 ++ u1) ≡ q + q
      front = length-append u0 u1 ∙ ap₂ (λ a b. a + b) j.size0 j.size1

  -- ---- counts

  -- The pair sums of four quarters and of two layers are those of the whole.
  steps : length old ≤ 65536 → 4 * q + 4 * transform_steps q ≡ transform_steps (length old)
  steps small =
      let (e, part) = cut.power in
      steps_quarters (length old) e q small (omega (arith, cut.whole, pow-suc 2 e, pow-suc 2 (suc e))) part

  -- The transforms of all quarters and the layers after them are within the bound of the whole.
  pub walsh-counts : (t0 : List ℕ) {a b c d f g : Steps} → length old ≤ 65536 → length t0 ≡ length x0
      → WalshCounts (length x0) a b → WalshCounts (length x1) b c → WalshCounts (length x2) c d
      → WalshCounts (length x3) d f → CountsPairs (4 * length t0) f g → WalshCounts (length old) a g
  walsh-counts t0 small same first second third fourth (x, y, z) =
      let s0 = ap transform_steps cut.part0.size in
      let s1 = ap transform_steps cut.part1.size in
      let s2 = ap transform_steps cut.part2.size in
      let s3 = ap transform_steps cut.part3.size in
      omega (arith, steps small, cut.part0.size)

  -- The counts of the transform of one quarter are within the bound of the whole.
  pub walsh-quarter-counts : {a b : Steps} → length old ≤ 65536 → WalshCounts (length x0) a b
      → WalshCounts (length old) a b
  walsh-quarter-counts small first = omega (arith, steps small, ap transform_steps cut.part0.size)

-- The pair sums of the transforms of 2, 4, 8, 64 and 128 entries.
pub small_steps : (transform_steps 2 ≡ 1) × (transform_steps 4 ≡ 4) × (transform_steps 8 ≡ 12)
    × (transform_steps 64 ≡ 192) × (transform_steps 128 ≡ 448)
unfolding transform_steps log2 first_below
small_steps = (refl, refl, refl, refl, refl)

-- A transform that counts exactly the pair sums of its layers is within the bound.
pub exact-counts : {n k m : ℕ} {a b : Steps} → n ≡ k → transform_steps k ≡ m → CountsPairs m a b → WalshCounts n a b
exact-counts is s (x, y, z) = omega (arith, ap transform_steps is)
