-- Sums over the numbers below n.
use Rattle.std.proofs.Common.{◌≡◌, ℕ, zero, suc, ◌+◌, ◌*◌, ◌%◌, ◌<◌, ◌≢◌, refl, sym, ap, ap₂, ◌∙◌, arith, inl, inr}
use Rattle.std.proofs.Common.{add-zero}
use Rattle.std.proofs.lemmas.Bool.{cases_eq}
use Rattle.std.proofs.lemmas.Nat.{mul-mod_first, mul-mod_second}
use Rattle.rs_field.specs.words.Walsh.{total}
use Rattle.std.proofs.lemmas.Grind.{common_steps}

pub total-zero : (g : ℕ → ℕ) → total 0 g ≡ 0
unfolding total
total-zero g = refl

pub total-suc : (n : ℕ) (g : ℕ → ℕ) → total (suc n) g ≡ total n g + g n
unfolding total
total-suc n g = refl

pub total-same : (n : ℕ) (g h : ℕ → ℕ) → ((y : ℕ) → y < n → g y ≡ h y) → total n g ≡ total n h
total-same zero g h same = total-zero g ∙ sym (total-zero h)
total-same (suc n) g h same =
    total-suc n g ∙ ap₂ (λ a b. a + b) (total-same n g h (λ y hy. same y (omega arith))) (same n (omega arith))
    ∙ sym (total-suc n h)

-- Sums of numbers with equal residues modulo 65535 have equal residues.
pub add_near : (a b c d : ℕ) → a % 65535 ≡ c % 65535 → b % 65535 ≡ d % 65535 → (a + b) % 65535 ≡ (c + d) % 65535
add_near a b c d p q = omega arith

pub mul_near : (a b c d : ℕ) → a % 65535 ≡ c % 65535 → b % 65535 ≡ d % 65535 → a * b % 65535 ≡ c * d % 65535
mul_near a b c d p q =
    cc (mul-mod_first a b 65535, mul-mod_first c b 65535, mul-mod_second c b 65535, mul-mod_second c d 65535)

pub total-near : (n : ℕ) (g h : ℕ → ℕ) → ((y : ℕ) → y < n → g y % 65535 ≡ h y % 65535)
    → total n g % 65535 ≡ total n h % 65535
total-near zero g h near = ap (λ v. v % 65535) (total-zero g ∙ sym (total-zero h))
total-near (suc n) g h near =
    ap (λ v. v % 65535) (total-suc n g)
    ∙ add_near (total n g) (g n) (total n h) (h n) (total-near n g h (λ y hy. near y (omega arith)))
    (near n (omega arith))
    ∙ ap (λ v. v % 65535) (sym (total-suc n h))

pub total-none : (n : ℕ) (g : ℕ → ℕ) → ((y : ℕ) → y < n → g y ≡ 0) → total n g ≡ 0
total-none zero g none = total-zero g
total-none (suc n) g none =
    total-suc n g ∙ ap₂ (λ a b. a + b) (total-none n g (λ y hy. none y (omega arith))) (none n (omega arith))

pub total-split : (h m : ℕ) (g : ℕ → ℕ) → total (h + m) g ≡ total h g + total m (λ y. g (h + y))
total-split h zero g =
    ap (λ n. total n g) (add-zero h)
    ∙ sym (ap (λ v. total h g + v) (total-zero (λ y. g (h + y))) ∙ add-zero (total h g))
total-split h (suc m) g =
    let more = total-split h m g in
    let s = total-suc (h + m) g in
    let t = total-suc m (λ y. g (h + y)) in
    grind (
      arith,
      common_steps,
      (let r : total (suc (h + m)) g ≡ total h g + total (suc m) (λ y. g (h + y)) = omega arith in r),
    )

pub total-scale : (n c : ℕ) (g : ℕ → ℕ) → total n (λ y. c * g y) ≡ c * total n g
total-scale zero c g =
    total-zero (λ y. c * g y) ∙ sym (ap (λ v. c * v) (total-zero g) ∙ (let r : c * 0 ≡ 0 = omega arith in r))
total-scale (suc n) c g =
    cc (
      total-suc n (λ y. c * g y),
      total-scale n c g,
      total-suc n g,
      (let r : c * (total n g + g n) ≡ c * total n g + c * g n = omega arith in r),
    )

pub total-plus : (n : ℕ) (g h : ℕ → ℕ) → total n (λ y. g y + h y) ≡ total n g + total n h
total-plus zero g h = total-zero (λ y. g y + h y) ∙ sym (ap₂ (λ a b. a + b) (total-zero g) (total-zero h))
total-plus (suc n) g h = omega (arith, total-suc n (λ y. g y + h y), total-plus n g h, total-suc n g, total-suc n h)

-- A sum of sums can be taken in the other order.
pub total-swap : (n m : ℕ) (g : ℕ → ℕ → ℕ) → total n (λ x. total m (λ y. g x y)) ≡ total m (λ y. total n (λ x. g x y))
total-swap zero m g =
    total-zero (λ x. total m (λ y. g x y))
    ∙ sym (total-none m (λ y. total zero (λ x. g x y)) (λ y hy. total-zero (λ x. g x y)))
total-swap (suc n) m g =
    total-suc n (λ x. total m (λ y. g x y))
    ∙ ap (λ v. v + total m (λ y. g n y)) (total-swap n m g)
    ∙ sym (total-plus m (λ y. total n (λ x. g x y)) (λ y. g n y))
    ∙ total-same m (λ y. total n (λ x. g x y) + g n y) (λ y. total (suc n) (λ x. g x y))
    (λ y hy. sym (total-suc n (λ x. g x y)))

-- If all terms except one are zero modulo 65535, the sum is this term.
pub total-one : (n x : ℕ) (g : ℕ → ℕ) → x < n → ((y : ℕ) → y < n → y ≢ x → g y % 65535 ≡ 0)
    → total n g % 65535 ≡ g x % 65535
total-one zero x g hx others = absurd (let no : ⊥ = omega arith in no)
total-one (suc n) x g hx others =
    let s = total-suc n g in
    elim (cases_eq x n) [
      | inl same ↦
          let none : total n g % 65535 ≡ total n (λ y. 0) % 65535 =
          total-near n g (λ y. 0) (λ y hy. others y (omega arith) (λ e. let no : ⊥ = omega arith in no)) in
          let nothing = total-none n (λ y. 0) (λ y hy. refl) in
          let at : g n ≡ g x = ap g (sym same) in
          omega arith
      | inr differs ↦
          let rest = total-one n x g (omega arith) (λ y hy apart. others y (omega arith) apart) in
          let last = others n (omega arith) (λ e. differs (sym e)) in
          omega arith
    ]
