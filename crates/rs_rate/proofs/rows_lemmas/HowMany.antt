-- How many numbers have a property, and how many rows of a decoder hold given shards.
use Rattle.std.proofs.Common.{◌≡◌, ℕ, zero, suc, ◌+◌, ◌-◌, ◌<◌, ◌≤◌, ◌⊎◌, Bool, true, false, cond, refl, sym, ap, ap₂}
use Rattle.std.proofs.Common.{◌∙◌, arith, inl, inr, add-one, add-zero, add-suc}
use Rattle.std.specs.Prelude.{is_some, not}
use Rattle.std.proofs.lemmas.Bool.{cases_lt}
use Rattle.rs_field.specs.code.Frame.{original_row, recovery_row, row_count}
use Rattle.rs_field.specs.declared.code.frame.Frame.{Frame}
use Rattle.rs_field.specs.code.Given.{Shards, count_below}
use Rattle.rs_field.proofs.code_lemmas.Frame.{HasDistinctRows}
use Rattle.rs_field.proofs.code_lemmas.Given.{count_below-zero, count_below-suc}
use Rattle.rs_rate.specs.declared.values.configuration.Configuration.{Configuration}
use Rattle.rs_rate.specs.rows.Marks.{how_many, originals_in, recovery_in, HoldGiven}
use Rattle.rs_rate.proofs.rows_lemmas.RowMaps.{part-in}

pub how_many-zero : (has : ℕ → Bool) → how_many 0 has ≡ 0
unfolding how_many
how_many-zero has = refl

pub how_many-suc : (n : ℕ) (has : ℕ → Bool) → how_many (suc n) has ≡ how_many n has + cond (has n) 1 0
unfolding how_many
how_many-suc n has = refl

-- One more number has the property, or has it not.
pub how_many-one : (n : ℕ) (has : ℕ → Bool) → has n ≡ true → how_many (suc n) has ≡ how_many n has + 1
how_many-one n has is = how_many-suc n has ∙ ap (λ b. how_many n has + cond b 1 0) is

pub how_many-none : (n : ℕ) (has : ℕ → Bool) → has n ≡ false → how_many (suc n) has ≡ how_many n has
how_many-none n has is =
    how_many-suc n has ∙ ap (λ b. how_many n has + cond b 1 0) is ∙ add-zero (how_many n has)

-- The same for n + 1.
pub how_many-next : (n : ℕ) (has : ℕ → Bool) → has n ≡ true → how_many (n + 1) has ≡ how_many n has + 1
how_many-next n has is = ap (λ m. how_many m has) (add-one n) ∙ how_many-one n has is

pub how_many-passed : (n : ℕ) (has : ℕ → Bool) → has n ≡ false → how_many (n + 1) has ≡ how_many n has
how_many-passed n has is = ap (λ m. how_many m has) (add-one n) ∙ how_many-none n has is

pub how_many-same : (n : ℕ) (has too : ℕ → Bool) → ((i : ℕ) → i < n → has i ≡ too i) → how_many n has ≡ how_many n too
how_many-same zero has too same = how_many-zero has ∙ sym (how_many-zero too)
how_many-same (suc n) has too same =
    how_many-suc n has
    ∙ ap₂ (λ m b. m + cond b 1 0) (how_many-same n has too (λ i hi. same i (omega arith))) (same n (omega arith))
    ∙ sym (how_many-suc n too)

-- The numbers without the property are all others.
pub how_many-not : (n : ℕ) (has : ℕ → Bool) → how_many n (λ i. not (has i)) + how_many n has ≡ n
how_many-not zero has = omega (arith, how_many-zero (λ i. not (has i)), how_many-zero has)
how_many-not (suc n) has =
    omega (
      arith,
      how_many-not n has,
      how_many-suc n (λ i. not (has i)),
      how_many-suc n has,
      one_of_two (has n),
    )
  where
    one_of_two : (b : Bool) → cond (not b) 1 0 + cond b 1 0 ≡ 1
    one_of_two true = refl
    one_of_two false = refl

-- At most all numbers have the property.
pub how_many-most : (n : ℕ) (has : ℕ → Bool) → how_many n has ≤ n
how_many-most n has = omega (arith, how_many-not n has)

-- At least as many of the numbers below a greater number have the property.
pub how_many-rises : (m n : ℕ) (has : ℕ → Bool) → m ≤ n → how_many m has ≤ how_many n has
how_many-rises m zero has le = let same : m ≡ 0 = omega arith in rw same (omega arith)
how_many-rises m (suc n) has le = elim (cases_lt m (suc n)) [
  | inl below ↦ omega (arith, how_many-rises m n has (omega arith), how_many-suc n has)
  | inr past ↦ let same : m ≡ suc n = omega arith in rw same (omega arith)
]

-- The number of entries that have a shard.
pub count_below-many : (n : ℕ) (given : Shards) → how_many n (λ i. is_some (given i)) ≡ count_below n given
count_below-many zero given = how_many-zero (λ i. is_some (given i)) ∙ sym (count_below-zero given)
count_below-many (suc n) given =
    how_many-suc n (λ i. is_some (given i))
    ∙ ap (λ m. m + cond (is_some (given n)) 1 0) (count_below-many n given) ∙ sym (count_below-suc n given)

-- Numbers below the sum of two numbers are below the first one, or they are sums of it and a number below the second.
how_many-add : (a n : ℕ) (has : ℕ → Bool) → how_many (a + n) has ≡ how_many a has + how_many n (λ i. has (a + i))
how_many-add a zero has =
    ap (λ m. how_many m has) (add-zero a) ∙ sym (add-zero (how_many a has))
    ∙ ap (λ m. how_many a has + m) (sym (how_many-zero (λ i. has (a + i))))
how_many-add a (suc n) has =
    omega (
      arith,
      ap (λ m. how_many m has) (add-suc a n),
      how_many-suc (a + n) has,
      how_many-add a n has,
      how_many-suc n (λ i. has (a + i)),
    )

-- Numbers without the property add nothing.
pub how_many-gap : (a n b : ℕ) (has : ℕ → Bool) → a + n ≡ b → ((x : ℕ) → a ≤ x → x < b → has x ≡ false)
    → how_many b has ≡ how_many a has
how_many-gap a zero b has end none = ap (λ m. how_many m has) (sym end ∙ add-zero a)
how_many-gap a (suc n) b has end none =
    let last : b ≡ suc (a + n) = omega arith in
    ap (λ m. how_many m has) last ∙ how_many-suc (a + n) has
    ∙ ap (λ c. how_many (a + n) has + cond c 1 0) (none (a + n) (omega arith) (omega arith))
    ∙ add-zero (how_many (a + n) has) ∙ how_many-gap a n (a + n) has refl (λ x from to. none x from (omega arith))

-- The rows with a property are rows of originals and rows of recovery shards, if no other row has it.
pub many_in_frame : (frame : Frame) (k r : ℕ) → HasDistinctRows frame k r → (has : ℕ → Bool)
    → ((p : ℕ) → (p < frame.originals_from) ⊎ (original_row frame k ≤ p)
    → (p < frame.recovery_from) ⊎ (recovery_row frame r ≤ p) → has p ≡ false)
    → how_many (row_count frame) has
    ≡ how_many k (λ i. has (original_row frame i)) + how_many r (λ i. has (recovery_row frame i))
many_in_frame frame k r f has none =
    let w = row_count frame in
    let from = frame.originals_from in
    let own_end = original_row frame k in
    let coded_end = recovery_row frame r in
    let own = how_many-add from k has in
    let coded = how_many-add frame.recovery_from r has in
    let own_fit = f.originals in let coded_fit = f.recovery in let zeros = f.zeros in let follow = f.follow in
    elim f.order [
      | inl low ↦
          let start = ap (λ n. how_many n has) low.0 ∙ how_many-zero has in
          let gap = how_many-gap own_end (frame.recovery_from - own_end) frame.recovery_from has
          (omega (arith, low.1)) (λ x above below. none x (inr above) (inl below)) in
          let rest = how_many-gap coded_end (w - coded_end) w has (omega arith)
          (λ x above below. none x (inr (omega (arith, low.1))) (inr above)) in
          omega (arith, start, own, gap, coded, rest)
      | inr high ↦
          let start = ap (λ n. how_many n has) high.0 ∙ how_many-zero has in
          let gap = how_many-gap coded_end (from - coded_end) from has (omega (arith, high.0, high.1))
          (λ x above below. none x (inl below) (inr above)) in
          let rest = how_many-gap own_end (w - own_end) w has (omega arith)
          (λ x above below. none x (inr above) (inr (omega (arith, high.0, high.1)))) in
          omega (arith, start, own, gap, coded, rest)
    ]

module _ {c : Configuration} (f : HasDistinctRows c.frame c.original_count c.recovery_count) {originals recovery : ℕ}
    {rows : Shards} (given : HoldGiven c originals recovery rows) where
  -- The number of given originals.
  pub many_originals : how_many c.original_count (λ i. is_some (rows (original_row c.frame i))) ≡ originals
  many_originals =
      how_many-same c.original_count (λ i. is_some (rows (original_row c.frame i)))
      (λ i. is_some (originals_in c rows i))
      (λ i hi. ap is_some (sym (part-in rows c.frame.originals_from c.original_count i hi)))
      ∙ count_below-many c.original_count (originals_in c rows) ∙ sym given.originals_counted

  -- The number of given recovery shards.
  many_recovery : how_many c.recovery_count (λ i. is_some (rows (recovery_row c.frame i))) ≡ recovery
  many_recovery =
      how_many-same c.recovery_count (λ i. is_some (rows (recovery_row c.frame i)))
      (λ i. is_some (recovery_in c rows i))
      (λ i hi. ap is_some (sym (part-in rows c.frame.recovery_from c.recovery_count i hi)))
      ∙ count_below-many c.recovery_count (recovery_in c rows) ∙ sym given.recovery_counted

  -- The rows that hold given shards are as many as these.
  pub many_rows : how_many (row_count c.frame) (λ p. is_some (rows p)) ≡ originals + recovery
  many_rows =
      many_in_frame c.frame c.original_count c.recovery_count f (λ p. is_some (rows p))
      (λ p not_own not_coded. ap is_some (given.placed p not_own not_coded))
      ∙ ap₂ (λ (a b : ℕ). a + b) many_originals many_recovery
