-- The parts of a block that its first layers leave: their rows, their position among the points, and their row steps.
use Rattle.std.proofs.Common.{◌≡◌, ℕ, ◌+◌, ◌*◌, ◌/◌, ◌%◌, ◌^◌, ◌<◌, ◌≤◌, ◌≢◌, Bool, true, false, cond, refl, sym, ap}
use Rattle.std.proofs.Common.{◌∙◌, subst, inl, inr, arith}
use Rattle.std.proofs.Math.Nat.{mul-le-mul_right, add-mul-mod_self_right, mul-div_cancel, mul-mod_left}
use Rattle.std.proofs.lemmas.Bool.{cases_Bool, cases_lt, true≢false}
use Rattle.std.proofs.lemmas.Nat.{pow_pos}
use Rattle.std.proofs.lemmas.Grind.{common_steps}
use Rattle.rs_field.specs.rows.Layers.{is_halved, rows_of_part, layer_steps}
use Rattle.rs_field.specs.words.StepBounds.{transform_steps}
use Rattle.rs_field.proofs.words_lemmas.Halves.{few_halves, half_power, quarter_power, steps_half, steps_quarters}
use Rattle.rs_field.proofs.words_lemmas.Halves.{two_halves}
use Rattle.rs_field.proofs.code_lemmas.NextPower.{own_is_power}
use Rattle.rs_field.specs.declared.rows.block.Block.{Block}
use Rattle.rs_field.proofs.words_lemmas.Combination.{aligned_parts}

pub part_of_halved : (size : ℕ) → is_halved size ≡ true → rows_of_part size ≡ size / 2
unfolding rows_of_part
part_of_halved size is = ap (λ (b : Bool). cond b (size / 2) (size / 4)) is

pub part_of_more : (size : ℕ) → is_halved size ≡ false → rows_of_part size ≡ size / 4
unfolding rows_of_part
part_of_more size is = ap (λ (b : Bool). cond b (size / 2) (size / 4)) is

pub steps_of_halved : (size : ℕ) → is_halved size ≡ true → layer_steps size ≡ size / 2
unfolding layer_steps
steps_of_halved size is = ap (λ (b : Bool). cond b (size / 2) size) is

pub steps_of_more : (size : ℕ) → is_halved size ≡ false → layer_steps size ≡ size
unfolding layer_steps
steps_of_more size is = ap (λ (b : Bool). cond b (size / 2) size) is

-- A block that is not halved does not have two rows.
not_two : (size : ℕ) → is_halved size ≡ false → size ≢ 2
unfolding is_halved
not_two size is e = true≢false (sym (let two : is_halved 2 ≡ true = refl in two) ∙ sym (ap is_halved e) ∙ is)

-- The n rows of each part of a block of size rows.
pub record IsPart (size n : ℕ) : Type 0 where
  pub power : (d : ℕ) × (n ≡ 2 ^ d)
  pub positive : 0 < n
  pub smaller : n < size
  pub count : ℕ
  pub whole : size ≡ count * n
  pub steps : layer_steps size + count * transform_steps n ≡ transform_steps size

-- The number of rows of a block is a power of two.
pub block_power : (block : Block) → (d : ℕ) × (block.size ≡ 2 ^ d)
block_power block = own_is_power block.size block.power (let points = block.points in omega arith)

-- A block of more than one row has twice the rows of its half.
pub block_halves : (block : Block) → 1 < block.size → block.size ≡ block.size / 2 + block.size / 2
block_halves block large = two_halves block.size large (block_power block)

-- A block of more than one row that is not halved has four times the rows of its quarter.
pub block_quarters : (block : Block) → 1 < block.size → is_halved block.size ≡ false → block.size ≡ 4 * (block.size / 4)
block_quarters block large more =
    let ne = not_two block.size more in
    (quarter_power block.size (omega (arith, large, ne)) (block_power block)).3

-- The number of rows of a part of a block of more than one row satisfies `IsPart`.
pub part_found : (block : Block) {n : ℕ} → n ≡ rows_of_part block.size → 1 < block.size → IsPart block.size n
part_found block is large =
    let size = block.size in
    let points = block.points in
    elim (cases_Bool (is_halved size)) [
      | inl halved ↦
          let p = half_power size large (block_power block) in
          let pos = pow_pos p.0 in
          let whole = block_halves block large in
          subst (IsPart size) (sym (is ∙ part_of_halved size halved)) (record {
            power = (p.0, p.2);
            positive = omega (arith, p.2, pos);
            smaller = omega (arith, p.2, pos, whole);
            count = 2;
            whole = omega (arith, whole);
            steps = omega (
              arith,
              steps_of_halved size halved,
              steps_half size p.0 (size / 2)
                  (few_halves size p.0 0 p.1 (omega arith)) p.1 p.2,
            );
          })
      | inr more ↦
          let ne = not_two size more in
          let q = quarter_power size (omega (arith, ne)) (block_power block) in
          let pos = pow_pos q.0 in
          subst (IsPart size) (sym (is ∙ part_of_more size more)) (record {
            power = (q.0, q.2);
            positive = omega (arith, q.2, pos);
            smaller = omega (arith, q.2, pos, q.3);
            count = 4;
            whole = q.3;
            steps = omega (
              arith,
              steps_of_more size more,
              steps_quarters size q.0 (size / 4)
                  (omega arith) q.1 q.2,
              q.3,
            );
          })
    ]

-- Part j of a block is inside the block.
pub part_within : {size n : ℕ} (j : ℕ) → IsPart size n → j * n < size → j * n + n ≤ size
part_within {n} j p within =
    elim (cases_lt j p.count) [
      | inl before ↦ let next : j + 1 ≤ p.count = omega arith in let le : (j + 1) * n ≤ p.count * n =
          mul-le-mul_right n next in let w = p.whole in omega arith
      | inr past ↦ let le : p.count * n ≤ j * n = mul-le-mul_right n past in let w = p.whole in
          absurd (let no : ⊥ = omega arith in no)
    ]

-- Part j of a block begins at a multiple of its rows.
pub part_aligned : {size n : ℕ} (shift j : ℕ) → IsPart size n → shift % size ≡ 0 → (shift + j * n) % n ≡ 0
part_aligned {size} {n} shift j p aligned =
    add-mul-mod_self_right shift j n ∙ ap (λ v. v % n) (aligned_parts size p.count n shift p.whole aligned)
    ∙ mul-mod_left (shift / size * p.count) n

-- ---- the parts one by one

-- The number of parts of a block is the size divided by the rows of a part.
pub parts_number : {size n : ℕ} (p : IsPart size n) → size / n ≡ p.count
parts_number {n} p = ap (λ v. v / n) p.whole ∙ mul-div_cancel p.count p.positive

-- Each part begins inside the block.
pub part_begins : {size n : ℕ} (j : ℕ) → IsPart size n → j < size / n → j * n < size
part_begins j p h = grind (arith, common_steps)

-- All parts together are the whole block.
pub parts_whole : {size n : ℕ} (j : ℕ) → IsPart size n → j ≡ size / n → j * n ≡ size
parts_whole {n} j p is = ap (λ v. v * n) (is ∙ parts_number p) ∙ sym p.whole
