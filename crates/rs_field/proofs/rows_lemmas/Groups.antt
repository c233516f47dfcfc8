-- Groups of four rows, and rows that are four times as long: their numbers, and the transform of both.
use Rattle.std.proofs.Common.{◌≡◌, ℕ, suc, ◌+◌, ◌*◌, ◌/◌, ◌%◌, ◌^◌, ◌<◌, ◌≤◌, bit_xor, refl, sym, ap, ap₂}
use Rattle.std.proofs.Common.{◌∙◌, arith, pow-suc}
use Rattle.std.proofs.Math.Nat.{mul-div_cancel, mul-mod_left}
use Rattle.std.proofs.lemmas.Nat.{pow_pos}
use Rattle.rs_field.specs.rows.Rows.{Chunks, chunk, symbol, word_in}
use Rattle.rs_field.specs.rows.Written.{AreGroupsWritten}
use Rattle.rs_field.specs.words.StepBounds.{transform_steps}
use Rattle.rs_field.specs.words.Transform.{IsBackward}
use Rattle.rs_field.proofs.rows_lemmas.RowOffsets.{row_within}
use Rattle.rs_field.proofs.rows_lemmas.Written.{twice}
use Rattle.rs_field.proofs.words_lemmas.Combination.{aligned_parts}
use Rattle.rs_field.proofs.words_lemmas.Groups.{grouped_backward}
use Rattle.rs_field.proofs.words_lemmas.Halves.{steps_quarters}

-- There are `groups` groups of four among `count` rows.
pub record GroupsOf (count groups : ℕ) : Type 0 where
  pub power : (d : ℕ) × (groups ≡ 2 ^ d)
  pub positive : 0 < groups
  pub whole : count ≡ groups * 4
  pub steps : 4 * groups + 4 * transform_steps groups ≡ transform_steps count

pub groups_of : (count d : ℕ) → count ≡ 8 * 2 ^ d → count ≤ 65536 → GroupsOf count (count / 4)
groups_of count d is few =
    let once : 2 ^ suc d ≡ 2 ^ d * 2 = pow-suc 2 d in
    let twice : 2 ^ suc (suc (suc d)) ≡ 2 ^ suc (suc d) * 2 = pow-suc 2 (suc (suc d)) in
    let thrice : 2 ^ suc (suc d) ≡ 2 ^ suc d * 2 = pow-suc 2 (suc d) in
    let quarter : count / 4 ≡ 2 ^ suc d = omega (arith, is, once) in
    let positive = pow_pos (suc d) in
    record {
      power = (suc d, quarter);
      positive = omega (arith, quarter, positive);
      whole = omega (arith, is);
      steps = steps_quarters count (suc d) (count / 4) few (omega (arith, is, once, twice, thrice)) quarter;
    }

module _ {count groups : ℕ} (p : GroupsOf count groups) where
  -- Chunks of all rows, divided by the number of groups, are the chunks of a group.
  pub chunks_of_group : (n x : ℕ) → x ≡ count * n → x / groups ≡ 4 * n
  chunks_of_group n x is =
      let whole : x ≡ 4 * n * groups = omega (arith, is, ap (λ v. v * n) p.whole) in
      ap (λ v. v / groups) whole ∙ mul-div_cancel (4 * n) p.positive

  -- The chunks of all groups are the chunks of all rows.
  pub chunks_of_groups : (n x : ℕ) → x ≡ count * n → x ≡ groups * (x / groups)
  chunks_of_groups n x is =
      let len = chunks_of_group n x is in
      is ∙ omega (arith, ap (λ v. v * n) p.whole, ap (λ v. groups * v) len)

  -- The shift of the rows is four times that of the groups, which is a multiple of their number.
  pub shift_of_groups : (shift : ℕ) → shift % count ≡ 0 → shift / 4 % groups ≡ 0
  shift_of_groups shift aligned =
      let u : ℕ = shift / count in
      let start : shift ≡ u * groups * 4 = aligned_parts count groups 4 shift p.whole aligned in
      ap (λ v. v / 4 % groups) start ∙ ap (λ v. v % groups) (mul-div_cancel (u * groups) (omega arith))
      ∙ mul-mod_left u groups

  -- A shift of all rows is a multiple of four.
  pub shift_of_four : (shift : ℕ) → shift % count ≡ 0 → shift % 4 ≡ 0
  shift_of_four shift aligned =
      let start = aligned_parts count groups 4 shift p.whole aligned in
      omega (arith, start)

-- A word of row q of a group is a word of the long row.
pub long_row : (chunks : Chunks) (n len k s q r : ℕ) → len ≡ 4 * n
    → word_in chunks len (q * n + k) s r ≡ word_in chunks n k s (r * 4 + q)
long_row chunks n len k s q r is =
    let row : r * len ≡ r * (4 * n) = ap (λ v. r * v) is in
    let at : r * len + (q * n + k) ≡ (r * 4 + q) * n + k = omega (arith, row) in
    ap (λ i. symbol (chunk chunks i) s) at

-- If each group is transformed backward, and then the groups as long rows, all rows are transformed backward.
pub rows_of_groups : {count groups : ℕ} (p : GroupsOf count groups) (shift n len k s : ℕ) (words : ℕ → ℕ)
    (mid : Chunks) (made : ℕ → ℕ) → len ≡ 4 * n → shift % count ≡ 0 → shift + count ≤ 65536
    → AreGroupsWritten groups shift words (word_in mid n k s)
    → ((q : ℕ) → q < 4 → IsBackward groups (shift / 4) (word_in mid len (q * n + k) s) (λ r. made (r * 4 + q)))
    → IsBackward count shift words made
rows_of_groups {count} {groups} p shift n len k s words mid made is aligned points fours long =
    let whole = p.whole in
    rw (sym whole) at (grouped_backward 4 groups shift words (word_in mid n k s) made (2, refl) p.power
    (shift_of_four p shift aligned) (omega (arith, points, whole)) fours
    (λ q low r few. sym (long_row mid n len k s q r is) ∙ long q low r few))

-- Long rows that were added to long rows were added row by row.
pub long_rows_added : {count groups : ℕ} (p : GroupsOf count groups) (n len k s : ℕ) (old made new : Chunks)
    → len ≡ 4 * n → k < n
    → ((j r : ℕ) → j < len → r < groups
    → word_in new len j s r ≡ bit_xor (word_in old len j s r) (word_in made len j s r))
    → (q : ℕ) → q < count → word_in made n k s q ≡ bit_xor (word_in old n k s q) (word_in new n k s q)
long_rows_added {count} {groups} p n len k s old made new is inside added q few =
    let r : ℕ = q / 4 in
    let place : ℕ = q % 4 in
    let back : r * 4 + place ≡ q = omega arith in
    let low : place < 4 = omega arith in
    let group : r < groups = let whole = p.whole in omega (arith, few, whole, back) in
    let within = row_within place 4 k n low inside in
    let at : (chunks : Chunks) → word_in chunks len (place * n + k) s r ≡ word_in chunks n k s q =
    λ chunks. long_row chunks n len k s place r is ∙ ap (word_in chunks n k s) back in
    sym (ap (bit_xor (word_in old n k s q)) (sym (at new)
    ∙ added (place * n + k) r (omega (arith, within, is)) group ∙ ap₂ bit_xor (at old) (at made))
    ∙ twice (word_in old n k s q) (word_in made n k s q))
