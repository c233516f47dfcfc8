-- The tables of transformed logarithms: all tables in one list, and the table of each size.
use Rattle.std.proofs.Common.{◌≡◌, ℕ, ◌+◌, ◌-◌, ◌*◌, ◌/◌, ◌%◌, ◌^◌, ◌<◌, ◌≤◌, List, length, take, drop, get_or, cond}
use Rattle.std.proofs.Common.{sym, ap, ◌∙◌, subst, arith, inl, inr, pow-suc, pow_mono, add-one, ne_eqb, eq-eqb}
use Rattle.std.proofs.lemmas.Bool.{cases_eq}
use Rattle.std.proofs.lemmas.List.{length-drop, length-take-le, get_or-take, get_or-drop}
use Rattle.rs_field.specs.words.Field.{log}
use Rattle.rs_field.specs.words.Tables.{IsLog, IsLogWalshBelow, AreLogWalshes}
use Rattle.rs_field.specs.words.Walsh.{signed_sum, IsWalsh, log_or_zero}

-- The part of the list that is the table for n points.
pub part-below : (d n : ℕ) (all : List ℕ) → n ≡ 2 ^ d → d ≤ 16 → AreLogWalshes all
    → IsLogWalshBelow n (take (2 * n - 1 - (n - 1)) (drop (n - 1) all))
part-below d n all is hd h =
    let few : 2 ^ d ≤ 2 ^ 16 = pow_mono hd in
    let left : length (drop (n - 1) all) ≡ 131071 - (n - 1) =
    length-drop (n - 1) all ∙ ap (λ l. l - (n - 1)) h.all_length in
    subst (λ (m : ℕ). IsLogWalshBelow n (take m (drop (n - 1) all))) (sym (omega arith)) (record {
      below_length = length-take-le n (drop (n - 1) all) (omega arith);
      below_entry = λ w hw.
          ap (λ v. v % 65535) (get_or-take n (drop (n - 1) all) w 0 hw ∙ get_or-drop (n - 1) all w 0) ∙ at w hw;
    })
  where
    at : (w : ℕ) → w < n → get_or all (n - 1 + w) 0 % 65535 ≡ signed_sum n (λ z. 65536 / n * log_or_zero z) w % 65535
    at = subst (λ (m : ℕ). IsWalsh m (λ z. 65536 / m * log_or_zero z) (λ w. get_or all (m - 1 + w) 0)) (sym is)
        (h.all_entry d hd)

-- The logarithm of a word in the table, which is 0 for the word 0.
pub log_or_zero-zero : (z : ℕ) → z ≡ 0 → 0 ≡ log_or_zero z
unfolding log_or_zero
log_or_zero-zero z none = sym (ap (λ b. cond b 0 (log z)) (eq-eqb z 0 none))

pub log_or_zero-some : (logs : List ℕ) (z : ℕ) → IsLog logs → 0 < z → z < 65536 → get_or logs z 0 ≡ log_or_zero z
unfolding log_or_zero
log_or_zero-some logs z h some hz =
    h.log_entry z some hz ∙ sym (ap (λ b. cond b 0 (log z)) (ne_eqb z 0 (λ none. let no : ⊥ = omega arith in no)))

-- The list holds the tables for the first sizes.
pub record AreFirst (sizes : ℕ) (all : List ℕ) : Type 0 where
  pub first_length : length all ≡ 2 ^ sizes - 1
  pub first_entry : (d : ℕ) → d < sizes
      → IsWalsh (2 ^ d) (λ z. 65536 / 2 ^ d * log_or_zero z) (λ w. get_or all (2 ^ d - 1 + w) 0)

-- Appending the next table gives the list with one more table.
pub first-more : (sizes n : ℕ) (old new : List ℕ) → n ≡ 2 ^ sizes → AreFirst sizes old → length new ≡ length old + n
    → ((i : ℕ) → i < length old → get_or new i 0 ≡ get_or old i 0)
    → IsWalsh n (λ z. 65536 / n * log_or_zero z) (λ w. get_or new (length old + w) 0) → AreFirst (sizes + 1) new
first-more sizes n old new is h grown kept last =
    let two : 2 ^ (sizes + 1) ≡ 2 ^ sizes * 2 = ap (λ e. 2 ^ e) (add-one sizes) ∙ pow-suc 2 sizes in
    let here : IsWalsh (2 ^ sizes) (λ z. 65536 / 2 ^ sizes * log_or_zero z) (λ w. get_or new (2 ^ sizes - 1 + w) 0) =
    subst (λ (k : ℕ). IsWalsh (2 ^ sizes) (λ z. 65536 / 2 ^ sizes * log_or_zero z) (λ w. get_or new (k + w) 0))
    h.first_length
    (subst (λ (m : ℕ). IsWalsh m (λ z. 65536 / m * log_or_zero z) (λ w. get_or new (length old + w) 0)) is last) in
    record {
      first_length = omega arith;
      first_entry = λ d hd. elim (cases_eq d sizes) [
        | inl same ↦ subst (λ (e : ℕ).
            IsWalsh (2 ^ e) (λ z. 65536 / 2 ^ e * log_or_zero z) (λ w. get_or new (2 ^ e - 1 + w) 0)) (sym same) here
        | inr other ↦ λ w hw.
            let wide : 2 ^ (d + 1) ≤ 2 ^ sizes = pow_mono (omega arith) in
            let double : 2 ^ (d + 1) ≡ 2 ^ d * 2 = ap (λ e. 2 ^ e) (add-one d) ∙ pow-suc 2 d in
            ap (λ v. v % 65535) (kept (2 ^ d - 1 + w) (omega arith)) ∙ h.first_entry d (omega arith) w hw
      ];
    }
