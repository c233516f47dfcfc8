-- Lemmas for the loops that fill the tables.
use Rattle.std.proofs.Common.{◌≡◌, ℕ, ◌+◌, ◌*◌, ◌/◌, ◌%◌, ◌^◌, ◌<◌, List, [], ◌∷◌, true, length, get_or, drop, set}
use Rattle.std.proofs.Common.{bit_xor, eqb, refl, sym, ap, ◌∙◌, arith, add-one, zero-mul, one-mul, ◌≤◌, inl, inr}
use Rattle.std.proofs.Math.ListN.{drop_of_length-le}
use Rattle.std.proofs.lemmas.List.{get_or-set_same, get_or-set_other, length-set}
use Rattle.std.proofs.lemmas.Bool.{cases_eq}
use Rattle.std.proofs.lemmas.Grind.{common_steps}
use Rattle.rs_field.specs.words.Tables.{IsExpLog}
use Rattle.rs_field.proofs.words_lemmas.Power.{power_injective, power_pos, power-suc, power_turn, power-log, log_lt}
use Rattle.rs_field.proofs.words_lemmas.Linear.{combine_xor, passes_below}
use Rattle.rs_field.proofs.words_lemmas.Product.{same_on_words, additive_left}
use Rattle.std.specs.Int.Bits.{xor_assoc, xor_zero_r}
use Rattle.rs_field.specs.words.Field.{combine, product, power, log, generator, cantor_basis, bits, monomials}
use Rattle.rs_field.specs.words.Field.{from_bits, carryless, reduce}

combine-cons : (b : ℕ) (bs : List ℕ) (x : ℕ) → combine (b ∷ bs) x ≡ bit_xor (x % 2 * b) (combine bs (x / 2))
unfolding combine
combine-cons b bs x = refl

one_more : (items : List ℕ) (i out rest : ℕ) → i < length items
    → bit_xor out (combine (drop i items) rest) ≡ bit_xor (bit_xor out (rest % 2 * get_or items i 0))
    (combine (drop (i + 1) items) (rest / 2))
one_more items i out rest h = grind (arith, common_steps, combine-cons, xor_assoc)

-- If the lowest bit is set, the next entry is added.
pub take_entry : (items : List ℕ) (i out rest : ℕ) → i < length items → rest % 2 ≡ 1
    → bit_xor (bit_xor out (get_or items i 0)) (combine (drop (i + 1) items) (rest / 2))
    ≡ bit_xor out (combine (drop i items) rest)
take_entry items i out rest h e = grind (arith, common_steps, one-mul, one_more)

-- If the lowest bit is not set, the next entry is skipped.
pub leave_entry : (items : List ℕ) (i out rest : ℕ) → i < length items → rest % 2 ≡ 0
    → bit_xor out (combine (drop (i + 1) items) (rest / 2)) ≡ bit_xor out (combine (drop i items) rest)
leave_entry items i out rest h e = cc (zero-mul (get_or items i 0), xor_zero_r out, one_more items i out rest h)

unfoldable pub generator_products : List ℕ
generator_products =
    0x4690 ∷ 0xBB9F ∷ 0x678C ∷ 0x7D8C ∷ 0x85D1 ∷ 0xF463 ∷ 0xB9B1 ∷ 0x7212
    ∷ 0x954C ∷ 0xEEFE ∷ 0x33DA ∷ 0xF92D ∷ 0x5499 ∷ 0xB887 ∷ 0x4F3F ∷ 0xFDC5 ∷ []

check_generator : passes_below 16 (λ i. eqb (combine generator_products (2 ^ i)) (product (2 ^ i) generator)) ≡ true
unfolding generator generator_products passes_below combine bits from_bits cantor_basis monomials carryless reduce
    product
check_generator = refl

pub generator_columns : (z : ℕ) → z < 2 ^ 16 → combine generator_products z ≡ product z generator
generator_columns =
    same_on_words (combine generator_products) (λ z. product z generator)
    (record { xor = λ a b ha hb. combine_xor generator_products a b }) (additive_left generator) check_generator

combine-nil : (x : ℕ) → combine [] x ≡ 0
unfolding combine
combine-nil x = refl

-- After the last entry, the sum is complete.
pub all_entries : (items : List ℕ) (i out rest v : ℕ) → length items ≤ i → bit_xor out (combine (drop i items) rest) ≡ v
    → out ≡ v
all_entries items i out rest v h e =
    sym (xor_zero_r out)
    ∙ ap (bit_xor out) (sym (ap (λ s. combine s rest) (drop_of_length-le items h) ∙ combine-nil rest)) ∙ e

-- ---- the loop that fills both tables

pub exp_more : (xs : List ℕ) (n z : ℕ) → length xs ≡ 65536 → n < 65535 → z ≡ power n
    → ((k : ℕ) → k < n → get_or xs k 0 ≡ power k) → (k : ℕ) → k < n + 1 → get_or (set xs n z) k 0 ≡ power k
exp_more xs n z size hn at sofar k hk = grind (arith, common_steps)

pub log_more : (xs : List ℕ) (n z : ℕ) → length xs ≡ 65536 → n < 65535 → z ≡ power n → z < 65536
    → ((k : ℕ) → k < n → get_or xs (power k) 0 ≡ k) → (k : ℕ) → k < n + 1 → get_or (set xs z n) (power k) 0 ≡ k
log_more xs n z size hn at hz sofar k hk =
    grind (arith, common_steps, cases_eq, get_or-set_same, get_or-set_other, power_injective)

pub log_zero_more : (xs : List ℕ) (n z : ℕ) → z ≡ power n → get_or xs 0 0 ≡ 65535 → get_or (set xs z n) 0 0 ≡ 65535
log_zero_more xs n z at h = get_or-set_other xs z 0 n 0 (λ e. absurd (omega (arith, power_pos n, at))) ∙ h

pub power_next : (n z y : ℕ) → z ≡ power n → y ≡ product z generator → y ≡ power (n + 1)
power_next n z y at e = e ∙ ap (λ v. product v generator) at ∙ sym (power-suc n) ∙ ap power (sym (add-one n))

pub filled_tables : (exp_table log_table : List ℕ) (n : ℕ) → length exp_table ≡ 65536 → length log_table ≡ 65536
    → 65535 ≡ n
    → ((k : ℕ) → k < n → get_or exp_table k 0 ≡ power k) → ((k : ℕ) → k < n → get_or log_table (power k) 0 ≡ k)
    → get_or log_table 0 0 ≡ 65535
    → IsExpLog (set exp_table 65535 1) log_table
filled_tables exp_table log_table n size_e size_l done exp_far log_far zero_far = record {
  exp_length = length-set exp_table 65535 1 ∙ size_e;
  log_length = size_l;
  exp_entry = λ k hk. elim (cases_eq k 65535) [
    | inl e ↦ ap (λ j. get_or (set exp_table 65535 1) j 0) e ∙ get_or-set_same exp_table 65535 1 0 (omega arith)
        ∙ sym power_turn ∙ ap power (sym e)
    | inr apart ↦ get_or-set_other exp_table 65535 k 1 0 apart ∙ exp_far k (omega arith)
  ];
  log_entry = λ z pos hz.
      let below : log z < n = omega (arith, log_lt z pos hz) in
      ap (λ v. get_or log_table v 0) (sym (power-log z pos hz)) ∙ log_far (log z) below;
  log_zero = zero_far;
}
