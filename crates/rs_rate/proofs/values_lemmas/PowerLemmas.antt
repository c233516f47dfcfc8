-- Powers of two, and counts that a rate supports.
use Rattle.std.proofs.Common.{rules, ◌≡◌, ℕ, ◌+◌, ◌-◌, ◌*◌, ◌%◌, ◌^◌, ◌<◌, ◌≤◌, Bool, true, false, cond, refl, sym, ap}
use Rattle.std.proofs.Common.{◌∙◌, arith}
use Rattle.std.proofs.lemmas.Grind.{common_steps}
use Rattle.std.proofs.lemmas.Bool.{le-leb, lt-ltb}
use Rattle.std.proofs.lemmas.Nat.{pow-add}
use Rattle.std.proofs.Math.Nat.{zero-mod, mul-mod_left}
use Rattle.rs_field.proofs.code_lemmas.NextPower.{next_power-large}
use Rattle.rs_field.specs.code.Counts.{next_power, supports, is_low, low_rate}
use Rattle.rs_field.specs.code.Frame.{next_multiple, encoder_rows}
use Rattle.rs_field.proofs.code_lemmas.SupportedCounts.{low_fits}
use Rattle.rs_rate.specs.values.Configured.{low_or_high}

pub low_supported : (k r : ℕ) → 0 < k → 0 < r → next_power k + r ≤ 65536 → supports low_rate k r ≡ true
unfolding supports
low_supported k r some_k some_r fit =
    rw (lt-ltb 0 k some_k, lt-ltb 0 r some_r, le-leb (next_power k + r) 65536 fit) refl

-- The multiple of m that is at least n and below n + m is n rounded up to a multiple of m.
pub next_multiple-is : (n m result : ℕ) → 0 < m → n ≤ result → result < n + m → result % m ≡ 0
    → result ≡ next_multiple n m
next_multiple-is n m result some low high multiple = grind (arith, common_steps)

-- The number of rows of an encoder of the low rate or of the high rate.
pub next_multiple-by : (low : Bool) (k r : ℕ)
    → next_multiple (cond low r k) (next_power (cond low k r)) ≡ encoder_rows (low_or_high low) k r
unfolding encoder_rows is_low
next_multiple-by true k r = refl
next_multiple-by false k r = refl

-- If the low rate supports k and r, k is at most 65536.
pub low_small : (k r : ℕ) → supports low_rate k r ≡ true → k ≤ 65536
low_small k r is = search (rules, low_fits, next_power-large)

-- If one multiple of m is below another, one more block of m fits between them.
pub next_block : (start rows m : ℕ) → start < rows → start % m ≡ 0 → rows % m ≡ 0 → start + m ≤ rows
next_block start rows m below from to = grind (arith, common_steps)

-- A positive multiple of m is at least m.
pub multiple_least : (n m : ℕ) → 0 < n → n % m ≡ 0 → m ≤ n
multiple_least n m some multiple = let least = next_block 0 n m some (zero-mod m) multiple in omega arith

-- If m is a power of two up to 65536 and n is a multiple of m below 65536, n + m is at most 65536.
pub multiple_room : (n d m : ℕ) → d ≤ 16 → m ≡ 2 ^ d → n % m ≡ 0 → n < 65536 → n + m ≤ 65536
multiple_room n d m few power multiple below =
    let all : 65536 ≡ 2 ^ (16 - d) * m =
    (let parts : 16 - d + d ≡ 16 = omega arith in sym (ap (λ e. 2 ^ e) parts) ∙ pow-add 2 (16 - d) d
    ∙ ap (λ w. 2 ^ (16 - d) * w) (sym power)) in
    next_block n 65536 m below multiple (ap (λ w. w % m) all ∙ mul-mod_left (2 ^ (16 - d)) m)
