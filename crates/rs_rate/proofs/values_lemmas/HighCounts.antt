-- The rows of encoders, and counts that the high rate supports.
use Rattle.std.proofs.Common.{◌≡◌, ℕ, ◌+◌, ◌-◌, ◌*◌, ◌/◌, ◌%◌, ◌^◌, ◌<◌, ◌≤◌, Bool, true, false, cond, sym, ap, ◌∙◌}
use Rattle.std.proofs.Common.{subst, arith}
use Rattle.std.specs.Prelude.{nat_le, nat_lt, ◌&&◌}
use Rattle.std.proofs.Math.Bool.{and_comm}
use Rattle.std.proofs.Math.Nat.{mul-mod_left}
use Rattle.std.proofs.lemmas.Nat.{pow_pos, div-add-mod'}
use Rattle.rs_field.specs.code.Counts.{next_power, supports, low_rate, high_rate}
use Rattle.rs_field.specs.code.Frame.{encoder_rows}
use Rattle.rs_field.proofs.code_lemmas.NextPower.{next_power-small}
use Rattle.rs_field.proofs.code_lemmas.SupportedCounts.{low_fits}
use Rattle.rs_rate.specs.values.Configured.{low_or_high}
use Rattle.rs_rate.proofs.values_lemmas.PowerLemmas.{low_small, next_multiple-by, multiple_least, multiple_room}

-- The high rate supports k and r exactly if the low rate supports r and k.
pub high_turned : (k r : ℕ) → supports low_rate r k ≡ supports high_rate k r
unfolding supports
high_turned k r = ap (λ b. b && nat_le (next_power r + k) 65536) (and_comm (nat_lt 0 r) (nat_lt 0 k))

-- If the high rate supports k and r, r is at most 65536.
pub high_small : (k r : ℕ) → supports high_rate k r ≡ true → r ≤ 65536
high_small k r is = low_small r k (high_turned k r ∙ is)

-- The n rows are whole blocks of the next power of two of k, hold r shards, and leave points of the field for one more
-- block.
pub record HasRows (k r n : ℕ) : Type 0 where
  pub power : (d : ℕ) × (next_power k ≡ 2 ^ d)
  pub block : k ≤ next_power k
  pub some : next_power k ≤ n
  pub enough : r ≤ n
  pub whole : n % next_power k ≡ 0
  pub points : n + next_power k ≤ 65536

low_rows-fit : (k r : ℕ) → supports low_rate k r ≡ true → HasRows k r (encoder_rows low_rate k r)
low_rows-fit k r is =
    let known = next_power-small k (low_small k r is) in
    let fits = low_fits k r is in
    let positive : 0 < next_power k = (let p = pow_pos known.0 in omega (arith, known.2)) in
    let parts : (r + next_power k - 1) / next_power k * next_power k + (r + next_power k - 1) % next_power k
    ≡ r + next_power k - 1 = div-add-mod' (r + next_power k - 1) (next_power k) in
    let rows : encoder_rows low_rate k r ≡ (r + next_power k - 1) / next_power k * next_power k =
    sym (next_multiple-by true k r) in
    let rest : (r + next_power k - 1) % next_power k < next_power k = omega arith in
    let multiple : encoder_rows low_rate k r % next_power k ≡ 0 =
    ap (λ n. n % next_power k) rows ∙ mul-mod_left ((r + next_power k - 1) / next_power k) (next_power k) in
    record {
      power = (known.0, known.2);
      block = known.3;
      some = multiple_least (encoder_rows low_rate k r) (next_power k) (omega (arith, fits.1)) multiple;
      enough = omega (arith, rows, parts, rest);
      whole = multiple;
      points = multiple_room (encoder_rows low_rate k r) known.0 (next_power k) known.1 known.2 multiple
          (omega (arith, fits.2));
    }

pub rows-fit : (low : Bool) (k r : ℕ) → supports (low_or_high low) k r ≡ true
    → HasRows (cond low k r) (cond low r k) (encoder_rows (low_or_high low) k r)
rows-fit true k r is = low_rows-fit k r is
rows-fit false k r is =
    subst (λ (n : ℕ). HasRows r k n) (sym (next_multiple-by true r k) ∙ next_multiple-by false k r)
    (low_rows-fit r k (high_turned k r ∙ is))
