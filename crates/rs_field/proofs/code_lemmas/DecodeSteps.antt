-- The number of steps of a decode.
use Rattle.std.proofs.Common.{◌≡◌, ℕ, ◌+◌, ◌*◌, ◌/◌, ◌≤◌, sym, mul_assoc, arith}
use Rattle.std.proofs.Math.Nat.{mul-le-mul_right}
use Rattle.rs_field.specs.words.StepBounds.{CountsUpTo, log2, transform_steps}
use Rattle.rs_field.specs.code.Bounds.{decode_steps}
use Rattle.rs_field.specs.declared.words.steps.Steps.{Steps}
use Rattle.rs_field.proofs.words_lemmas.Counting.{counted}

-- The steps of a locator, three transforms and four steps for each row are within the bound of a decode.
pub counts_decode : (w m n : ℕ) (a b c : Steps) → m + n ≤ 3 * transform_steps w + 4 * w
    → CountsUpTo m 1048576 65536 a b → CountsUpTo n 0 0 b c → CountsUpTo (decode_steps w) 1048576 65536 a c
unfolding transform_steps decode_steps
counts_decode w m n a b c most p q =
    let thirds : 3 * (w / 2) * log2 w ≤ 3 * w / 2 * log2 w =
    mul-le-mul_right (log2 w) (let halves : 3 * (w / 2) ≤ 3 * w / 2 = omega arith in halves) in
    let same : 3 * (w / 2 * log2 w) ≡ 3 * (w / 2) * log2 w = sym (mul_assoc 3 (w / 2) (log2 w)) in
    counted (decode_steps w) 1048576 65536 a c
    (omega arith, omega (arith, thirds, same, most, p.row_steps_most, q.row_steps_most))
    (omega arith, omega arith) (omega arith, omega arith)
