-- Counts of steps of calls, one after another.
use Rattle.std.proofs.Common.{ℕ, ◌+◌, ◌≤◌, arith}
use Rattle.rs_field.specs.words.StepBounds.{CountsRows, CountsUpTo}
use Rattle.rs_field.specs.declared.words.steps.Steps.{Steps}
use Rattle.std.proofs.lemmas.Grind.{common_steps}

-- Each count increased by at most its bound.
pub counted : (m n q : ℕ) (a b : Steps) → (a.row_steps ≤ b.row_steps) × (b.row_steps ≤ a.row_steps + m)
    → (a.pair_sums ≤ b.pair_sums) × (b.pair_sums ≤ a.pair_sums + n) → (a.products ≤ b.products)
    × (b.products ≤ a.products + q) → CountsUpTo m n q a b
counted m n q a b x y z = grind (arith, common_steps)

-- A call with exactly n row steps is within the bound n.
pub counts_rows : {n : ℕ} {a b : Steps} → CountsRows n a b → CountsUpTo n 0 0 a b
counts_rows {n} {a} {b} (x, y, z) =
    counted n 0 0 a b (omega arith, omega arith) (omega arith, omega arith) (omega arith, omega arith)

-- A call that counts nothing is within any bound.
pub counts_none : {m n q : ℕ} {a : Steps} → CountsUpTo m n q a a
counts_none {m} {n} {q} {a} =
    counted m n q a a (omega arith, omega arith) (omega arith, omega arith) (omega arith, omega arith)

-- The bounds of two calls add up.
pub counts_then : {m n : ℕ} {a b c : Steps} → CountsUpTo m 0 0 a b → CountsUpTo n 0 0 b c → CountsUpTo (m + n) 0 0 a c
counts_then {m} {n} {a} {b} {c} p q =
    counted (m + n) 0 0 a c (omega arith, omega arith) (omega arith, omega arith) (omega arith, omega arith)

-- Counts within a bound are within any larger bound.
pub counts_within : {m n : ℕ} {a b : Steps} → m ≤ n → CountsUpTo m 0 0 a b → CountsUpTo n 0 0 a b
counts_within {m} {n} {a} {b} le p =
    counted n 0 0 a b (omega arith, omega arith) (omega arith, omega arith) (omega arith, omega arith)
