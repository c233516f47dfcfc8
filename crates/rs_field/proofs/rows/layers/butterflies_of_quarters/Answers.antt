use Rattle.std.proofs.Common.{◌≡◌, ℕ, ◌+◌, ◌*◌, ◌<◌, List, ◌++◌, length, arith}
use Rattle.std.proofs.lemmas.Grind.{common_steps}
use Rattle.rs_field.specs.rows.Rows.{Chunks, chunk}
use Rattle.rs_field.specs.rows.TwoLayers.{OnFourChunks, IsForwardTwoLayers, IsBackwardTwoLayers}
use Rattle.rs_field.proofs.rows.layers.butterflies_of_quarters.Goals as goal

-- The chunks of four quarters are chunks of the whole list.
of_quarters : (related : OnFourChunks) (n k : ℕ) (w x y z : Chunks) (a b c d : List ℕ) → length w ≡ n → length x ≡ n
    → length y ≡ n → k < n
    → related a b c d (chunk w k) (chunk x k) (chunk y k) (chunk z k)
    → related a b c d (chunk (w ++ x ++ (y ++ z)) k) (chunk (w ++ x ++ (y ++ z)) (n + k))
    (chunk (w ++ x ++ (y ++ z)) (2 * n + k)) (chunk (w ++ x ++ (y ++ z)) (3 * n + k))
of_quarters related n k w x y z a b c d lw lx ly hk r = grind (arith, common_steps)

pub returns-in-Forward-clause-fours : goal.returns-in-Forward-clause-fours
returns-in-Forward-clause-fours g c k hk =
    let n = c.args.quarter in let old = c.args.chunks.now in let new = c.fft_two_layers.new in let logs = c.args.logs in
    let x0 : chunk c.split_at_mut-x0.result.0.now k ≡ chunk old k = grind (arith, common_steps) in
    let x1 : chunk c.split_at_mut-x0.result.1.now k ≡ chunk old (n + k) = grind (arith, common_steps) in
    let x2 : chunk c.split_at_mut-x2.result.0.now k ≡ chunk old (2 * n + k) = grind (arith, common_steps) in
    let x3 : chunk c.split_at_mut-x2.result.1.now k ≡ chunk old (3 * n + k) = grind (arith, common_steps) in
    let four = c.fft_two_layers.ensures k (grind (arith, common_steps)) in
    rw c.in-Forward.is (of_quarters
    (IsForwardTwoLayers logs.log_m02 logs.log_m01 logs.log_m23) n k new.x0 new.x1 new.x2 new.x3 _ _ _ _
    (grind (arith, common_steps)) (grind (arith, common_steps)) (grind (arith, common_steps)) hk
    (rw (x0, x1, x2, x3) at four))

pub returns-in-Backward-clause-fours : goal.returns-in-Backward-clause-fours
returns-in-Backward-clause-fours g c k hk =
    let n = c.args.quarter in let old = c.args.chunks.now in let new = c.ifft_two_layers.new in let logs =
    c.args.logs in
    let x0 : chunk c.split_at_mut-x0.result.0.now k ≡ chunk old k = grind (arith, common_steps) in
    let x1 : chunk c.split_at_mut-x0.result.1.now k ≡ chunk old (n + k) = grind (arith, common_steps) in
    let x2 : chunk c.split_at_mut-x2.result.0.now k ≡ chunk old (2 * n + k) = grind (arith, common_steps) in
    let x3 : chunk c.split_at_mut-x2.result.1.now k ≡ chunk old (3 * n + k) = grind (arith, common_steps) in
    let four = c.ifft_two_layers.ensures k (grind (arith, common_steps)) in
    rw c.in-Backward.is (of_quarters
    (IsBackwardTwoLayers logs.log_m02 logs.log_m01 logs.log_m23) n k new.x0 new.x1 new.x2 new.x3 _ _ _ _
    (grind (arith, common_steps)) (grind (arith, common_steps)) (grind (arith, common_steps)) hk
    (rw (x0, x1, x2, x3) at four))
