-- The derivative steps of both halves, with the sums between them, are the derivative step of the whole.
use Rattle.std.proofs.Common.{◌/◌, arith}
use Rattle.rs_field.proofs.words_lemmas.Halves.{few_halves, half_power, no_steps, steps_half, two_halves}
use Rattle.rs_field.proofs.rows_lemmas.Recursion.{fits_kept}
use Rattle.rs_field.proofs.rows_lemmas.DerivativeStep.{derivative_one, derivative_rows}
use Rattle.rs_field.proofs.rows.derivative.+derivative_within.Goals as goal

pub derivative_within-requires : goal.derivative_within-requires
derivative_within-requires t c =
    let p = half_power c.args.size c.if-size-gt1.true c.requires.power in
    (omega arith, (c.requires.fits, ((p.0, p.2), (omega arith, omega arith))))

pub derivative_within-requires-then-size-gt1 : goal.derivative_within-requires-then-size-gt1
derivative_within-requires-then-size-gt1 t c =
    let p = half_power c.args.size c.if-size-gt1.true c.requires.power in
    let even = two_halves c.args.size c.if-size-gt1.true c.requires.power in
    let extent_low = c.derivative_within.ensures.extent in
    let extent_mid = c.xor_within.ensures.extent in
    let fits = fits_kept extent_mid (fits_kept extent_low c.requires.fits) in
    (omega arith, (fits, ((p.0, p.2), (omega arith, omega arith))))

pub returns-then-size-gt1-clause-derivative : goal.returns-then-size-gt1-clause-derivative
returns-then-size-gt1-clause-derivative t c k s hk hs =
    let low = c.derivative_within.ensures in
    let mid = c.xor_within.ensures in
    let high = c.derivative_within-then-size-gt1.ensures in
    derivative_rows c.args.pos k s c.if-size-gt1.true c.requires.power c.requires.words hk low.extent low.others
    mid.extent mid.others high.extent high.others (low.derivative k s hk hs)
    (λ q hq. mid.sums q k s hq (omega (arith, low.extent.len_64)) hs)
    (high.derivative k s (omega (arith, low.extent.len_64, mid.extent.len_64)) hs)

pub returns-then-size-gt1-clause-counts : goal.returns-then-size-gt1-clause-counts
returns-then-size-gt1-clause-counts t c =
    let p = half_power c.args.size c.if-size-gt1.true c.requires.power in
    let whole = steps_half c.args.size p.0 (c.args.size / 2) (few_halves c.args.size p.0 0 p.1 (omega arith)) p.1 p.2 in
    let low = c.derivative_within.ensures.counts in
    let sums = c.xor_within.ensures.counts in
    let high = c.derivative_within-then-size-gt1.ensures.counts in (
      omega (arith, whole, low.0, sums.0, high.0),
      omega (arith, low.1, sums.1, high.1),
      omega
          (arith, low.2, sums.2, high.2),
    )

pub returns-else-size-gt1-clause-counts : goal.returns-else-size-gt1-clause-counts
returns-else-size-gt1-clause-counts t c = let none = no_steps c.args.size (omega (arith, c.if-size-gt1.false)) in
    (omega (arith, none), omega arith, omega arith)

pub returns-else-size-gt1-clause-derivative : goal.returns-else-size-gt1-clause-derivative
returns-else-size-gt1-clause-derivative t c k s hk hs =
    derivative_one _ c.if-size-gt1.false
