use Rattle.std.proofs.Common.{rules, ◌≡◌, ◌-◌, ◌≤◌, length, arith}
use Rattle.std.specs.Prelude.{max, min}
use Rattle.std.proofs.Math.Nat.{mul-le-mul_left}
use Rattle.rs_field.specs.rows.Layout.{row_len}
use Rattle.reed_solomon_simd.specs.Base.{AreSumsReady}
use Rattle.reed_solomon_simd.specs.StripSums.{sum_stride}
use Rattle.reed_solomon_simd.proofs.strip_summer.SumsWayWay.strip.Goals as goal

-- A strip that is not longer can be made as well.
pub returns-clause-ready : goal.returns-clause-ready
returns-clause-ready g c =
    let (n, most, held) = c.requires.ready in
    let same : length c.sum_strip.new.x ≡ length c.args.self.now.x.now = search rules in
    let rows : row_len (c.args.end - c.args.start) ≤ row_len n = omega (arith, most) in
    let narrow : sum_stride (c.args.end - c.args.start) ≤ sum_stride n = omega (arith, rows) in
    let fewer = mul-le-mul_left (max 1 (min 4 (length c.args.self.now.wanted.now))) narrow in
    let ready : AreSumsReady c.args.self.now.sums.now.base c.args.self.now.sums.now.surplus
    (length c.args.self.now.wanted.now) (length c.sum_strip.new.x)
    (g.S.Pieces.received c.args.store.now) (c.args.end - c.args.start) =
    record {
      based = held.based;
      surplus_is = held.surplus_is;
      enough = omega (arith, fewer, held.enough, same);
    } in
    search rules
