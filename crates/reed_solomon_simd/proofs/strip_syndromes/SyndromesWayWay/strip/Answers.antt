use Rattle.std.proofs.Common.{rules, ◌≡◌, ◌-◌, ◌≤◌, length, sym, ◌∙◌, arith}
use Rattle.std.specs.Prelude.{max, min}
use Rattle.std.proofs.Math.Nat.{mul-le-mul_left}
use Rattle.rs_field.specs.code.Decoder.{DecoderState}
use Rattle.rs_field.specs.rows.Layout.{row_len}
use Rattle.reed_solomon_simd.specs.StripSums.{sum_stride}
use Rattle.reed_solomon_simd.specs.Syndromes.{AreSyndromesReady}
use Rattle.reed_solomon_simd.proofs.strip_syndromes.SyndromesWayWay.strip.Goals as goal

-- A strip that is not longer can be made as well.
pub returns-clause-ready : goal.returns-clause-ready
returns-clause-ready g c =
    let s : DecoderState = g.S.Pieces.received c.args.store.now in
    let (n, most, held) = c.requires.ready in
    let same : length c.sum_strip.new.x ≡ length c.args.self.now.x.now = search rules in
    let rows : row_len (c.args.end - c.args.start) ≤ row_len n = omega (arith, most) in
    let narrow : sum_stride (c.args.end - c.args.start) ≤ sum_stride n = omega (arith, rows) in
    let fewer = mul-le-mul_left (max 1 (min 4 (length c.args.self.now.wanted.now))) narrow in
    let ready : AreSyndromesReady c.make_syndromes.new.encoder c.args.self.now.sums.base
    c.args.self.now.wanted.now c.args.self.now.sums.surplus (length c.sum_strip.new.x)
    (g.S.Pieces.received c.args.store.now) (c.args.end - c.args.start) =
    record {
      ready = record {
        size = c.args.end - c.args.start;
        room = omega arith;
        code = c.make_syndromes.ensures.code;
        whole = λ reads. held.ready.whole (sym c.make_syndromes.ensures.reads ∙ reads);
      };
      based = held.based;
      names = held.names;
      surplus_is = held.surplus_is;
      few = omega (arith, most, held.few);
      enough = omega (arith, fewer, held.enough, same);
    } in
    search rules
