use Rattle.std.proofs.Common.{rules, ◌≡◌, ℕ, ◌+◌, ◌-◌, ◌*◌, ◌<◌, length, bit_xor, arith}
use Rattle.rs_field.specs.rows.Rows.{chunk, symbol}
use Rattle.rs_field.specs.words.Tables.{times_factor}
use Rattle.rs_engines.proofs.StridedRows.{part_changed, part_kept}
use Rattle.rs_engines.proofs.whole_rows.StridedRowsWholeRows.add_bytewise_pair.Goals as goal

pub returns-clause-sums : goal.returns-clause-sums
returns-clause-sums g c =
    let some : 0 < length c.args.first.now = search rules in
    let (fit, within) = c.requires.has (length c.args.first.now - 1) (omega (arith, some)) in
    part_changed c.args.self.now.chunks.now c.add_chunk_pairs.new.x c.args.self.now.stride _
    (length c.args.first.now) c.args.at
    (λ k s v. bit_xor (bit_xor v (times_factor c.args.factors.0.log_m (symbol (chunk c.args.first.now k) s)))
    (times_factor c.args.factors.1.log_m (symbol (chunk c.args.second.now k) s)))
    (omega arith) (omega (arith, fit, some)) (omega (arith, within, some)) (search rules) c.add_chunk_pairs.ensures

pub returns-clause-others : goal.returns-clause-others
returns-clause-others g c k s i small other =
    let some : 0 < length c.args.first.now = search rules in
    let (fit, within) = c.requires.has (length c.args.first.now - 1) (omega (arith, some)) in
    part_kept c.args.self.now.chunks.now c.add_chunk_pairs.new.x c.args.self.now.stride _
    (length c.args.first.now) c.args.at
    (omega arith) (omega (arith, fit, some)) (omega (arith, within, some)) (search rules) k s i other
