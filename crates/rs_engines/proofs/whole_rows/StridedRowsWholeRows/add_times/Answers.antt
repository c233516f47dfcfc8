use Rattle.std.proofs.Common.{rules, ◌≡◌, ℕ, ◌+◌, ◌-◌, ◌*◌, ◌<◌, length, bit_xor, arith}
use Rattle.rs_field.specs.rows.Rows.{chunk, symbol}
use Rattle.rs_field.specs.words.Tables.{times_factor}
use Rattle.rs_engines.specs.Factors.{log_of}
use Rattle.rs_engines.proofs.StridedRows.{part_changed, part_kept}
use Rattle.rs_engines.proofs.whole_rows.StridedRowsWholeRows.add_times.Goals as goal

pub returns-clause-sums : goal.returns-clause-sums
returns-clause-sums g c =
    let some : 0 < length c.args.added.now = search rules in
    let (fit, within) = c.requires (length c.args.added.now - 1) (omega (arith, some)) in
    part_changed c.args.self.now.chunks.now c.add_row.new.x c.args.self.now.stride _ (length c.args.added.now) c.args.at
    (λ k s v. bit_xor v (times_factor (log_of c.args.factor) (symbol (chunk c.args.added.now k) s)))
    (omega arith) (omega (arith, fit, some)) (omega (arith, within, some)) (search rules) c.add_row.ensures

pub returns-clause-others : goal.returns-clause-others
returns-clause-others g c k s i small other =
    let some : 0 < length c.args.added.now = search rules in
    let (fit, within) = c.requires (length c.args.added.now - 1) (omega (arith, some)) in
    part_kept c.args.self.now.chunks.now c.add_row.new.x c.args.self.now.stride _ (length c.args.added.now) c.args.at
    (omega arith) (omega (arith, fit, some)) (omega (arith, within, some)) (search rules) k s i other
