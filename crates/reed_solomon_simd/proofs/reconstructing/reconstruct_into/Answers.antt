use Rattle.std.proofs.Common.{rules, ℕ, List, length, map, Bor, Err, refl}
use Rattle.rs_field.specs.code.Column.{Shard}
use Rattle.rs_field.specs.code.OneCall.{Items}
use Rattle.reed_solomon_simd.specs.declared.reconstruct_error.ReconstructError.TheVariants.{Refused}
use Rattle.reed_solomon_simd.specs.Reconstructed.{rooms_outcome}
use Rattle.reed_solomon_simd.specs.Rooms.{bytes_in}
use Rattle.reed_solomon_simd.proofs.ReconstructLemmas.{reconstructs-uncounted, reconstructs-refused}
use Rattle.reed_solomon_simd.proofs.reconstructing.reconstruct_into.Goals as goal

-- The shards of borrowed items, with their indexes.
abbrev lent : List (ℕ × Bor Shard) → Items
lent items = map (λ item. (item.0, item.1.now)) items

pub returns-in_err-counts-clause-answer : goal.returns-in_err-counts-clause-answer
returns-in_err-counts-clause-answer g c =
    let k = c.args.original_count in let r = c.args.recovery_count in
    let own = lent c.args.original.now in let other = lent c.args.recovery.now in
    let fit = rooms_outcome (length c.args.wanted.now) (bytes_in c.args.rooms.now) in
    let e = c.in_err-counts.field-0.0 in (
      Err (Refused e),
      reconstructs-uncounted k r own other c.args.wanted.now fit e c.in_err-counts.ensures,
      (search rules, refl),
    )

pub returns-in_err-received-clause-answer : goal.returns-in_err-received-clause-answer
returns-in_err-received-clause-answer g c =
    let k = c.args.original_count in let r = c.args.recovery_count in
    let own = lent c.args.original.now in let other = lent c.args.recovery.now in
    let fit = rooms_outcome (length c.args.wanted.now) (bytes_in c.args.rooms.now) in
    let e = c.in_err-received.field-0.0 in (
      Err (Refused e),
      reconstructs-refused k r own other c.args.wanted.now fit e
          (rw (c.in_ok-counts.ensures.0, c.in_ok-counts.ensures.1) at c.in_err-received.ensures),
      (search rules, refl),
    )

pub returns-clause-answer : goal.returns-clause-answer
returns-clause-answer g c = search rules
