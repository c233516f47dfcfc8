use Rattle.std.proofs.Common.{rules, ◌++◌, sym, ap}
use Rattle.std.specs.Result.{result_map_both}
use Rattle.rs_ffi.specs.Arrays.{items_of, shards_in}
use Rattle.rs_ffi.specs.Places.{placed_refusal}
use Rattle.rs_ffi.proofs.PlaceLemmas.{both-shards}
use Rattle.rs_ffi.proofs.verifying.verify_arrays.Goals as goal

pub returns-in-Err : goal.returns-in-Err
returns-in-Err g c = search (rules, both-shards)

pub returns : goal.returns
returns g c = (
  c.verify_received-answer.result,
  c.verify_received-answer.ensures,
  sym (ap (result_map_both (λ u. u)
      (placed_refusal (shards_in (items_of c.args.originals.now) ++ shards_in (items_of c.args.recovery.now))))
      c.in_default.is),
)
