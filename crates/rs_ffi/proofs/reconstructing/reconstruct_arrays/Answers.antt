use Rattle.std.proofs.Common.{rules, ◌++◌, sym, ap}
use Rattle.std.specs.Result.{result_map_both}
use Rattle.rs_ffi.specs.Arrays.{items_of, shards_in, bytes_in}
use Rattle.rs_ffi.specs.Places.{placed_reconstruct}
use Rattle.rs_ffi.proofs.PlaceLemmas.{both-shards}
use Rattle.rs_ffi.proofs.RoomFaults.{keeps-rooms}
use Rattle.rs_ffi.proofs.reconstructing.reconstruct_arrays.Goals as goal

pub returns-in-Err-clause-answer : goal.returns-in-Err-clause-answer
returns-in-Err-clause-answer g c = search (rules, both-shards)

pub returns-in-Err-clause-kept : goal.returns-in-Err-clause-kept
returns-in-Err-clause-kept g c = keeps-rooms c.args.rooms.now _ c.reconstruct_wanted-answer.ensures.kept

pub returns-clause-answer : goal.returns-clause-answer
returns-clause-answer g c = (
  c.reconstruct_wanted-answer.result,
  c.reconstruct_wanted-answer.ensures.answer,
  sym (ap (result_map_both (λ u. u)
      (placed_reconstruct (shards_in (items_of c.args.originals.now) ++ shards_in (items_of c.args.recovery.now))
      (bytes_in c.args.rooms.now))) c.in_default.is),
)

pub returns-clause-kept : goal.returns-clause-kept
returns-clause-kept g c = keeps-rooms c.args.rooms.now _ c.reconstruct_wanted-answer.ensures.kept
