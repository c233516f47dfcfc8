use Rattle.std.proofs.lemmas.List.{map-id}
use Rattle.rs_examples.proofs.one_call.encode_arrays.Goals as goal

pub returns : goal.returns
returns g c = rw (map-id c.args.original.now) at c.encode_slice.ensures.answer
