use Rattle.std.proofs.Common.{◌%◌, ◌++◌, get_or, ◌∙◌, arith}
use Rattle.std.proofs.lemmas.List.FromFn.{get_or-map-range_with_len}
use Rattle.std.proofs.lemmas.List.{get_or_append_left}
use Rattle.rs_engines.proofs.byte_vector.table_twice.Goals as goal

pub returns : goal.returns
returns c i h =
    let bytes = c.table.result in
    get_or-map-range_with_len (λ j. get_or (bytes ++ bytes) (j % 16) 0) 0 32 i i 0 h (omega arith)
    ∙ get_or_append_left bytes bytes 0 (i % 16) (omega arith) ∙ c.table.ensures (i % 16) (omega arith)
