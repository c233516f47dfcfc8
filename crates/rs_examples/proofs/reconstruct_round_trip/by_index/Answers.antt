use Rattle.std.proofs.Common.{◌∙◌}
use Rattle.std.specs.BTreeMap.{IsFromIterResult}
use Rattle.std.specs.Ordering.{nat_cmp}
use Rattle.std.proofs.lemmas.Iterator.{YieldsList-from_zip}
use Rattle.std.proofs.lemmas.Iterator.Consumers.{YieldsList-at}
use Rattle.std.proofs.lemmas.Iterator.Adapters.{fact_from_collect, YieldsList-from_vec}
use Rattle.rs_examples.proofs.reconstruct_round_trip.by_index.Goals as goal

pub returns : goal.returns
returns c =
    fact_from_collect (IsFromIterResult nat_cmp) c.collect.result c.collect.ensures.ran
    (YieldsList-from_zip
    (YieldsList-at c.zip.ensures.first (YieldsList-from_vec c.args.indexes.items c.into_iter.ensures.rest
    (c.into_iter.ensures.len ∙ c.args.indexes.ok.0)))
    (YieldsList-from_vec {s = c.zip.result.b} c.args.shards.items c.zip.ensures.second.0
    (c.zip.ensures.second.1 ∙ c.args.shards.ok.0)))
