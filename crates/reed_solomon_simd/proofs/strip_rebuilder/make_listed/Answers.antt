use Rattle.rs_rate.proofs.passes_lemmas.ChangeLemmas.{distinct_rows_of}
use Rattle.reed_solomon_simd.proofs.strip_rebuilder.make_listed.Goals as goal

pub are_sums_cheaper-requires : goal.are_sums_cheaper-requires
are_sums_cheaper-requires g c = (distinct_rows_of c.counts-counts.result.framed c.counts-counts.result.supported).few
