use Rattle.rs_rate.proofs.passes_lemmas.ChangeLemmas.{distinct_rows_of}
use Rattle.reed_solomon_simd.proofs.strip_decoder.make_missing.Goals as goal

pub are_syndromes_cheapest-requires : goal.are_syndromes_cheapest-requires
are_syndromes_cheapest-requires g c =
    (distinct_rows_of c.counts-counts.result.framed c.counts-counts.result.supported).few

pub are_sums_cheaper-requires : goal.are_sums_cheaper-requires
are_sums_cheaper-requires g c = (distinct_rows_of c.counts-counts.result.framed c.counts-counts.result.supported).few
