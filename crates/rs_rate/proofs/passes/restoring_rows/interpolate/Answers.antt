use Rattle.std.proofs.Common.{◌-◌, ap, refl, sym, ◌∙◌, arith}
use Rattle.rs_field.specs.rows.View.{word}
use Rattle.rs_rate.specs.values.Configured.{rows_to_decode}
use Rattle.rs_rate.proofs.passes_lemmas.RestoringRows.{from_row_zero, checked_rows}
use Rattle.rs_rate.proofs.passes.restoring_rows.interpolate.Goals as goal

pub ifft_given-requires-clause-power : goal.ifft_given-requires-clause-power
ifft_given-requires-clause-power g c =
    (c.args.tally.configuration.frame.exponent, c.given-given.ensures.length ∙ c.requires.facts.marked)

pub returns-clause-coefficients : goal.returns-clause-coefficients
returns-clause-coefficients g c =
    let own = c.args.tally.configuration in
    let old = c.args.rows.now in
    let passed = c.ifft_given.new.data in
    let located_extent = c.locate_rows.ensures.extent in
    let shape = c.ifft_given.ensures.extent in
    let rows = rows_to_decode own in
    let marked = c.given-given.ensures.length ∙ c.requires.facts.marked in
    rw (← c.given-given.ensures.marks) (record {
      are_words = λ k t i hk ht hi.
          c.row_symbols_are_words.ensures k t i
          (omega (arith, hk, shape.len_64, located_extent.len_64, c.requires.rows.len)) ht
          (omega (arith, hi, shape.count, located_extent.count, c.requires.rows.count));
      of_located = λ k t hk ht i hi.
          sym (c.locate_rows.ensures.located k t i (omega (arith, hk, c.requires.rows.len)) ht
          (omega (arith, hi, c.requires.rows.count)))
          ∙ from_row_zero _ rows i (word c.locate_rows.new.rows k t) (word passed k t) marked
          (c.ifft_given.ensures.values k t i (omega (arith, hk, located_extent.len_64, c.requires.rows.len)) ht
          (omega (arith, hi, marked)));
      checked = checked_rows rows c.args.tally.surplus own.shard_bytes passed.shard_count
          (c.row_count.result - c.args.tally.surplus) (word passed) c.are_zero_rows.result c.are_zero_rows.result
          c.requires.facts.few_surplus (ap (λ n. n - c.args.tally.surplus) c.row_count.ensures)
          (shape.count ∙ located_extent.count ∙ c.requires.rows.count) refl c.are_zero_rows.ensures.zero;
    })
