use Rattle.std.proofs.Common.{◌≡◌, ◌+◌, ◌%◌, bit_xor, ℕ, ◌/◌, drop, ap, ◌∙◌, arith}
use Rattle.rs_field.specs.words.Field.{combine}
use Rattle.rs_field.proofs.words_lemmas.Tables.{take_entry, leave_entry, all_entries, generator_products}
use Rattle.rs_field.proofs.words_lemmas.Tables.{generator_columns}
use Rattle.rs_field.proofs.words.powers.times_generator.Goals as goal
use Rattle.rs_field.proofs.words.powers.times_generator.Goals.{then-rest-eq1, else-rest-eq1}

pub loop-entry-preserved : goal.loop-entry-preserved
unfolding generator_products
loop-entry-preserved c =
    let later : ℕ = combine (drop (c.loop-entry.entry-index + 1) generator_products) (c.loop-entry.rest / 2) in
    elim c.if-rest-eq1.branch [
      | then-rest-eq1 w ↦
          ap (λ o. bit_xor o later) w.out-is
          ∙ take_entry generator_products c.loop-entry.entry-index c.loop-entry.out c.loop-entry.rest
          c.loop-entry-test.true w.if-rest-eq1.true
          ∙ c.loop-entry.invariant
      | else-rest-eq1 w ↦
          let even : c.loop-entry.rest % 2 ≡ 0 = omega (arith, w.if-rest-eq1.false) in
          ap (λ o. bit_xor o later) w.out-is
          ∙ leave_entry generator_products c.loop-entry.entry-index c.loop-entry.out c.loop-entry.rest
          c.loop-entry-test.true even
          ∙ c.loop-entry.invariant
    ]

pub returns : goal.returns
unfolding generator_products
returns c =
    all_entries generator_products c.loop-entry.entry-index c.loop-entry.out c.loop-entry.rest
    (combine generator_products c.args.z) c.loop-entry-test.false c.loop-entry.invariant
    ∙ generator_columns c.args.z (omega arith)
