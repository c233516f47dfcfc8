use Rattle.std.proofs.Common.{◌≡◌, ℕ, length, ◌∙◌, subst, arith}
use Rattle.std.specs.Prelude.{slice_index}
use Rattle.rs_field.specs.words.Locator.{IsLocatorBelow}
use Rattle.rs_field.specs.code.Frame.{row_count}
use Rattle.rs_rate.specs.rows.Marks.{erasure}
use Rattle.rs_rate.proofs.passes_lemmas.RestoredRows.{locator_same}
use Rattle.rs_rate.proofs.passes.locators.make_locator.Goals as goal

pub locate-requires-clause-power : goal.locate-requires-clause-power
locate-requires-clause-power g c =
    (c.args.frame.exponent, c.mark_erased.ensures.length ∙ c.requires.entries)

pub returns-clause-locator : goal.returns-clause-locator
returns-clause-locator g c =
    let frame = c.args.frame in
    let size : length c.mark_erased.new.entries ≡ row_count c.args.frame =
    c.mark_erased.ensures.length ∙ c.requires.entries in
    record {
      entries = c.locate.auto.erasures ∙ size;
      are_words = c.are_words.ensures;
      values = locator_same (row_count c.args.frame) (erasure frame c.args.given.now)
          (λ y. slice_index c.mark_erased.new.entries y) (λ x. slice_index c.locate.new.erasures x)
          (λ y inside. c.mark_erased.ensures.rows y (omega (arith, inside, c.requires.entries)))
          (subst (λ (n : ℕ). IsLocatorBelow n (λ y. slice_index c.mark_erased.new.entries y)
          (λ x. slice_index c.locate.new.erasures x)) size c.locate.ensures.values);
    }
