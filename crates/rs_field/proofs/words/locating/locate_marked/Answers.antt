use Rattle.std.proofs.Common.{◌≡◌, ◌∙◌, ℕ, ◌*◌, ◌/◌, ◌^◌, length, get_or, sym, subst, arith}
use Rattle.rs_field.specs.words.StepBounds.{CountsProducts, WalshCounts}
use Rattle.rs_field.specs.words.Locator.{IsLocatorBelow}
use Rattle.rs_field.specs.words.Walsh.{IsWalsh, log_or_zero}
use Rattle.rs_field.proofs.words_lemmas.Halving.{walsh-at}
use Rattle.rs_field.proofs.words_lemmas.Convolution.{few_bits, locator-made, locator-counts}
use Rattle.rs_field.proofs.words.locating.locate_marked.Goals as goal

pub returns-clause-values : goal.returns-clause-values
returns-clause-values c =
    let d : ℕ = c.requires.power.0 in
    let size : length c.args.erasures.now ≡ 2 ^ d = c.requires.power.1 in
    let second : length c.products.new.entries ≡ 2 ^ d = c.products.auto.entries ∙ c.fwht.auto.entries ∙ size in
    subst (λ (n : ℕ). IsLocatorBelow n (λ y. get_or c.args.erasures.now y 0) (λ x. get_or c.fwht-2.new.entries x 0))
    (sym size)
    (locator-made d (λ y. get_or c.args.erasures.now y 0) (λ w. get_or c.fwht.new.entries w 0)
    (λ w. get_or c.products.new.entries w 0)
    (λ x. get_or c.fwht-2.new.entries x 0) (λ w. get_or c.args.log_walsh.now w 0)
    (few_bits d (omega (arith, size, c.requires.few)))
    (walsh-at _ _ size c.fwht.ensures.values)
    (subst (λ (n : ℕ). IsWalsh n (λ z. 65536 / n * log_or_zero z) (λ w. get_or c.args.log_walsh.now w 0)) size
    c.requires.table.below_entry)
    (λ w hw. c.products.ensures.products w (omega arith))
    (walsh-at _ _ second c.fwht-2.ensures.values))

pub returns-clause-counts : goal.returns-clause-counts
returns-clause-counts c =
    let first : length c.fwht.new.entries ≡ length c.args.erasures.now = c.fwht.auto.entries in
    locator-counts (length c.args.erasures.now) c.args.steps.now c.fwht.new.steps c.products.new.steps
    c.fwht-2.new.steps c.fwht.ensures.counts
    (subst (λ (n : ℕ). CountsProducts n c.fwht.new.steps c.products.new.steps) first c.products.ensures.counts)
    (subst (λ (n : ℕ). WalshCounts n c.products.new.steps c.fwht-2.new.steps)
    (c.products.auto.entries ∙ first) c.fwht-2.ensures.counts)
