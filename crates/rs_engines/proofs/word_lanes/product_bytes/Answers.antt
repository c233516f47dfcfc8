use Rattle.std.proofs.Common.{◌≡◌, ℕ, ◌+◌, ◌*◌, ◌/◌, ◌%◌, ◌^◌, ◌<◌, get_or, ◌∙◌, arith}
use Rattle.rs_field.specs.words.Field.{product}
use Rattle.rs_field.specs.words.Products.{byte_at}
use Rattle.rs_field.proofs.words_lemmas.Linear.{IsAdditive}
use Rattle.rs_engines.specs.Additive.{HasAdditiveBytes}
use Rattle.rs_engines.proofs.ByBits.{nibble_bytes}
use Rattle.rs_engines.proofs.FourNibbles.{sum_of_nibbles, low_additive, high_additive}
use Rattle.rs_engines.proofs.word_lanes.product_bytes.Given.{Over}
use Rattle.rs_engines.proofs.word_lanes.product_bytes.Goals.{After-sum}
use Rattle.rs_engines.proofs.word_lanes.product_bytes.Goals as goal

-- A byte of the result is the byte of the product, if the tables hold the bytes of the nibbles' products.
of_nibbles : (g : Over) (c : After-sum g) (f : ℕ → ℕ) → IsAdditive 16 f
    → ((n p : ℕ) → n < 4 → p < 16 → byte_at (get_or c.args.numbers.now n 0) p ≡ f (p * 16 ^ n))
    → (i : ℕ) → i < g.V.ByteVector.LANES
    → get_or (g.V.ByteVector.bytes c.sum.result) i 0
    ≡ f (get_or (g.V.ByteVector.bytes c.args.low) i 0 + 256 * get_or (g.V.ByteVector.bytes c.args.high) i 0)
of_nibbles g c f additive are i h =
    let l = get_or (g.V.ByteVector.bytes c.args.low) i 0 in
    let u = get_or (g.V.ByteVector.bytes c.args.high) i 0 in
    let sums : (n : ℕ) → n < 4 → HasAdditiveBytes (get_or c.args.numbers.now n 0) =
    λ n hn. nibble_bytes f additive (get_or c.args.numbers.now n 0) n hn (λ p. are n p hn) in
    sum_of_nibbles f additive l u (c.at_high_nibbles.ensures.small i h)
    (c.at_high_nibbles-2.ensures.small i h) _ _ _ _ _ _ _
    (c.sum.ensures.lanes i h) (c.sum-first.ensures.lanes i h) (c.sum-second.ensures.lanes i h)
    (c.at_low_nibbles.ensures (sums 0 (omega arith)) i h ∙ are 0 (l % 16) (omega arith) (omega arith))
    (c.at_high_nibbles.ensures.lanes (sums 1 (omega arith)) i h ∙ are 1 (l / 16) (omega arith) (omega arith))
    (c.at_low_nibbles-2.ensures (sums 2 (omega arith)) i h ∙ are 2 (u % 16) (omega arith) (omega arith))
    (c.at_high_nibbles-2.ensures.lanes (sums 3 (omega arith)) i h ∙ are 3 (u / 16) (omega arith) (omega arith))

pub returns-clause-low : goal.returns-clause-low
returns-clause-low g c f i are h =
    of_nibbles g (goal.at.returns-clause-low g c).After-sum (λ x. product x f % 256) (low_additive f) are.low i h

pub returns-clause-high : goal.returns-clause-high
returns-clause-high g c f i are h =
    of_nibbles g (goal.at.returns-clause-high g c).After-sum (λ x. product x f / 256) (high_additive f) are.high i h

pub returns-clause-small : goal.returns-clause-small
returns-clause-small g c i h = c.at_high_nibbles.ensures.small i h
