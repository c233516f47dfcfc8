use Rattle.rs_engines.proofs.TwistedWords.{product_of_byte, low_products_additive, high_products_additive}
use Rattle.rs_engines.proofs.twisted_words.ByteFactor.times.Goals as goal

pub returns-clause-products : goal.returns-clause-products
returns-clause-products g c i h =
    let are = c.args.self.products in
    product_of_byte _ _ _ _ _ _ _ are (c.at_high_nibbles.ensures.small i h) (c.sum.ensures.lanes i h)
    (c.at_low_nibbles.ensures (low_products_additive _ _ _ are) i h)
    (c.at_high_nibbles.ensures.lanes (high_products_additive _ _ _ are) i h)
