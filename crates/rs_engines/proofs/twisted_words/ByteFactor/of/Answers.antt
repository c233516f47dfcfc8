use Rattle.std.proofs.Common.{rules}
use Rattle.rs_engines.proofs.TwistedWords.{byte_products}
use Rattle.rs_engines.proofs.twisted_words.ByteFactor.of.Goals as goal

pub invariant_of-result-clause-products : goal.invariant_of-result-clause-products
invariant_of-result-clause-products c =
    byte_products _ c.args.products.now c.requires (search rules) (search rules)
