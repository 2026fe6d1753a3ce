use Rattle.std.proofs.Common.{◌∙◌, rules}
use Rattle.std.proofs.lemmas.Iterator.{YieldsList-from_slice}
use Rattle.std.proofs.lemmas.Iterator.Search.{all_from_yields_List}
use Rattle.book.specs.Prices.{price_in_range}
use Rattle.account.proofs.Listings.{list_all_is}
use Rattle.account.proofs.listing.all_priced.Goals as goal

pub returns : goal.returns
returns c =
    all_from_yields_List price_in_range _ _ _ c.all.ensures.ran (YieldsList-from_slice c.args.prices.now cc) (λ x b q k. search rules)
    ∙ list_all_is price_in_range c.args.prices.now
