use Rattle.std.proofs.Common.{vec_items, ◌∙◌, rules}
use Rattle.std.proofs.lemmas.Iterator.{YieldsList-from_slice}
use Rattle.std.proofs.lemmas.Iterator.Search.{all_from_yields_List}
use Rattle.account.proofs.Listings.{list_all_is}
use Rattle.account.specs.View.{the_market, with_series}
use Rattle.book.specs.declared.account.Account.{Account}
use Rattle.book.specs.Equity.{equity}
use Rattle.book.specs.House.{cash_fits}
use Rattle.book.specs.Prices.{settle_prices}
use Rattle.house.proofs.closing.all_fit.Goals as goal

pub returns : goal.returns
returns g c =
    let accounts = c.args.accounts.now in
    let m = with_series (settle_prices c.args.prices.now (vec_items c.args.market.now.series)) (the_market g.R.MarginRule.meaning c.args.market.now) in
    let fits = λ (x : Account). cash_fits (equity m x) in
    all_from_yields_List fits _ _ _ c.all.ensures.ran (YieldsList-from_slice accounts cc) (λ x b q k. search rules) ∙ list_all_is fits accounts
