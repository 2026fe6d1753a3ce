use Rattle.std.proofs.Common.{not, ◌∙◌, rules}
use Rattle.std.proofs.lemmas.Iterator.{YieldsList-from_slice}
use Rattle.std.proofs.lemmas.Iterator.Search.{all_from_yields_List}
use Rattle.account.proofs.Listings.{list_all_is}
use Rattle.book.specs.declared.account.Account.{Account}
use Rattle.book.specs.Orders.{any_open}
use Rattle.house.proofs.closing.none_open.Goals as goal

pub returns : goal.returns
returns c =
    let accounts = c.args.accounts.now in
    let none = λ (x : Account). not (any_open x.orders) in
    all_from_yields_List none _ _ _ c.all.ensures.ran (YieldsList-from_slice accounts cc) (λ x b q k. search rules) ∙ list_all_is none accounts
