use Rattle.std.proofs.Common.{is_some, ◌∙◌, rules}
use Rattle.std.proofs.lemmas.Iterator.{YieldsList-from_slice}
use Rattle.std.proofs.lemmas.Iterator.Search.{any_from_yields_List}
use Rattle.house.proofs.Tests.{list_any_open}
use Rattle.house.proofs.closing.has_open.Goals as goal

pub returns : goal.returns
returns c =
    let orders = c.args.account.now.orders in
    any_from_yields_List is_some _ _ _ c.any.ensures.ran (YieldsList-from_slice orders cc) (λ x b q k. search rules) ∙ list_any_open orders
