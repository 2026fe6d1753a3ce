use Rattle.std.proofs.Common.{◌≡◌, ◌+◌, ◌*◌, ◌^◌, ◌≤◌, drop}
use Rattle.book.specs.Orders.{needs}
use Rattle.account.specs.View.{the_market}
use Rattle.account.proofs.market.Market.needs.Given as goal

abbrev pub invariant-loop-order : goal.invariant-loop-order
invariant-loop-order g l =
    let m = the_market g.R.MarginRule.meaning l.self in
    record {
      value : l.sum + needs m l.account (drop l.order-index l.account.orders) ≡ needs m l.account l.account.orders;
      size : l.sum ≤ l.order-index * 2 ^ 49;
    }
