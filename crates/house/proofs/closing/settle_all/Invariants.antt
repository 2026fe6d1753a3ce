use Rattle.std.proofs.Common.{◌≡◌, ◌++◌, map, take, drop}
use Rattle.account.specs.View.{the_market}
use Rattle.book.specs.Closing.{settle_account}
use Rattle.house.proofs.closing.settle_all.Given as goal

abbrev pub invariant-loop-i : goal.invariant-loop-i
invariant-loop-i g l =
    let f = settle_account (the_market g.R.MarginRule.meaning l.market) in
    l.accounts ≡ map f (take l.i l.initial.accounts) ++ drop l.i l.initial.accounts
