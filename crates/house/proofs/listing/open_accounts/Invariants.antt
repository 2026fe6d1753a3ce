use Rattle.std.proofs.Common.{◌≡◌, ◌++◌, map, take, drop}
use Rattle.book.specs.ClosedCalls.{opened_account}
use Rattle.house.proofs.listing.open_accounts.Given as goal

abbrev pub invariant-loop-account : goal.invariant-loop-account
invariant-loop-account l =
    l.accounts ≡ map opened_account (take l.account-index l.initial.accounts) ++ drop l.account-index l.initial.accounts
