use Rattle.std.proofs.Common.{◌≡◌, take}
use Rattle.book.specs.Prices.{settle_prices}
use Rattle.account.proofs.listing.settle_all.Given as goal

abbrev pub invariant-loop-i : goal.invariant-loop-i
invariant-loop-i l = l.series ≡ settle_prices (take l.i l.prices) l.initial.series
