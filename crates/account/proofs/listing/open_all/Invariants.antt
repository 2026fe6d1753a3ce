use Rattle.std.proofs.Common.{◌≡◌, ◌++◌, take, drop}
use Rattle.book.specs.Prices.{open_prices}
use Rattle.account.proofs.listing.open_all.Given as goal

abbrev pub invariant-loop-held : goal.invariant-loop-held
invariant-loop-held l = l.series ≡ open_prices (take l.held-index l.initial.series) ++ drop l.held-index l.initial.series
