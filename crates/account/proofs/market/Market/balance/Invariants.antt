use Rattle.std.proofs.Common.{◌+◌, ◌*◌, ◌^◌, ◌≤◌, nat_abs}
use Rattle.book.specs.Market.{series_at}
use Rattle.account.specs.Balances.{IsBalance}
use Rattle.account.proofs.market.Market.balance.Given as goal

abbrev pub invariant-loop-i : goal.invariant-loop-i
invariant-loop-i g l = record {
  value : IsBalance (λ i. goal.F-post g l.valued i (series_at l.self.series.items i)) l.i l.account l.balance;
  size : nat_abs l.balance ≤ 2 ^ 63 + l.i * 2 ^ 97;
}
