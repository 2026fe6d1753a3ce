use Rattle.std.proofs.Common.{◌≡◌, length, take}
use Rattle.book.specs.Closing.{settle_positions}
use Rattle.account.proofs.market.Market.settled_positions.Given as goal

abbrev pub invariant-loop-i : goal.invariant-loop-i
invariant-loop-i g l = record {
  settled : l.positions ≡ settle_positions (take l.i l.self.series.items) l.fn.positions;
  room : length l.positions ≡ 24;
}
