use Rattle.std.proofs.Common.{◌≡◌, length}
use Rattle.book.specs.Market.{holdings}
use Rattle.book.specs.Requirements.{long_in, short_in}
use Rattle.account.proofs.Sides.{Side}
use Rattle.account.proofs.market.Market.sides_of.Given as goal

abbrev pub invariant-loop-i : goal.invariant-loop-i
invariant-loop-i g l =
    let hs = holdings l.self.series.items l.positions in
    record {
      eight : length l.sides ≡ 8;
      long : Side (λ s. s.long) l.sides long_in hs l.i;
      short : Side (λ s. s.short) l.sides short_in hs l.i;
    }
