use Rattle.std.proofs.Common.{vec_items}
use Rattle.book.specs.Market.{holdings}
use Rattle.account.proofs.Levels.{Added}
use Rattle.account.proofs.market.Market.requirements.Given as goal

abbrev pub invariant-loop-q : goal.invariant-loop-q
invariant-loop-q g l =
    Added (g.R.MarginRule.meaning l.self.rule) (vec_items l.self.products) (holdings (vec_items l.self.series) l.positions) l.q l.all
