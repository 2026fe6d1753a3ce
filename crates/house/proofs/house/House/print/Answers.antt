use Rattle.std.proofs.Common.{vec_items, vec_len}
use Rattle.account.specs.View.{the_market}
use Rattle.book.specs.Market.{series_at}
use Rattle.book.specs.Prices.{printed}
use Rattle.house.proofs.Listed.{sound_printed}
use Rattle.house.proofs.house.House.print.Goals as goal

pub invariant_of-self-clause-sound : goal.invariant_of-self-clause-sound
invariant_of-self-clause-sound g c =
    let h = c.args.self.now in
    let view = the_market g.R.MarginRule.meaning in
    let i = c.args.series in
    sound_printed (view h.market) (view c.print.new.self) i (printed c.args.price (series_at (vec_items h.market.series) i).quote)
    (vec_len h.placed) (vec_len h.accounts) (vec_items h.accounts) c.print.ensures h.sound
