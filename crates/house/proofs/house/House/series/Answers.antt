use Rattle.std.proofs.Common.{vec_items, vec_len}
use Rattle.account.specs.View.{the_market}
use Rattle.house.proofs.Listed.{sound_longer}
use Rattle.house.proofs.house.House.series.Goals as goal

pub invariant_of-self-clause-sound : goal.invariant_of-self-clause-sound
invariant_of-self-clause-sound g c =
    let h = c.args.self.now in
    let view = the_market g.R.MarginRule.meaning in
    sound_longer (view h.market) (view c.push_series.new.self) c.new_series.result
    (vec_len h.placed) (vec_len h.accounts) (vec_items h.accounts) c.push_series.ensures h.sound
