use Rattle.std.proofs.Common.{vec_len}
use Rattle.account.specs.View.{the_market}
use Rattle.house.proofs.Listed.{sound_opened}
use Rattle.house.proofs.house.House.opening.Goals as goal

pub invariant_of-self-clause-sound : goal.invariant_of-self-clause-sound
invariant_of-self-clause-sound g c =
    let h = c.args.self.now in
    sound_opened (the_market g.R.MarginRule.meaning h.market) (the_market g.R.MarginRule.meaning c.open.new.self) (vec_len h.placed) h.accounts _ c.open_accounts.new.accounts
    c.deref_mut.ensures.value c.open.ensures c.open_accounts.ensures h.sound
