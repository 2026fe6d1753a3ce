use Rattle.std.proofs.Common.{vec_items, vec_len, arith}
use Rattle.house.proofs.Listed.{sound_entered}
use Rattle.house.proofs.house.House.account.Goals as goal

pub invariant_of-self-clause-sound : goal.invariant_of-self-clause-sound
invariant_of-self-clause-sound g c =
    let h = c.args.self.now in
    sound_entered (vec_items h.market.series) (vec_len h.placed) (vec_len h.accounts) _ (vec_items h.accounts) _ c.new_account.result
    c.push_reserved.ensures.items h.accounts.ok.0 c.push_reserved.ensures.len c.new_account.ensures h.sound

pub invariant_of-self-clause-within : goal.invariant_of-self-clause-within
invariant_of-self-clause-within g c k d lt =
    let w = c.args.self.now.within k d lt in
    record { account = omega (arith, w.account, c.push_reserved.ensures.len); product = w.product }
