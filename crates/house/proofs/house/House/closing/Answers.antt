use Rattle.std.proofs.Common.{vec_items, vec_len, ◌∙◌}
use Rattle.account.specs.View.{the_market}
use Rattle.house.specs.Sound.{sound}
use Rattle.house.proofs.Closes.{tested, settleable, settled_each}
use Rattle.house.proofs.Keeps.{each_written}
use Rattle.house.proofs.house.House.closing.Goals as goal

pub settle_all-requires : goal.settle_all-requires
settle_all-requires g c =
    let h = c.args.self.now in
    let t = tested (the_market g.R.MarginRule.meaning h.market) _ (vec_len h.placed) (vec_len h.accounts) c.args.prices.now _ _ _ (vec_items h.accounts)
    h.accounts.ok.0 c.deref_mut.ensures.value c.deref.ensures.value c.deref-2.ensures.value h.sound c.if-not-none_open.ensures (cc) c.if-not-all_priced.ensures c.if-not-all_fit.ensures c.settle.ensures in
    settleable _ _ _ _ _ t

pub invariant_of-self-3-clause-sound : goal.invariant_of-self-3-clause-sound
invariant_of-self-3-clause-sound g c =
    let h = c.args.self.now in
    let t = tested (the_market g.R.MarginRule.meaning h.market) _ (vec_len h.placed) (vec_len h.accounts) c.args.prices.now _ _ _ (vec_items h.accounts)
    h.accounts.ok.0 c.deref_mut.ensures.value c.deref.ensures.value c.deref-2.ensures.value h.sound c.if-not-none_open.ensures (cc) c.if-not-all_priced.ensures c.if-not-all_fit.ensures c.settle.ensures in
    each_written (sound (vec_items c.settle.new.self.series) (vec_len c.clear.new.self)) h.accounts c.settle_all.new.accounts _
    (c.settle_all.auto.accounts ∙ c.deref_mut.ensures.len) c.settle_all.ensures (settled_each _ _ _ _ _ t (vec_len c.clear.new.self))
