use Rattle.std.proofs.Common.{◌+◌, vec_items, vec_len, rules}
use Rattle.account.proofs.Listings.{pushed}
use Rattle.book.specs.declared.account.Order.{Order}
use Rattle.book.specs.declared.account.Stage.TheVariants.{Held}
use Rattle.house.specs.Places.{Within}
use Rattle.house.proofs.Keeps.{placed_each}
use Rattle.house.proofs.house.House.hold.Goals as goal

pub invariant_of-self-clause-within : goal.invariant_of-self-clause-within
invariant_of-self-clause-within g c =
    let h = c.args.self.now in
    pushed (λ p. Within (vec_len h.accounts) p) (vec_items h.placed) (vec_items c.push_reserved.new.self) c.args.place (vec_len h.placed) (vec_len c.push_reserved.new.self) c.push_reserved.ensures.items h.placed.ok.0 c.push_reserved.ensures.len h.within c.requires.there

pub invariant_of-self-clause-sound : goal.invariant_of-self-clause-sound
invariant_of-self-clause-sound g c =
    let h = c.args.self.now in
    let order : Order = record { number = c.len.result + 1; stage = Held; trade = c.args.trade } in
    placed_each (vec_items h.market.series) (vec_len h.placed) _ (vec_len h.accounts) c.args.place.account c.args.place.product (vec_items h.accounts) _ _ _ order
    h.accounts.ok.0 c.push_reserved.ensures.len h.sound c.account_at-before.ensures.value c.account_at-before.ensures.sound (search rules)
    c.requires.none c.requires.sound c.with_order.ensures
