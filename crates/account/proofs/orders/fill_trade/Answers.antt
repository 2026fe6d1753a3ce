use Rattle.std.proofs.Common.{◌≡◌, ℕ, List, length, get_or, Option, sym, ap, subst, arith, rules, w32, to_z, of_z}
use Rattle.std.proofs.lemmas.Int.{ints}
use Rattle.std.specs.Option.{unwrap_or}
use Rattle.book.specs.declared.account.Position.{Position}
use Rattle.book.specs.declared.account.Trade.{Trade}
use Rattle.book.specs.Market.{flat}
use Rattle.book.specs.Orders.{filled}
use Rattle.account.specs.Bounds.{SmallNets, SecondFits, Fillable}
use Rattle.account.proofs.Fills.{leg_length, leg_other, filled_nets}
use Rattle.account.proofs.orders.fill_trade.Goals as goal

nets_after : (ps qs : List Position) (t : Trade) (price second_price : ℕ) → qs ≡ filled t price second_price ps → Fillable (length ps) ps t → SmallNets qs
nets_after ps qs t price second_price is f =
    subst SmallNets (sym is) (filled_nets (length ps) t price second_price ps (omega arith) f.fits f.nets)

pub fill_leg-requires-in-Some : goal.fill_leg-requires-in-Some
fill_leg-requires-in-Some c =
    let ps = c.args.positions.now in
    let t = c.args.trade in
    let j = c.in-Some.second in
    let f : SecondFits (length ps) ps t (Option.Some j) = subst (SecondFits (length ps) ps t) c.in-Some.is c.requires.fits.second in
    let lots = to_z w32 (of_z w32 t.lots) in
    let same : get_or c.fill_leg.new.positions j flat ≡ get_or ps j flat =
    rw c.fill_leg.ensures (leg_other t.series j lots c.args.price ps f.1.0) in
    record {
      there = omega (arith, f.0, ap length c.fill_leg.ensures, leg_length t.series lots c.args.price ps);
      lots = omega (arith, ints, c.requires.fits.lots);
      nets = rw same (c.requires.nets j);
      carries = rw same (omega (arith, c.requires.carries j));
    }

pub returns-in-Some-clause-nets : goal.returns-in-Some-clause-nets
returns-in-Some-clause-nets c =
    nets_after c.args.positions.now c.fill_leg-in-Some.new.positions c.args.trade c.args.price (unwrap_or c.args.second_price 0) (search rules) c.requires

pub returns-in_default-clause-nets : goal.returns-in_default-clause-nets
returns-in_default-clause-nets c =
    nets_after c.args.positions.now c.fill_leg.new.positions c.args.trade c.args.price (unwrap_or c.args.second_price 0) (search rules) c.requires
