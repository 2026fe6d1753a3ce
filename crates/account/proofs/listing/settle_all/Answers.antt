use Rattle.account.proofs.Listings.{settle_none, settle_more}
use Rattle.account.proofs.listing.settle_all.Goals as goal

pub loop-i-init : goal.loop-i-init
loop-i-init c = settle_none c.args.series.now

pub loop-i-preserved : goal.loop-i-preserved
loop-i-preserved c =
    settle_more c.args.prices.now c.args.series.now c.loop-i.series c.loop-i.i c.settled_at.result c.loop-i-test.true c.requires.many c.loop-i.invariant (cc (c.of.ensures, c.settled_at.ensures))
