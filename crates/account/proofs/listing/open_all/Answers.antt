use Rattle.account.proofs.Listings.{open_more}
use Rattle.account.proofs.listing.open_all.Goals as goal

pub loop-held-preserved : goal.loop-held-preserved
loop-held-preserved c =
    open_more c.args.series.now c.loop-held.series c.loop-held.held-index c.loop-held-test.true c.loop-held.auto.series c.loop-held.invariant
