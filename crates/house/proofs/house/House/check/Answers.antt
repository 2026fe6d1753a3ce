use Rattle.house.specs.View.{trading}
use Rattle.house.proofs.Checks.{checked_fits, checked_sound}
use Rattle.house.proofs.house.House.check.Goals as goal

pub allowed_under_call-requires-clause-fits : goal.allowed_under_call-requires-clause-fits
allowed_under_call-requires-clause-fits g c =
    checked_fits (trading g.R.MarginRule.meaning c.args.self.now) c.args.account c.args.series _ c.args.second c.account_at-before.result c.trade_of-trade.result
    c.trade_of-trade.ensures c.if-not-knows.ensures c.if-not-lots_in_range.ensures c.if-not-second_fits.ensures c.if-not-nets_fit.ensures _ c.args.self.now.market.series.ok.0

pub affordable-requires-clause-fits : goal.affordable-requires-clause-fits
affordable-requires-clause-fits g c =
    checked_fits (trading g.R.MarginRule.meaning c.args.self.now) c.args.account c.args.series _ c.args.second c.account_at-before.result c.trade_of-trade.result
    c.trade_of-trade.ensures c.if-not-knows.ensures c.if-not-lots_in_range.ensures c.if-not-second_fits.ensures c.if-not-nets_fit.ensures _ c.args.self.now.market.series.ok.0

pub hold-requires-clause-sound : goal.hold-requires-clause-sound
hold-requires-clause-sound g c =
    checked_sound (trading g.R.MarginRule.meaning c.args.self.now) c.args.account c.args.series _ c.args.second c.account_at-before.result c.trade_of-trade.result
    c.trade_of-trade.ensures c.if-not-knows.ensures c.if-not-lots_in_range.ensures c.if-not-second_fits.ensures c.if-not-nets_fit.ensures _
    c.product_of.ensures.value c.account_at-before.ensures.value
