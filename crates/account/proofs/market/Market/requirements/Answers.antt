use Rattle.std.proofs.Common.{◌≡◌, ◌+◌, ◌^◌, ◌<◌, length, vec_items, sym, subst, arith}
use Rattle.rules.specs.Laws.{Three, charged}
use Rattle.book.specs.Market.{holdings}
use Rattle.book.specs.Requirements.{product_levels}
use Rattle.account.specs.Bounds.{Under, margins_at}
use Rattle.account.proofs.Levels.{Added, added_more, charged_under}
use Rattle.account.proofs.market.Market.requirements.Goals as goal

pub loop-q-preserved : goal.loop-q-preserved
unfolding product_levels
loop-q-preserved g c =
    let m = c.args.self.now in
    let f = g.R.MarginRule.meaning m.rule in
    let ms = vec_items m.products in
    let hs = holdings (vec_items m.series) c.args.positions.now in
    let q = c.loop-q.q in
    let lots = c.index-sides-q.result in
    let items = c.deref-margins-items.ensures.value in
    let within : q < length ms = omega (arith, c.deref-margins-items.ensures.len, m.products.ok.0, c.loop-q-test.true) in
    let small : q < 8 = omega (arith, m.few_products, m.products.ok.0, within) in
    let long = c.sides_of-sides.ensures.long q lots small in
    let short = c.sides_of-sides.ensures.short q lots small in
    let here = c.index-sides-q.is in
    let levels = c.charged.ensures in
    let asked : c.charged.result ≡ charged f (margins_at ms q) lots.long lots.short = cc in
    let is : c.charged.result ≡ product_levels f (margins_at ms q) q hs = cc in
    let fits = m.fits q (record { outright = 0; spread = 0 }) (omega (arith, m.products.ok.0, within)) in
    let under : Under (2 ^ 46) (charged f (margins_at ms q) lots.long lots.short) =
    charged_under f (g.met.R.MarginRule.ordered m.rule) (margins_at ms q) lots.long lots.short fits lots.most_long lots.most_short in
    let more = added_more f ms hs q c.loop-q.all c.charged.result within is (subst (Under (2 ^ 46)) (sym asked) under) c.loop-q.invariant in
    subst (λ (x : Three). Added f ms hs (q + 1) x) (sym c.plus-all.ensures) more
