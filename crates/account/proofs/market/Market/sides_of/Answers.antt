use Rattle.std.proofs.Common.{◌≡◌, ◌<◌, ◌≤◌, length, get_or, ap, ◌∙◌, vec_items, arith, w32, to_z, of_z}
use Rattle.std.proofs.lemmas.Int.{ints}
use Rattle.std.proofs.lemmas.List.{length-set, take_all}
use Rattle.book.specs.Market.{holdings, series_at, flat, no_series}
use Rattle.book.specs.Requirements.{long, short, long_in, short_in, long_side, short_side}
use Rattle.account.proofs.Sums.{length_holdings, holding_at}
use Rattle.account.proofs.Sides.{side_more, long_small, short_small}
use Rattle.account.proofs.market.Market.sides_of.Goals as goal

pub loop-i-preserved : goal.loop-i-preserved
loop-i-preserved g c =
    let m = c.args.self.now in
    let items = c.deref-held-items.ensures in
    let ss = c.deref-held-items.result.now in
    let ps = c.args.positions.now in
    let hs = holdings ss ps in
    let i = c.loop-i.i in
    let net = (get_or ps i flat).net in
    let p = (series_at ss i).product in
    let room : length ss ≤ length ps = omega (arith, items.len, m.few_series, c.requires.room) in
    let within : i < length hs = omega (arith, length_holdings ss ps room, c.loop-i-test.true) in
    let here = holding_at ss ps i c.loop-i-test.true room in
    let size = c.requires.small i in
    let known : p < 8 = rw items.value (omega (arith, m.known i no_series (omega (arith, items.len, c.loop-i-test.true)), m.few_products)) in
    let back : to_z w32 (of_z w32 net) ≡ net = omega (arith, ints, size) in
    let before = rw (← items.value) at c.loop-i.invariant in
    rw (← items.value) (record {
      eight = length-set c.loop-i.sides p _ ∙ before.eight;
      long = side_more (λ s. s.long) c.loop-i.sides long_in hs i p (long net) _ _ before.eight known (omega (arith, long_small net, size)) within (λ q. ap (long_in q) here) (rw back at c.add.ensures.long) before.long;
      short = side_more (λ s. s.short) c.loop-i.sides short_in hs i p (short net) _ _ before.eight known (omega (arith, short_small net, size)) within (λ q. ap (short_in q) here) (rw back at c.add.ensures.short) before.short;
    })

pub returns : goal.returns
unfolding long_side short_side
returns g c =
    let m = c.args.self.now in
    let ss = vec_items m.series in
    let ps = c.args.positions.now in
    let room : length ss ≤ length ps = omega (arith, m.series.ok.0, m.few_series, c.requires.room) in
    let past : length (holdings ss ps) ≤ c.loop-i.i = omega (arith, length_holdings ss ps room, m.series.ok.0, c.deref-held-items.ensures.len, c.loop-i-test.false) in
    let all = take_all c.loop-i.i (holdings ss ps) past in
    record {
      long = λ q d h. rw all at (c.loop-i.invariant.long.sums q d h);
      short = λ q d h. rw all at (c.loop-i.invariant.short.sums q d h);
    }
