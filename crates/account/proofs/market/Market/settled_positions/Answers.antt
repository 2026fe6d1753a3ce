use Rattle.std.proofs.Common.{◌≡◌, ◌<◌, length, ◌∙◌, vec_items, arith, rules, length-set}
use Rattle.std.proofs.lemmas.Int.{to_z-of_z}
use Rattle.account.proofs.Settling.{settle_more}
use Rattle.account.proofs.market.Market.settled_positions.Goals as goal

pub loop-i-preserved : goal.loop-i-preserved
loop-i-preserved g c =
    let m = c.args.self.now in
    let items = c.deref-held-items.ensures in
    let all : length c.args.positions ≡ 24 = search rules in
    let lt : c.loop-i.i < length (vec_items m.series) = omega (arith, items.len, m.series.ok.0, c.loop-i-test.true) in
    record {
      settled = settle_more (vec_items m.series) c.args.positions c.loop-i.positions c.loop-i.i _ lt (omega (arith, all, m.few_series, m.series.ok.0)) c.loop-i.invariant.settled (rw (← items.value) (grind (arith, to_z-of_z)));
      room = length-set _ _ _ ∙ c.loop-i.invariant.room;
    }
