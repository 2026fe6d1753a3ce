use Rattle.std.proofs.Common.{◌≡◌, ◌<◌, length, arith, rules}
use Rattle.std.proofs.lemmas.Int.{ints}
use Rattle.account.proofs.Sums.{balance_more}
use Rattle.account.proofs.market.Market.balance.Goals as goal

pub loop-i-preserved : goal.loop-i-preserved
loop-i-preserved g c =
    let m = c.args.self.now in
    let x = c.args.account.now in
    let items = c.deref-held-items.ensures in
    let all : length x.positions ≡ 24 = search rules in
    let lt : c.loop-i.i < length x.positions = omega (arith, all, items.len, m.few_series, c.loop-i-test.true) in
    let size = c.loop-i.invariant.size in
    record {
      value = balance_more _ c.loop-i.i x _ _ c.valued.result lt (rw items.value at c.valued.ensures) (omega (arith, ints, c.gain_in-balance.ensures)) c.loop-i.invariant.value;
      size = omega (arith, ints, c.gain_in-balance.ensures.size);
    }
