use Rattle.std.proofs.Common.{◌<◌, length, vec_items, sym, ◌∙◌, rules, arith}
use mir.Syntax.{w128}
use Rattle.std.proofs.lemmas.Int.{to_z-of_z}
use Rattle.book.specs.Prices.{settle_prices}
use Rattle.account.proofs.Listings.{settle_at, settle_length}
use Rattle.account.proofs.Sums.{balance_is}
use Rattle.account.proofs.market.Market.equity_at.Goals as goal

pub returns : goal.returns
returns g c =
    let qs = c.args.prices.now in
    let ss = vec_items c.args.self.now.series in
    let count = c.args.self.now.series.ok.0 in
    record {
      value = to_z-of_z w128 c.balance.result (record { sfits = c.balance.type_inv })
          ∙ balance_is _ _ _ _ (settle_prices qs ss) (settle_length qs ss ∙ sym count) c.balance.ensures.value
          (λ i s h p. let lt : i < length ss = omega (arith, count, h) in rw (settle_at qs ss i lt (c.requires.many ∙ count)) (search rules));
    }
