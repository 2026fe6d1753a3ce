use Rattle.std.proofs.Common.{vec_len}
use Rattle.book.specs.Prices.{settle_prices}
use Rattle.account.proofs.Listings.{rewritten_known, settle_length, settle_products}
use Rattle.account.proofs.market.Market.settle.Goals as goal

pub invariant_of-self-clause-known : goal.invariant_of-self-clause-known
invariant_of-self-clause-known g c =
    let m = c.args.self.now in
    let qs = c.from_priced-prices.result in
    rewritten_known (settle_prices qs) (settle_length qs) (settle_products qs) m.series _ _ (vec_len m.products) c.as_mut_slice.ensures.value c.settle_all.ensures m.known
