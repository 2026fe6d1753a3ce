use Rattle.std.proofs.Common.{vec_len}
use Rattle.book.specs.Prices.{open_prices}
use Rattle.account.proofs.Listings.{rewritten_known, open_length, open_products}
use Rattle.account.proofs.market.Market.open.Goals as goal

pub invariant_of-self-clause-known : goal.invariant_of-self-clause-known
invariant_of-self-clause-known g c =
    let m = c.args.self.now in
    rewritten_known open_prices open_length open_products m.series _ _ (vec_len m.products) c.as_mut_slice.ensures.value c.open_all.ensures m.known
