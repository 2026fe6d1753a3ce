use Rattle.std.proofs.Common.{vec_items, sym, ◌∙◌, rules}
use mir.Syntax.{w128}
use Rattle.std.proofs.lemmas.Int.{to_z-of_z}
use Rattle.account.proofs.Sums.{balance_is}
use Rattle.account.proofs.market.Market.equity.Goals as goal

pub returns-clause-value : goal.returns-clause-value
returns-clause-value g c =
    let m = c.args.self.now in
    to_z-of_z w128 c.balance.result (record { sfits = c.balance.type_inv })
    ∙ balance_is _ _ _ _ (vec_items m.series) (sym m.series.ok.0) c.balance.ensures.value (λ i s h p. search rules)
