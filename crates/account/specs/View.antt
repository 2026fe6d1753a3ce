-- The market that a program holds, as the definitions see it.
use Rattle.std.specs.Prelude.{List, vec_items}
use Rattle.rules.specs.declared.levels.RiskMargins.{RiskMargins}
use Rattle.rules.specs.Laws.{Rule}
use Rattle.book.specs.declared.market.Series.{Series}
use Rattle.book.specs.Market as model
use Rattle.account.specs.declared.market.Market.{Market}

abbrev pub the_market : {R : Type 0} → (R → Rule) → Market R → model.Market
the_market meaning m = record { rule = meaning m.rule; products = vec_items m.products; series = vec_items m.series }

-- A market with other products.
abbrev pub with_products : List RiskMargins → model.Market → model.Market
with_products products m = record { rule = m.rule; products = products; series = m.series }

-- A market with other series.
abbrev pub with_series : List Series → model.Market → model.Market
with_series series m = record { rule = m.rule; products = m.products; series = series }
