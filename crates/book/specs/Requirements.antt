-- Sides and margin requirements.
use Rattle.std.specs.Prelude.{ℕ, suc, ◌+◌, cond, List, [], ◌∷◌, ℤ, pos, negsuc, ◌==◌}
use Rattle.rules.specs.declared.levels.RiskMargins.{RiskMargins}
use Rattle.rules.specs.Laws.{Rule, Three, charged}
use Rattle.rules.specs.Rules.{plus}
use Rattle.book.specs.declared.account.Position.{Position}
use Rattle.book.specs.Market.{Market, Holding, holdings}

-- The lots of a net position on the long side.
abbrev pub long : ℤ → ℕ
long (pos n) = n
long (negsuc n) = 0

-- The lots of a net position on the short side.
abbrev pub short : ℤ → ℕ
short (pos n) = 0
short (negsuc n) = suc n

abbrev pub total : (Holding → ℕ) → List Holding → ℕ
total f [] = 0
total f (h ∷ hs) = f h + total f hs

abbrev pub long_in : ℕ → Holding → ℕ
long_in q h = cond (q == h.product) (long h.net) 0

abbrev pub short_in : ℕ → Holding → ℕ
short_in q h = cond (q == h.product) (short h.net) 0

-- L of a product is the sum of an account's positive net lots in its series.
unfoldable pub long_side : ℕ → List Holding → ℕ
long_side q hs = total (long_in q) hs

-- S of a product is the sum of the sizes of the negative ones.
unfoldable pub short_side : ℕ → List Holding → ℕ
short_side q hs = total (short_in q) hs

-- The three levels that the house's margin rule asks for one product's sides.
unfoldable pub product_levels : Rule → RiskMargins → ℕ → List Holding → Three
product_levels f m q hs = charged f m (long_side q hs) (short_side q hs)

-- The sums of the levels over the products, numbered from q.
abbrev pub levels_from : Rule → ℕ → List RiskMargins → List Holding → Three
levels_from f q [] hs = (0, 0, 0)
levels_from f q (m ∷ ms) hs = plus (product_levels f m q hs) (levels_from f (suc q) ms hs)

-- The initial, maintenance and force requirement of positions: the sums over the products.
abbrev pub requirements : Market → List Position → Three
requirements m ps = levels_from m.rule 0 m.products (holdings m.series ps)

-- IMR, MMR and FMR.
abbrev pub initial : Three → ℕ
initial x = x.0

abbrev pub maintenance : Three → ℕ
maintenance x = x.1

abbrev pub force : Three → ℕ
force x = x.2
