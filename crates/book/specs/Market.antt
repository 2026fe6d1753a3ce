-- What an account's figures depend on besides the account.
use Rattle.std.specs.Prelude.{ℕ, List, [], ◌∷◌, ℤ, pos, slice_index_or}
use Rattle.rules.specs.declared.levels.RiskMargins.{RiskMargins}
use Rattle.rules.specs.Laws.{Rule}
use Rattle.book.specs.declared.market.Series.{Series}
use Rattle.book.specs.declared.account.Position.{Position}
use Rattle.book.specs.Prices.{mark, settled}

-- A house's margin rule, its products with their risk margins, and its series with their prices.
pub record Market : Type 0 where
  pub rule : Rule
  pub products : List RiskMargins
  pub series : List Series

-- One series as an account holds it.
pub record Holding : Type 0 where
  pub product : ℕ
  pub multiplier : ℕ
  pub mark : ℕ
  pub net : ℤ
  pub carry : ℤ

abbrev pub holding : Series → Position → Holding
holding s p = record {
  product = s.product;
  multiplier = s.multiplier;
  mark = mark s.quote;
  net = p.net;
  carry = p.carry;
}

-- The series that are entered, in their order, as an account holds them.
abbrev pub holdings : List Series → List Position → List Holding
holdings [] ps = []
holdings (s ∷ ss) [] = []
holdings (s ∷ ss) (p ∷ ps) = holding s p ∷ holdings ss ps

abbrev pub flat : Position
flat = record { net = pos 0; carry = pos 0 }

abbrev pub no_holding : Holding
no_holding = record { product = 0; multiplier = 0; mark = 0; net = pos 0; carry = pos 0 }

abbrev pub at : List Holding → ℕ → Holding
at hs i = slice_index_or hs i no_holding

abbrev pub no_series : Series
no_series = record { product = 0; multiplier = 0; quote = settled 0 }

abbrev pub series_at : List Series → ℕ → Series
series_at ss i = slice_index_or ss i no_series

-- The product of a series, by its number.
abbrev pub product_of : List Series → ℕ → ℕ
product_of ss i = (series_at ss i).product
