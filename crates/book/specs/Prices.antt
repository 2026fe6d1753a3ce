-- The prices of a series.
use Rattle.std.specs.Prelude.{ℕ, Bool, List, [], ◌∷◌, map, Some, None}
use Rattle.std.specs.Option.{unwrap_or}
use Rattle.rules.specs.PerLot.{within}
use Rattle.book.specs.declared.market.Quote.{Quote}
use Rattle.book.specs.declared.market.Series.{Series}

-- A price is 1 to 10,000,000 hundredths of a quoted point.
abbrev pub price_in_range : ℕ → Bool
price_in_range p = within 1 10_000_000 p

-- A multiplier is 1 to 10,000 baht per point.
abbrev pub multiplier_in_range : ℕ → Bool
multiplier_in_range m = within 1 10_000 m

-- The mark is the day's last print, or without one the latest settlement price.
abbrev pub mark : Quote → ℕ
mark q = unwrap_or q.last q.settlement

-- A new series, and one whose day is closed, has a settlement price and no print.
abbrev pub settled : ℕ → Quote
settled price = record { settlement = price; last = None }

-- A print is the day's last one until the next.
abbrev pub printed : ℕ → Quote → Quote
printed price q = record { settlement = q.settlement; last = Some price }

-- A new day begins without prints.
abbrev pub opened : Quote → Quote
opened q = settled q.settlement

abbrev pub with_quote : Quote → Series → Series
with_quote q s = record { product = s.product; multiplier = s.multiplier; quote = q }

abbrev pub open_prices : List Series → List Series
open_prices ss = map (λ s. with_quote (opened s.quote) s) ss

-- The settlement prices of a day, one for each series, in order.
abbrev pub settle_prices : List ℕ → List Series → List Series
settle_prices ps [] = []
settle_prices [] (s ∷ ss) = s ∷ ss
settle_prices (p ∷ ps) (s ∷ ss) = with_quote (settled p) s ∷ settle_prices ps ss
