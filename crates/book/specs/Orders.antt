-- Trades and orders: what a fill does to positions, and what an order needs.
use Rattle.std.specs.Prelude.{ℕ, ◌+◌, ◌-◌, Bool, true, false, List, [], ◌∷◌, ℤ, pos, ◌+ℤ◌, ◌-ℤ◌, ◌*ℤ◌, neg_ℤ, Some, None, Option, nat_lt, slice_index_or, slice_set}
use Rattle.book.specs.declared.account.Position.{Position}
use Rattle.book.specs.declared.account.Trade.{Trade}
use Rattle.book.specs.declared.account.Order.{Order}
use Rattle.book.specs.declared.account.Account.{Account}
use Rattle.book.specs.declared.market.Series.{Series}
use Rattle.book.specs.Prices.{mark}
use Rattle.book.specs.Market.{Market, flat, series_at}
use Rattle.book.specs.Equity.{equity}
use Rattle.book.specs.Requirements.{requirements, initial}

-- A filled leg adds its lots to net lots, and lots × price to carry.
abbrev pub moved : ℤ → ℕ → Position → Position
moved lots price p = record { net = p.net +ℤ lots; carry = p.carry +ℤ lots *ℤ pos price }

unfoldable pub fill_leg : ℕ → ℤ → ℕ → List Position → List Position
fill_leg i lots price ps = slice_set ps i (moved lots price (slice_index_or ps i flat))

abbrev pub fill_second : Option ℕ → ℤ → ℕ → List Position → List Position
fill_second None lots price ps = ps
fill_second (Some j) lots price ps = fill_leg j lots price ps

-- A trade is filled whole: its lots at the first price, the opposite lots of a second series at the second.
abbrev pub filled : Trade → ℕ → ℕ → List Position → List Position
filled t price second_price ps =
    fill_second t.second (neg_ℤ t.lots) second_price (fill_leg t.series t.lots price ps)

abbrev pub mark_at : List Series → ℕ → ℕ
mark_at ss i = mark (series_at ss i).quote

abbrev pub second_mark : List Series → Option ℕ → ℕ
second_mark ss None = 0
second_mark ss (Some j) = mark_at ss j

-- A trade that is filled now is filled at the marks.
abbrev pub filled_now : List Series → Trade → List Position → List Position
filled_now ss t ps = filled t (mark_at ss t.series) (second_mark ss t.second) ps

-- IMR of an account, and what it would be if a trade were filled now.
abbrev pub imr : Market → Account → ℕ
imr m x = initial (requirements m x.positions)

abbrev pub imr_after : Market → Trade → Account → ℕ
imr_after m t x = initial (requirements m (filled_now m.series t x.positions))

-- A trade's need is the rise in IMR if it were filled now, or 0.
unfoldable pub need : Market → Trade → Account → ℕ
need m t x = imr_after m t x - imr m x

-- Whether IMR would fall.
unfoldable pub lowers : Market → Trade → Account → Bool
lowers m t x = nat_lt (imr_after m t x) (imr m x)

-- Released margin is the fall of IMR from one set of positions to another, or 0.
unfoldable pub released : Market → List Position → List Position → ℕ
released m before after = initial (requirements m before) - initial (requirements m after)

abbrev pub order_need : Market → Account → Option Order → ℕ
order_need m x None = 0
order_need m x (Some o) = need m o.trade x

-- The needs of all open orders, held and sent.
abbrev pub needs : Market → Account → List (Option Order) → ℕ
needs m x [] = 0
needs m x (o ∷ os) = order_need m x o + needs m x os

-- Free is EB less IMR less the needs of the account's open orders.
unfoldable pub free : Market → Account → ℤ
free m x = equity m x -ℤ pos (imr m x) -ℤ pos (needs m x x.orders)

-- Whether some order of the account is open.
abbrev pub any_open : List (Option Order) → Bool
any_open [] = false
any_open (None ∷ os) = any_open os
any_open (Some o ∷ os) = true
