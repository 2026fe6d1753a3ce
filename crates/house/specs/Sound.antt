-- What is kept of every account of a house between calls, as a test.
use Rattle.std.specs.Prelude.{ℕ, suc, ◌+◌, ◌*◌, Bool, true, not, ◌&&◌, List, [], ◌∷◌, length, drop, ℤ, ◌+ℤ◌, neg_ℤ, Some, None, Option, ◌==◌, nat_le, nat_lt, slice_index_or, unsigned_abs}
use Rattle.book.specs.declared.account.Account.{Account}
use Rattle.book.specs.declared.account.Order.{Order}
use Rattle.book.specs.declared.account.Position.{Position}
use Rattle.book.specs.declared.account.Trade.{Trade}
use Rattle.book.specs.declared.market.Series.{Series}
use Rattle.book.specs.Closing.{all}
use Rattle.book.specs.House.{cash_fits}
use Rattle.book.specs.Market.{flat, product_of}

-- The most that one filled leg adds to a carry: 1,000 lots at a price of 10,000,000.
abbrev pub largest_leg : ℕ
largest_leg = 10_000_000_000

abbrev pub open_count : List (Option Order) → ℕ
open_count [] = 0
open_count (None ∷ os) = open_count os
open_count (Some o ∷ os) = suc (open_count os)

-- Net lots are at most 1,000 in size, and a carry has room for the legs of the open orders among the day's n orders.
unfoldable pub position_sound : ℕ → ℕ → Position → Bool
position_sound n opened p =
    nat_le (unsigned_abs p.net) 1_000 && nat_le (unsigned_abs p.carry + largest_leg * opened) (largest_leg * suc n)

abbrev pub net_after : List Position → ℕ → ℤ → ℤ
net_after ps i lots = (slice_index_or ps i flat).net +ℤ lots

-- A leg's series is of the product, and its net lots stay within 1,000 in size.
abbrev pub leg_sound : List Series → List Position → ℕ → ℕ → ℤ → Bool
leg_sound ss ps q i lots =
    nat_lt i (length ss) && (product_of ss i == q && nat_le (unsigned_abs (net_after ps i lots)) 1_000)

abbrev pub second_sound : List Series → List Position → ℕ → Trade → Option ℕ → Bool
second_sound ss ps q t None = true
second_sound ss ps q t (Some j) = not (t.series == j) && leg_sound ss ps q j (neg_ℤ t.lots)

-- An open order of a product can be filled.
unfoldable pub trade_sound : List Series → List Position → ℕ → Trade → Bool
trade_sound ss ps q t =
    nat_le (unsigned_abs t.lots) 1_000 && (leg_sound ss ps q t.series t.lots && second_sound ss ps q t t.second)

abbrev pub slot_sound : List Series → List Position → ℕ → Option Order → Bool
slot_sound ss ps q None = true
slot_sound ss ps q (Some o) = trade_sound ss ps q o.trade

abbrev pub slots_sound : List Series → List Position → ℕ → List (Option Order) → Bool
slots_sound ss ps q [] = true
slots_sound ss ps q (o ∷ os) = slot_sound ss ps q o && slots_sound ss ps (suc q) os

abbrev pub is_flat : Position → Bool
is_flat p = unsigned_abs p.net == 0 && unsigned_abs p.carry == 0

-- Nothing is held past the series that are entered.
unfoldable pub rest_flat : List Series → List Position → Bool
rest_flat ss ps = all is_flat (drop (length ss) ps)

-- An account among n orders placed today.
unfoldable pub sound : List Series → ℕ → Account → Bool
sound ss n x =
    cash_fits x.cash && (all (position_sound n (open_count x.orders)) x.positions && (slots_sound ss x.positions 0 x.orders && rest_flat ss x.positions))
