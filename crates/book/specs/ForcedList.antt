-- The forced list.
use Rattle.std.specs.Prelude.{ℕ, zero, suc, ◌+◌, Bool, true, false, cond, ◌&&◌, List, [], ◌∷◌, ◌+ℤ◌, Some, None, Option, ◌==◌, unsigned_abs}
use Rattle.book.specs.declared.account.Account.{Account}
use Rattle.book.specs.declared.account.Position.{Position}
use Rattle.book.specs.declared.account.Trade.{Trade}
use Rattle.book.specs.Market.{Market, holdings}
use Rattle.book.specs.Orders.{filled_now, released}
use Rattle.book.specs.MarginCalls.{credited}
use Rattle.book.specs.Due.{due_on}
use Rattle.book.specs.Units.{next_unit, used_up}

-- An account after a fill has these positions, and released margin is credited to an open call.
abbrev pub with_fill : Market → List Position → Account → Account
with_fill m ps x = record {
  cash = x.cash;
  positions = ps;
  orders = x.orders;
  call = credited (released m x.positions ps) x.call;
}

-- A unit counts as filled at the marks.
abbrev pub counted : Market → Trade → Account → Account
counted m u x = with_fill m (filled_now m.series u x.positions) x

abbrev pub lots_of : List Position → ℕ
lots_of [] = 0
lots_of (p ∷ ps) = unsigned_abs p.net + lots_of ps

abbrev pub then_more : Option Trade → (Trade → List Trade) → List Trade
then_more None more = []
then_more (Some u) more = u ∷ more u

-- Units one after another, at most n, until nothing is due or no unit is left.
unfoldable pub units : Market → ℕ → ℕ → Account → List ℕ → List Trade
units m minute zero x takes = []
units m minute (suc n) x takes =
    cond (due_on m minute x)
    (then_more (next_unit (holdings m.series x.positions) takes)
    (λ u. units m minute n (counted m u x) (used_up u takes)))
    []

abbrev pub same_second : Option ℕ → Option ℕ → Bool
same_second None None = true
same_second None (Some j) = false
same_second (Some i) None = false
same_second (Some i) (Some j) = i == j

-- Two units of the same first series, and the same second or both with none.
abbrev pub alike : Trade → Trade → Bool
alike t u = t.series == u.series && same_second t.second u.second

abbrev pub joined : Trade → Trade → Trade
joined t u = record { series = t.series; lots = t.lots +ℤ u.lots; second = t.second }

-- A unit joins the last line if they are alike, and begins a new line otherwise.
abbrev pub add_unit : List Trade → Trade → List Trade
add_unit [] u = u ∷ []
add_unit (l ∷ []) u = cond (alike l u) (joined l u ∷ []) (l ∷ u ∷ [])
add_unit (l ∷ k ∷ ls) u = l ∷ add_unit (k ∷ ls) u

unfoldable pub add_units : List Trade → List Trade → List Trade
add_units ls [] = ls
add_units ls (u ∷ us) = add_units (add_unit ls u) us

-- Neighbouring units that are alike form a line.
abbrev pub lines : List Trade → List Trade
lines us = add_units [] us

-- The units of a forced list: each closes a lot at least, so there are no more of them than lots.
abbrev pub forced_units : Market → ℕ → Account → List ℕ → List Trade
forced_units m minute x takes = units m minute (lots_of x.positions) x takes

abbrev pub forced_list : Market → ℕ → Account → List ℕ → List Trade
forced_list m minute x takes = lines (forced_units m minute x takes)
