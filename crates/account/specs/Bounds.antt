-- How large the numbers of an account are.
use Rattle.std.specs.Prelude.{ℕ, ◌^◌, ◌<◌, ◌≤◌, List, get_or, ◌+ℤ◌, neg_ℤ, Some, None, Option, ◌≢◌, slice_index_or, unsigned_abs}
use Rattle.rules.specs.declared.levels.RiskMargins.{RiskMargins}
use Rattle.rules.specs.Laws.{Three}
use Rattle.book.specs.declared.account.Account.{Account}
use Rattle.book.specs.declared.account.Order.{Order}
use Rattle.book.specs.declared.account.Position.{Position}
use Rattle.book.specs.declared.account.Trade.{Trade}
use Rattle.book.specs.Market.{flat}

-- Net lots are at most 1,000 in size.
abbrev pub SmallNets : List Position → Type 0
SmallNets ps = (j : ℕ) → unsigned_abs (get_or ps j flat).net ≤ 1_000

-- No carry is above a bound in size.
abbrev pub SmallCarries : ℕ → List Position → Type 0
SmallCarries b ps = (j : ℕ) → unsigned_abs (get_or ps j flat).carry ≤ b

abbrev pub Below : Option ℕ → ℕ → Type 0
Below None n = Unit {0}
Below (Some j) n = j < n

abbrev pub SecondFits : ℕ → List Position → Trade → Option ℕ → Type 0
SecondFits n ps t None = Unit {0}
SecondFits n ps t (Some j) = (j < n) × ((t.series ≢ j) × (unsigned_abs ((get_or ps j flat).net +ℤ neg_ℤ t.lots) ≤ 1_000))

-- A trade of different series among the first n, after which no net lots pass 1,000 in size.
pub record TradeFits (n : ℕ) (ps : List Position) (t : Trade) : Type 0 where
  pub there : t.series < n
  pub lots : unsigned_abs t.lots ≤ 1_000
  pub net : unsigned_abs ((get_or ps t.series flat).net +ℤ t.lots) ≤ 1_000
  pub second : SecondFits n ps t t.second

-- Positions with small numbers, on which a trade can be filled.
pub record Fillable (n : ℕ) (ps : List Position) (t : Trade) : Type 0 where
  pub nets : SmallNets ps
  pub carries : SmallCarries (2 ^ 60) ps
  pub fits : TradeFits n ps t

abbrev pub OrderFits : ℕ → List Position → Option Order → Type 0
OrderFits n ps None = Unit {0}
OrderFits n ps (Some o) = TradeFits n ps o.trade

-- An account whose numbers are small and whose open orders can be filled.
pub record Sound (n : ℕ) (x : Account) : Type 0 where
  pub nets : SmallNets x.positions
  pub carries : SmallCarries (2 ^ 60) x.positions
  pub orders : (q : ℕ) → OrderFits n x.positions (slice_index_or x.orders q None)

-- Each of three levels is at most a bound.
abbrev pub Under : ℕ → Three → Type 0
Under b x = (x.0 ≤ b) × (x.1 ≤ b) × (x.2 ≤ b)

abbrev pub margins_at : List RiskMargins → ℕ → RiskMargins
margins_at ms q = slice_index_or ms q (record { outright = 0; spread = 0 })
