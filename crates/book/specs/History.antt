-- What the granted calls of a history say. A history has its newest event first.
use Rattle.std.specs.Prelude.{ℕ, zero, suc, ◌+◌, cond, ◌&&◌, List, [], ◌∷◌, ◌++◌, get_or, ℤ, pos, ◌+ℤ◌, ◌-ℤ◌, ◌*ℤ◌, neg_ℤ, Some, None, Option, ◌==◌, slice_index_or}
use Rattle.std.specs.Option.{unwrap_or}
use Rattle.rules.specs.declared.levels.RiskMargins.{RiskMargins}
use Rattle.rules.specs.Laws.{Rule, Three}
use Rattle.book.specs.declared.account.Position.{Position}
use Rattle.book.specs.declared.account.Trade.{Trade}
use Rattle.book.specs.declared.market.Series.{Series}
use Rattle.book.specs.Call.{Call}
use Rattle.book.specs.Events.{Event, event, on_margins_set, on_series_entered, on_opened, on_minute, on_printed, on_deposited, on_withdrawn, on_checked, on_filled, on_settled}
use Rattle.book.specs.House.{State}
use Rattle.book.specs.Market.{Market}
use Rattle.book.specs.Prices.{mark}
use Rattle.book.specs.Requirements.{requirements}
use Rattle.book.specs.Step.{step}

abbrev pub History : Type 0
History = List Event

-- A history goes on with what each call and its answer put on record.
abbrev pub recorded : History → State → List Call → History
recorded h s [] = h
recorded h s (c ∷ cs) = recorded (event c (step s c).0 ∷ h) (step s c).1 cs

-- Granted deposits of an account.
abbrev pub deposits : ℕ → History → ℕ
deposits a [] = 0
deposits a (e ∷ h) = on_deposited e (λ b n. cond (a == b) n 0) 0 + deposits a h

-- Granted withdrawals of an account.
abbrev pub withdrawals : ℕ → History → ℕ
withdrawals a [] = 0
withdrawals a (e ∷ h) = on_withdrawn e (λ b n. cond (a == b) n 0) 0 + withdrawals a h

-- A granted order of the day: its account and its trade.
pub record Placed : Type 0 where
  pub account : ℕ
  pub trade : Trade

-- The order of a number is that of the granted check that answered it since the last opening.
abbrev pub order : ℕ → History → Option Placed
order n [] = None
order n (e ∷ h) =
    on_opened e None
    (on_checked e (λ k a t. cond (k == n) (Some (record { account = a; trade = t })) (order n h)) (order n h))

-- How many checks were granted since the last opening.
abbrev pub checks_today : History → ℕ
checks_today [] = 0
checks_today (e ∷ h) = on_opened e 0 (on_checked e (λ n a t. suc (checks_today h)) (checks_today h))

-- A filled leg.
pub record Leg : Type 0 where
  pub account : ℕ
  pub series : ℕ
  pub lots : ℤ
  pub price : ℕ

abbrev pub second_leg : Placed → ℕ → Option ℕ → List Leg
second_leg o price None = []
second_leg o price (Some j) = record { account = o.account; series = j; lots = neg_ℤ o.trade.lots; price = price } ∷ []

abbrev pub legs_of : Option Placed → ℕ → Option ℕ → List Leg
legs_of None price second_price = []
legs_of (Some o) price second_price =
    record { account = o.account; series = o.trade.series; lots = o.trade.lots; price = price }
    ∷ second_leg o (unwrap_or second_price 0) o.trade.second

-- A granted fill fills the legs of its order: the check's lots, the opposite on the second leg, at the fill's prices.
abbrev pub legs : History → List Leg
legs [] = []
legs (e ∷ h) = on_filled e (λ n price second_price. legs_of (order n h) price second_price) [] ++ legs h

-- The last print of a series since the last opening or closing, if any.
abbrev pub last_print : ℕ → History → Option ℕ
last_print i [] = None
last_print i (e ∷ h) =
    on_opened e None
    (on_settled e (λ prices. None)
    (on_printed e (λ j price. cond (i == j) (Some price) (last_print i h)) (last_print i h)))

-- The latest settlement price of a series: that of the last closing, or with which it was entered.
abbrev pub settlement : ℕ → History → ℕ
settlement i [] = 0
settlement i (e ∷ h) =
    on_settled e (λ prices. get_or prices i (settlement i h))
    (on_series_entered e (λ j q k price. cond (i == j) price (settlement i h)) (settlement i h))

-- The product and the multiplier with which a series was entered.
abbrev pub product : ℕ → History → ℕ
product i [] = 0
product i (e ∷ h) = on_series_entered e (λ j q k price. cond (i == j) q (product i h)) (product i h)

abbrev pub multiplier : ℕ → History → ℕ
multiplier i [] = 0
multiplier i (e ∷ h) = on_series_entered e (λ j q k price. cond (i == j) k (multiplier i h)) (multiplier i h)

-- The risk margins in force are those of the last granted Product or Rates.
abbrev pub margins_in_force : ℕ → History → RiskMargins
margins_in_force q [] = record { outright = 0; spread = 0 }
margins_in_force q (e ∷ h) = on_margins_set e (λ p m. cond (q == p) m (margins_in_force q h)) (margins_in_force q h)

-- How many products were entered: margins for the next number enter a product, and for a lower one replace them.
abbrev pub products_entered : History → ℕ
products_entered [] = 0
products_entered (e ∷ h) =
    on_margins_set e (λ q m. cond (q == products_entered h) (suc (products_entered h)) (products_entered h)) (products_entered h)

-- How many series were entered.
abbrev pub series_entered : History → ℕ
series_entered [] = 0
series_entered (e ∷ h) = on_series_entered e (λ i q k price. suc (series_entered h)) (series_entered h)

-- The minute of the day.
abbrev pub minute : History → ℕ
minute [] = 0
minute (e ∷ h) = on_opened e 0 (on_minute e (λ t. t) (minute h))

-- The values of a function at 0, 1 and so on, n of them.
abbrev pub table : {A : Type 0} → ℕ → (ℕ → A) → List A
table zero f = []
table (suc n) f = f 0 ∷ table n (λ i. f (suc i))

abbrev pub series : History → ℕ → Series
series h i = record {
  product = product i h;
  multiplier = multiplier i h;
  quote = record { settlement = settlement i h; last = last_print i h };
}

-- The products with the risk margins in force, and the series with their present prices.
abbrev pub market : Rule → History → Market
market rule h = record {
  rule = rule;
  products = table (products_entered h) (λ q. margins_in_force q h);
  series = table (series_entered h) (series h);
}

-- The present mark of a series.
abbrev pub present_mark : ℕ → History → ℕ
present_mark i h = mark (series h i).quote

-- Net lots are the sum of filled lots.
abbrev pub net : ℕ → ℕ → List Leg → ℤ
net a i [] = pos 0
net a i (l ∷ ls) = cond (a == l.account && i == l.series) l.lots (pos 0) +ℤ net a i ls

abbrev pub cost : ℕ → ℕ → List Leg → ℤ
cost a i [] = pos 0
cost a i (l ∷ ls) = cond (a == l.account && i == l.series) (l.lots *ℤ pos l.price) (pos 0) +ℤ cost a i ls

-- Carry is net lots × price at the last closing, and lots × price of each leg that was filled since.
abbrev pub carry : ℕ → ℕ → History → ℤ
carry a i [] = pos 0
carry a i (e ∷ h) =
    on_settled e (λ prices. net a i (legs h) *ℤ pos (slice_index_or prices i (settlement i h)))
    (on_filled e (λ n price second_price. cost a i (legs_of (order n h) price second_price) +ℤ carry a i h) (carry a i h))

abbrev pub position : ℕ → History → ℕ → Position
position a h i = record { net = net a i (legs h); carry = carry a i h }

abbrev pub positions : ℕ → History → List Position
positions a h = table (series_entered h) (position a h)

-- The initial, maintenance and force requirement of an account.
abbrev pub levels : Rule → ℕ → History → Three
levels rule a h = requirements (market rule h) (positions a h)

-- A leg has gained signed lots × multiplier × (present mark − fill price).
abbrev pub leg_gain : History → Leg → ℤ
leg_gain h l = pos (multiplier l.series h) *ℤ (l.lots *ℤ (pos (present_mark l.series h) -ℤ pos l.price))

abbrev pub gains_on : ℕ → History → List Leg → ℤ
gains_on a h [] = pos 0
gains_on a h (l ∷ ls) = cond (a == l.account) (leg_gain h l) (pos 0) +ℤ gains_on a h ls

-- An account's equity balance is granted deposits less granted withdrawals, plus what each of its filled legs has gained.
abbrev pub balance : ℕ → History → ℤ
balance a h = pos (deposits a h) -ℤ pos (withdrawals a h) +ℤ gains_on a h (legs h)
