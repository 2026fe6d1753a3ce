-- The calls on a trading house but Closing: what each answers, and what it leaves.
use Rattle.std.specs.Prelude.{ℕ, suc, ◌-◌, Bool, true, false, cond, not, ◌&&◌, ◌||◌, List, [], ◌∷◌, ◌++◌, length, get_or, ℤ, pos, ◌+ℤ◌, ◌-ℤ◌, neg_ℤ, is_some, Some, None, Option, ◌==◌, int_le, nat_le, nat_lt, slice_index_or, slice_set, unsigned_abs}
use Rattle.std.specs.Bool.{beq}
use Rattle.std.specs.Option.{unwrap_or}
use Rattle.std.specs.List.{slice_get}
use Rattle.rules.specs.PerLot.{within}
use Rattle.book.specs.declared.account.Account.{Account}
use Rattle.book.specs.declared.account.Figures.{Figures}
use Rattle.book.specs.declared.account.MarginCall.{MarginCall}
use Rattle.book.specs.declared.account.Order.{Order}
use Rattle.book.specs.declared.account.Placement.{Placement}
use Rattle.book.specs.declared.account.Stage.{Stage}
use Rattle.book.specs.declared.account.Stage.TheVariants.{Held, Sent}
use Rattle.book.specs.declared.account.Trade.{Trade}
use Rattle.book.specs.declared.refusal.Refusal.TheVariants.{Unknown, OutOfRange, EarlierMinute, SecondSeries, PositionLimit, OrderOpen, OrderNumbersUsed, CallOpen, ExceedsFree, CashLimit, NoSuchOrder, WrongCount, NothingDue, SheetTooShort}
use Rattle.book.specs.Answer.{Done, Ordered, Told, Listed, Refused}
use Rattle.book.specs.Prices.{price_in_range, printed, with_quote}
use Rattle.book.specs.Market.{Market, series_at, product_of, flat}
use Rattle.book.specs.Equity.{equity}
use Rattle.book.specs.Requirements.{requirements, initial, maintenance, force}
use Rattle.book.specs.Orders.{filled, need, lowers, free, any_open}
use Rattle.book.specs.MarginCalls.{credited}
use Rattle.book.specs.Due.{due_on}
use Rattle.book.specs.ForcedList.{with_fill, forced_list}
use Rattle.book.specs.House.{State, Trading, account_at, has_account, has_series, max_cash, with_series, with_account, with_phase}
use Rattle.book.specs.ClosedCalls.{Outcome, require}

-- Clock sets the minute of the day, 0 to 1,439, which never goes back.
abbrev pub set_clock : State → ℕ → List Placement → ℕ → Outcome
set_clock s now_minute placed minute =
    require s (nat_le minute 1_439) OutOfRange
    (require s (nat_le now_minute minute) EarlierMinute
    (Done, with_phase (Trading minute placed) s))

-- Print sets the last print of a series.
abbrev pub print_price : State → ℕ → ℕ → Outcome
print_price s i price =
    let old = series_at s.market.series i in
    require s (has_series s i) Unknown
    (require s (price_in_range price) OutOfRange
    (Done, with_series (slice_set s.market.series i (with_quote (printed price old.quote) old)) s))

-- A deposit or a withdrawal is 1 to 10^12 satang.
abbrev pub amount_in_range : ℕ → Bool
amount_in_range n = within 1 1_000_000_000_000 n

abbrev pub with_cash : ℤ → Option MarginCall → Account → Account
with_cash z call x = record { cash = z; positions = x.positions; orders = x.orders; call = call }

-- Deposit adds to cash, and to the credit of an open call.
abbrev pub deposit : State → ℕ → ℕ → Outcome
deposit s a n =
    let x = account_at s a in
    let cash = x.cash +ℤ pos n in
    require s (has_account s a) Unknown
    (require s (amount_in_range n) OutOfRange
    (require s (int_le cash (pos max_cash)) CashLimit
    (Done, with_account a (with_cash cash (credited n x.call) x) s)))

-- Withdrawal takes from cash, with no call open and no more than is free.
abbrev pub withdraw : State → ℕ → ℕ → Outcome
withdraw s a n =
    let x = account_at s a in
    let cash = x.cash -ℤ pos n in
    require s (has_account s a) Unknown
    (require s (amount_in_range n) OutOfRange
    (require s (not (is_some x.call)) CallOpen
    (require s (int_le (pos n) (free s.market x)) ExceedsFree
    (require s (int_le (neg_ℤ (pos max_cash)) cash) CashLimit
    (Done, with_account a (with_cash cash x.call x) s)))))

-- An order is for 1 to 1,000 lots, bought or sold.
abbrev pub lots_in_range : ℤ → Bool
lots_in_range lots = within 1 1_000 (unsigned_abs lots)

abbrev pub knows_second : State → Option ℕ → Bool
knows_second s None = true
knows_second s (Some j) = has_series s j

-- A second series is another one of the same product.
abbrev pub second_fits : Market → ℕ → Option ℕ → Bool
second_fits m i None = true
second_fits m i (Some j) = not (i == j) && product_of m.series i == product_of m.series j

-- Net lots are at most 1,000 in size.
abbrev pub net_fits : Account → ℕ → ℤ → Bool
net_fits x i lots = nat_le (unsigned_abs ((get_or x.positions i flat).net +ℤ lots)) 1_000

abbrev pub second_net_fits : Account → Option ℕ → ℤ → Bool
second_net_fits x None lots = true
second_net_fits x (Some j) lots = net_fits x j lots

abbrev pub order_in : Account → ℕ → Option Order
order_in x q = slice_index_or x.orders q None

abbrev pub with_order : ℕ → Option Order → Account → Account
with_order q o x = record { cash = x.cash; positions = x.positions; orders = slice_set x.orders q o; call = x.call }

-- The day's order numbers are 1 to 9,999.
abbrev pub last_number : ℕ
last_number = 9_999

-- While a call is open an order must lower IMR.
abbrev pub allowed_under_call : Market → Trade → Account → Bool
allowed_under_call m t x = not (is_some x.call) || lowers m t x

-- A need above 0 must be free.
abbrev pub affordable : Market → Trade → Account → Bool
affordable m t x = need m t x == 0 || int_le (pos (need m t x)) (free m x)

-- Check tests an order; granted, it takes the day's next order number, and the order is held.
abbrev pub check_order : State → ℕ → List Placement → ℕ → ℕ → ℤ → Option ℕ → Outcome
check_order s minute placed a i lots second =
    let x = account_at s a in
    let m = s.market in
    let q = product_of m.series i in
    let t : Trade = record { series = i; lots = lots; second = second } in
    let number = suc (length placed) in
    let place : Placement = record { account = a; product = q } in
    let order : Order = record { number = number; stage = Held; trade = t } in
    require s (has_account s a && (has_series s i && knows_second s second)) Unknown
    (require s (lots_in_range lots) OutOfRange
    (require s (second_fits m i second) SecondSeries
    (require s (net_fits x i lots && second_net_fits x second (neg_ℤ lots)) PositionLimit
    (require s (not (is_some (order_in x q))) OrderOpen
    (require s (nat_le number last_number) OrderNumbersUsed
    (require s (allowed_under_call m t x) CallOpen
    (require s (affordable m t x) ExceedsFree
    (Ordered number, with_phase (Trading minute (placed ++ place ∷ [])) (with_account a (with_order q (Some order) x) s)))))))))

abbrev pub same_stage : Stage → Stage → Bool
same_stage Held Held = true
same_stage Held Sent = false
same_stage Sent Held = false
same_stage Sent Sent = true

-- The open order of a number in a stage, with its place.
pub record Found : Type 0 where
  pub place : Placement
  pub order : Order

abbrev pub found_in : Placement → Stage → ℕ → Option Order → Option Found
found_in place stage n None = None
found_in place stage n (Some o) =
    cond (o.number == n && same_stage o.stage stage) (Some (record { place = place; order = o })) None

abbrev pub found_at : State → Stage → ℕ → Option Placement → Option Found
found_at s stage n None = None
found_at s stage n (Some p) = found_in p stage n (order_in (account_at s p.account) p.product)

-- Order n of the day stands where it was placed, unless it has ended.
abbrev pub find_order : State → List Placement → Stage → ℕ → Option Found
find_order s placed stage n = cond (nat_lt 0 n) (found_at s stage n (slice_get placed (n - 1))) None

abbrev pub replace_order : Found → Option Order → State → State
replace_order f o s =
    let a = f.place.account in
    with_account a (with_order f.place.product o (account_at s a)) s

abbrev pub on_found : State → Option Found → (Found → Outcome) → Outcome
on_found s None next = (Refused NoSuchOrder, s)
on_found s (Some f) next = next f

abbrev pub sent : Order → Order
sent o = record { number = o.number; stage = Sent; trade = o.trade }

-- A ticket matches a held order by its house number and its order number.
abbrev pub held_order : State → List Placement → ℕ → ℕ → Option Found
held_order s placed house n = cond (house == s.number) (find_order s placed Held n) None

-- Send spends a ticket: its order is sent.
abbrev pub send_order : State → List Placement → ℕ → ℕ → Outcome
send_order s placed house n =
    on_found s (held_order s placed house n) (λ f. (Done, replace_order f (Some (sent f.order)) s))

-- Drop spends a ticket: its order ends.
abbrev pub drop_order : State → List Placement → ℕ → ℕ → Outcome
drop_order s placed house n = on_found s (held_order s placed house n) (λ f. (Done, replace_order f None s))

-- Cancel ends a sent order.
abbrev pub cancel_order : State → List Placement → ℕ → Outcome
cancel_order s placed n = on_found s (find_order s placed Sent n) (λ f. (Done, replace_order f None s))

abbrev pub second_in_range : Option ℕ → Bool
second_in_range None = true
second_in_range (Some p) = price_in_range p

abbrev pub fill_found : State → ℕ → Option ℕ → Found → Outcome
fill_found s price second_price f =
    let t = f.order.trade in
    let a = f.place.account in
    let x = account_at s a in
    let after = with_fill s.market (filled t price (unwrap_or second_price 0) x.positions) x in
    require s (beq (is_some second_price) (is_some t.second)) WrongCount
    (require s (price_in_range price && second_in_range second_price) OutOfRange
    (Done, with_account a (with_order f.place.product None after) s))

-- Fill fills a sent order whole, which ends it; released margin is credited to an open call.
abbrev pub fill_order : State → List Placement → ℕ → ℕ → Option ℕ → Outcome
fill_order s placed n price second_price =
    on_found s (find_order s placed Sent n) (fill_found s price second_price)

abbrev pub figures_of : Market → Account → Figures
figures_of m x =
    let levels = requirements m x.positions in
    record {
      equity = equity m x;
      initial = initial levels;
      maintenance = maintenance levels;
      force = force levels;
      free = free m x;
      call = x.call;
    }

-- Figures tells an account's equity balance, requirements, free and open call.
abbrev pub tell_figures : State → ℕ → Outcome
tell_figures s a =
    require s (has_account s a) Unknown (Told (figures_of s.market (account_at s a)), s)

-- Forced list answers the lines that close what is due, and changes nothing.
abbrev pub tell_forced_list : State → ℕ → ℕ → List ℕ → ℕ → Outcome
tell_forced_list s minute a takes sheet =
    let x = account_at s a in
    let m = s.market in
    let answer = forced_list m minute x takes in
    require s (has_account s a) Unknown
    (require s (not (any_open x.orders)) OrderOpen
    (require s (length takes == length m.series) WrongCount
    (require s (due_on m minute x) NothingDue
    (require s (nat_le (length answer) sheet) SheetTooShort
    (Listed answer, s)))))
