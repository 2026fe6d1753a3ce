-- What one call with its answer puts on record.
use Rattle.std.specs.Prelude.{ℕ, List, Option}
use Rattle.rules.specs.declared.levels.RiskMargins.{RiskMargins}
use Rattle.book.specs.declared.account.Figures.{Figures}
use Rattle.book.specs.declared.account.Trade.{Trade}
use Rattle.book.specs.Answer.{Answer, Done, Entered, Ordered, Told, Listed, Refused, NotNow}
use Rattle.book.specs.Call as C
use Rattle.book.specs.Call.{Call}

-- A granted call puts what it did on record. Refused calls do not, and nor do calls that no promise counts.
pub data Event : Type 0 where
  -- a product's risk margins, by Product or Rates
  MarginsSet : ℕ → RiskMargins → Event
  -- a series, its product, multiplier and settlement price
  SeriesEntered : ℕ → ℕ → ℕ → ℕ → Event
  Opened : Event
  Minute : ℕ → Event
  -- series, price
  Printed : ℕ → ℕ → Event
  -- account, amount
  Deposited : ℕ → ℕ → Event
  Withdrawn : ℕ → ℕ → Event
  -- order number, account, trade
  Checked : ℕ → ℕ → Trade → Event
  -- order number, a price for each leg
  Filled : ℕ → ℕ → Option ℕ → Event
  -- settlement prices
  Settled : List ℕ → Event
  -- account, what Figures told
  Figured : ℕ → Figures → Event
  -- account, the lots that the market takes, lines
  Forced : ℕ → List ℕ → List Trade → Event
  Nothing : Event

abbrev pub if_done : Answer → Event → Event
if_done Done e = e
if_done (Entered n) e = Nothing
if_done (Ordered n) e = Nothing
if_done (Told f) e = Nothing
if_done (Listed ls) e = Nothing
if_done (Refused r) e = Nothing
if_done NotNow e = Nothing

abbrev pub if_entered : Answer → (ℕ → Event) → Event
if_entered Done e = Nothing
if_entered (Entered n) e = e n
if_entered (Ordered n) e = Nothing
if_entered (Told f) e = Nothing
if_entered (Listed ls) e = Nothing
if_entered (Refused r) e = Nothing
if_entered NotNow e = Nothing

abbrev pub if_ordered : Answer → (ℕ → Event) → Event
if_ordered Done e = Nothing
if_ordered (Entered n) e = Nothing
if_ordered (Ordered n) e = e n
if_ordered (Told f) e = Nothing
if_ordered (Listed ls) e = Nothing
if_ordered (Refused r) e = Nothing
if_ordered NotNow e = Nothing

abbrev pub if_told : Answer → (Figures → Event) → Event
if_told Done e = Nothing
if_told (Entered n) e = Nothing
if_told (Ordered n) e = Nothing
if_told (Told f) e = e f
if_told (Listed ls) e = Nothing
if_told (Refused r) e = Nothing
if_told NotNow e = Nothing

abbrev pub if_listed : Answer → (List Trade → Event) → Event
if_listed Done e = Nothing
if_listed (Entered n) e = Nothing
if_listed (Ordered n) e = Nothing
if_listed (Told f) e = Nothing
if_listed (Listed ls) e = e ls
if_listed (Refused r) e = Nothing
if_listed NotNow e = Nothing

-- What a call with its answer puts on record.
abbrev pub event : Call → Answer → Event
event (C.Product outright spread) r = if_entered r (λ q. MarginsSet q (record { outright = outright; spread = spread }))
event (C.Rates q outright spread) r = if_done r (MarginsSet q (record { outright = outright; spread = spread }))
event (C.Series q multiplier price) r = if_entered r (λ i. SeriesEntered i q multiplier price)
event C.Account r = Nothing
event C.Opening r = if_done r Opened
event (C.Clock minute) r = if_done r (Minute minute)
event (C.Print i price) r = if_done r (Printed i price)
event (C.Deposit a n) r = if_done r (Deposited a n)
event (C.Withdrawal a n) r = if_done r (Withdrawn a n)
event (C.Check a i lots second) r = if_ordered r (λ n. Checked n a (record { series = i; lots = lots; second = second }))
event (C.Send house n) r = Nothing
event (C.Drop house n) r = Nothing
event (C.Fill n price second_price) r = if_done r (Filled n price second_price)
event (C.Cancel n) r = Nothing
event (C.Closing prices) r = if_done r (Settled prices)
event (C.Figures a) r = if_told r (Figured a)
event (C.ForcedList a takes sheet) r = if_listed r (Forced a takes)

-- Each of the following asks whether an event is of one kind, and gives another answer where it is not.
module _ {ℓ} {X : Type ℓ} where
  abbrev pub on_margins_set : Event → (ℕ → RiskMargins → X) → X → X
  on_margins_set (MarginsSet q m) yes_then other = yes_then q m
  on_margins_set (SeriesEntered i q k p) yes_then other = other
  on_margins_set Opened yes_then other = other
  on_margins_set (Minute t) yes_then other = other
  on_margins_set (Printed i p) yes_then other = other
  on_margins_set (Deposited a n) yes_then other = other
  on_margins_set (Withdrawn a n) yes_then other = other
  on_margins_set (Checked n a t) yes_then other = other
  on_margins_set (Filled n p r) yes_then other = other
  on_margins_set (Settled ps) yes_then other = other
  on_margins_set (Figured a f) yes_then other = other
  on_margins_set (Forced a ts ls) yes_then other = other
  on_margins_set Nothing yes_then other = other

  abbrev pub on_series_entered : Event → (ℕ → ℕ → ℕ → ℕ → X) → X → X
  on_series_entered (MarginsSet q m) yes_then other = other
  on_series_entered (SeriesEntered i q k p) yes_then other = yes_then i q k p
  on_series_entered Opened yes_then other = other
  on_series_entered (Minute t) yes_then other = other
  on_series_entered (Printed i p) yes_then other = other
  on_series_entered (Deposited a n) yes_then other = other
  on_series_entered (Withdrawn a n) yes_then other = other
  on_series_entered (Checked n a t) yes_then other = other
  on_series_entered (Filled n p r) yes_then other = other
  on_series_entered (Settled ps) yes_then other = other
  on_series_entered (Figured a f) yes_then other = other
  on_series_entered (Forced a ts ls) yes_then other = other
  on_series_entered Nothing yes_then other = other

  abbrev pub on_opened : Event → X → X → X
  on_opened (MarginsSet q m) yes_then other = other
  on_opened (SeriesEntered i q k p) yes_then other = other
  on_opened Opened yes_then other = yes_then
  on_opened (Minute t) yes_then other = other
  on_opened (Printed i p) yes_then other = other
  on_opened (Deposited a n) yes_then other = other
  on_opened (Withdrawn a n) yes_then other = other
  on_opened (Checked n a t) yes_then other = other
  on_opened (Filled n p r) yes_then other = other
  on_opened (Settled ps) yes_then other = other
  on_opened (Figured a f) yes_then other = other
  on_opened (Forced a ts ls) yes_then other = other
  on_opened Nothing yes_then other = other

  abbrev pub on_minute : Event → (ℕ → X) → X → X
  on_minute (MarginsSet q m) yes_then other = other
  on_minute (SeriesEntered i q k p) yes_then other = other
  on_minute Opened yes_then other = other
  on_minute (Minute t) yes_then other = yes_then t
  on_minute (Printed i p) yes_then other = other
  on_minute (Deposited a n) yes_then other = other
  on_minute (Withdrawn a n) yes_then other = other
  on_minute (Checked n a t) yes_then other = other
  on_minute (Filled n p r) yes_then other = other
  on_minute (Settled ps) yes_then other = other
  on_minute (Figured a f) yes_then other = other
  on_minute (Forced a ts ls) yes_then other = other
  on_minute Nothing yes_then other = other

  abbrev pub on_printed : Event → (ℕ → ℕ → X) → X → X
  on_printed (MarginsSet q m) yes_then other = other
  on_printed (SeriesEntered i q k p) yes_then other = other
  on_printed Opened yes_then other = other
  on_printed (Minute t) yes_then other = other
  on_printed (Printed i p) yes_then other = yes_then i p
  on_printed (Deposited a n) yes_then other = other
  on_printed (Withdrawn a n) yes_then other = other
  on_printed (Checked n a t) yes_then other = other
  on_printed (Filled n p r) yes_then other = other
  on_printed (Settled ps) yes_then other = other
  on_printed (Figured a f) yes_then other = other
  on_printed (Forced a ts ls) yes_then other = other
  on_printed Nothing yes_then other = other

  abbrev pub on_deposited : Event → (ℕ → ℕ → X) → X → X
  on_deposited (MarginsSet q m) yes_then other = other
  on_deposited (SeriesEntered i q k p) yes_then other = other
  on_deposited Opened yes_then other = other
  on_deposited (Minute t) yes_then other = other
  on_deposited (Printed i p) yes_then other = other
  on_deposited (Deposited a n) yes_then other = yes_then a n
  on_deposited (Withdrawn a n) yes_then other = other
  on_deposited (Checked n a t) yes_then other = other
  on_deposited (Filled n p r) yes_then other = other
  on_deposited (Settled ps) yes_then other = other
  on_deposited (Figured a f) yes_then other = other
  on_deposited (Forced a ts ls) yes_then other = other
  on_deposited Nothing yes_then other = other

  abbrev pub on_withdrawn : Event → (ℕ → ℕ → X) → X → X
  on_withdrawn (MarginsSet q m) yes_then other = other
  on_withdrawn (SeriesEntered i q k p) yes_then other = other
  on_withdrawn Opened yes_then other = other
  on_withdrawn (Minute t) yes_then other = other
  on_withdrawn (Printed i p) yes_then other = other
  on_withdrawn (Deposited a n) yes_then other = other
  on_withdrawn (Withdrawn a n) yes_then other = yes_then a n
  on_withdrawn (Checked n a t) yes_then other = other
  on_withdrawn (Filled n p r) yes_then other = other
  on_withdrawn (Settled ps) yes_then other = other
  on_withdrawn (Figured a f) yes_then other = other
  on_withdrawn (Forced a ts ls) yes_then other = other
  on_withdrawn Nothing yes_then other = other

  abbrev pub on_checked : Event → (ℕ → ℕ → Trade → X) → X → X
  on_checked (MarginsSet q m) yes_then other = other
  on_checked (SeriesEntered i q k p) yes_then other = other
  on_checked Opened yes_then other = other
  on_checked (Minute t) yes_then other = other
  on_checked (Printed i p) yes_then other = other
  on_checked (Deposited a n) yes_then other = other
  on_checked (Withdrawn a n) yes_then other = other
  on_checked (Checked n a t) yes_then other = yes_then n a t
  on_checked (Filled n p r) yes_then other = other
  on_checked (Settled ps) yes_then other = other
  on_checked (Figured a f) yes_then other = other
  on_checked (Forced a ts ls) yes_then other = other
  on_checked Nothing yes_then other = other

  abbrev pub on_filled : Event → (ℕ → ℕ → Option ℕ → X) → X → X
  on_filled (MarginsSet q m) yes_then other = other
  on_filled (SeriesEntered i q k p) yes_then other = other
  on_filled Opened yes_then other = other
  on_filled (Minute t) yes_then other = other
  on_filled (Printed i p) yes_then other = other
  on_filled (Deposited a n) yes_then other = other
  on_filled (Withdrawn a n) yes_then other = other
  on_filled (Checked n a t) yes_then other = other
  on_filled (Filled n p r) yes_then other = yes_then n p r
  on_filled (Settled ps) yes_then other = other
  on_filled (Figured a f) yes_then other = other
  on_filled (Forced a ts ls) yes_then other = other
  on_filled Nothing yes_then other = other

  abbrev pub on_settled : Event → (List ℕ → X) → X → X
  on_settled (MarginsSet q m) yes_then other = other
  on_settled (SeriesEntered i q k p) yes_then other = other
  on_settled Opened yes_then other = other
  on_settled (Minute t) yes_then other = other
  on_settled (Printed i p) yes_then other = other
  on_settled (Deposited a n) yes_then other = other
  on_settled (Withdrawn a n) yes_then other = other
  on_settled (Checked n a t) yes_then other = other
  on_settled (Filled n p r) yes_then other = other
  on_settled (Settled ps) yes_then other = yes_then ps
  on_settled (Figured a f) yes_then other = other
  on_settled (Forced a ts ls) yes_then other = other
  on_settled Nothing yes_then other = other

  abbrev pub on_figured : Event → (ℕ → Figures → X) → X → X
  on_figured (MarginsSet q m) yes_then other = other
  on_figured (SeriesEntered i q k p) yes_then other = other
  on_figured Opened yes_then other = other
  on_figured (Minute t) yes_then other = other
  on_figured (Printed i p) yes_then other = other
  on_figured (Deposited a n) yes_then other = other
  on_figured (Withdrawn a n) yes_then other = other
  on_figured (Checked n a t) yes_then other = other
  on_figured (Filled n p r) yes_then other = other
  on_figured (Settled ps) yes_then other = other
  on_figured (Figured a f) yes_then other = yes_then a f
  on_figured (Forced a ts ls) yes_then other = other
  on_figured Nothing yes_then other = other

  abbrev pub on_forced : Event → (ℕ → List ℕ → List Trade → X) → X → X
  on_forced (MarginsSet q m) yes_then other = other
  on_forced (SeriesEntered i q k p) yes_then other = other
  on_forced Opened yes_then other = other
  on_forced (Minute t) yes_then other = other
  on_forced (Printed i p) yes_then other = other
  on_forced (Deposited a n) yes_then other = other
  on_forced (Withdrawn a n) yes_then other = other
  on_forced (Checked n a t) yes_then other = other
  on_forced (Filled n p r) yes_then other = other
  on_forced (Settled ps) yes_then other = other
  on_forced (Figured a f) yes_then other = other
  on_forced (Forced a ts ls) yes_then other = yes_then a ts ls
  on_forced Nothing yes_then other = other
