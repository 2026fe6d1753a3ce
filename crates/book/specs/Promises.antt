-- The promises over runs: for any margin rule that keeps the laws, and any list of calls.
use Rattle.std.specs.Prelude.{◌≡◌, ℕ, suc, ◌+◌, ◌<◌, ◌≤◌, Bool, true, false, ◌&&◌, ◌⊎◌, List, [], ◌∷◌, ◌++◌, length, take, drop, replicate, ℤ, pos, negsuc, is_some, Some, None, Option, unsigned_abs}
use Rattle.rules.specs.Laws.{Rule, Keeps}
use Rattle.book.specs.declared.account.MarginCall.{MarginCall}
use Rattle.book.specs.declared.account.Position.{Position}
use Rattle.book.specs.declared.account.Trade.{Trade}
use Rattle.book.specs.Answer.{Answer, granted}
use Rattle.book.specs.Call as C
use Rattle.book.specs.Call.{Call}
use Rattle.book.specs.MarginCallHistory.{fills_for, released_by, open_call, something_due}
use Rattle.book.specs.Due.{due}
use Rattle.book.specs.Events.{Event, on_withdrawn, on_figured, on_forced}
use Rattle.book.specs.ForcedList.{lines}
use Rattle.book.specs.History.{History, recorded, checks_today, present_mark, market, positions, balance, minute}
use Rattle.book.specs.House.{set_up}
use Rattle.book.specs.Market.{Market, holdings}
use Rattle.book.specs.MarginCalls.{credited}
use Rattle.book.specs.Orders.{filled_now, released}
use Rattle.book.specs.Requirements.{requirements}
use Rattle.book.specs.Step.{answers}
use Rattle.book.specs.TradingCalls.{last_number}
use Rattle.book.specs.Units.{next_unit, used_up}

-- Something holds of each event and what was on record before it.
abbrev pub Always : (Event → History → Type 0) → History → Type 0
Always P [] = Unit
Always P (e ∷ h) = P e h × Always P h

-- The history of a list of calls on a new house.
abbrev pub history : Rule → ℕ → List Call → History
history rule house cs = recorded [] (set_up house rule) cs

-- Equity: Figures tells granted deposits less granted withdrawals, plus signed lots × multiplier × (present mark − fill price) of each filled leg.
abbrev pub EquityTold : Event → History → Type 0
EquityTold e h = on_figured e (λ a f. f.equity ≡ balance a h) Unit

abbrev pub EquityIdentity : Rule → ℕ → List Call → Type 0
EquityIdentity rule house cs = Always EquityTold (history rule house cs)

-- Figures tells a call exactly while it is open, and its credit is what was credited since its issue.
abbrev pub CallTold : Rule → Event → History → Type 0
CallTold rule e h = on_figured e (λ a f. f.call ≡ open_call rule a h) Unit

-- While a call is open each granted fill of the account releases margin above 0.
abbrev pub FillReleases : Rule → Event → History → Type 0
FillReleases rule e h =
    (a : ℕ) → fills_for a e h ≡ true → is_some (open_call rule a h) ≡ true → 0 < released_by rule a e h

-- While a call is open no withdrawal is granted.
abbrev pub NoWithdrawal : Rule → Event → History → Type 0
NoWithdrawal rule e h = on_withdrawn e (λ a n. is_some (open_call rule a h) ≡ false) Unit

pub record OpenMarginCalls (rule : Rule) (house : ℕ) (cs : List Call) : Type 0 where
  pub told : Always (CallTold rule) (history rule house cs)
  pub releases : Always (FillReleases rule) (history rule house cs)
  pub keeps_cash : Always (NoWithdrawal rule) (history rule house cs)

abbrev pub second_price : History → Option ℕ → Option ℕ
second_price h None = None
second_price h (Some j) = Some (present_mark j h)

-- A line is placed by Check with its series, lots and second series, then Send, and filled by Fill at the marks.
abbrev pub place : History → ℕ → ℕ → ℕ → Trade → List Call
place h house a n l =
    C.Check a l.series l.lots l.second ∷ C.Send house n ∷ C.Fill n (present_mark l.series h) (second_price h l.second) ∷ []

-- Lines are placed one after another, with the day's next order numbers from n.
abbrev pub place_all : History → ℕ → ℕ → ℕ → List Trade → List Call
place_all h house a n [] = []
place_all h house a n (l ∷ ls) = place h house a n l ++ place_all h house a (suc n) ls

abbrev pub all_granted : List Answer → Bool
all_granted [] = true
all_granted (r ∷ rs) = granted r && all_granted rs

-- A line of n lots in size is n units.
abbrev pub one_lot : ℤ → ℤ
one_lot (pos n) = pos 1
one_lot (negsuc n) = negsuc 0

abbrev pub units_in : Trade → List Trade
units_in l = replicate (unsigned_abs l.lots) (record { series = l.series; lots = one_lot l.lots; second = l.second })

abbrev pub units_of : List Trade → List Trade
units_of [] = []
units_of (l ∷ ls) = units_in l ++ units_of ls

abbrev pub takes_left : List Trade → List ℕ → List ℕ
takes_left [] takes = takes
takes_left (u ∷ us) takes = takes_left us (used_up u takes)

-- What is due as a list counts its units: each filled at the marks, with released margin credited to the call.
abbrev pub due_counted : Market → ℕ → ℤ → Option MarginCall → List Position → List Trade → Bool
due_counted m at eb call ps [] = due call at eb (requirements m ps)
due_counted m at eb call ps (u ∷ us) =
    let after = filled_now m.series u ps in
    due_counted m at eb (credited (released m ps after) call) after us

-- The calls of a run, with lines of a forced list placed after them.
module _ (rule : Rule) (house : ℕ) (cs : List Call) (a : ℕ) where
  abbrev pub before : History
  before = history rule house cs

  abbrev pub placing : List Trade → List Call
  placing ls = place_all before house a (suc (checks_today before)) ls

  abbrev pub afterwards : List Trade → History
  afterwards ls = history rule house (cs ++ placing ls)

  -- Each line has an order number left.
  abbrev pub NumbersLeft : List Trade → Type 0
  NumbersLeft ls = checks_today before + length ls ≤ last_number

  -- Placed line by line with nothing in between, every line is granted.
  abbrev pub LinesGranted : List Trade → Type 0
  LinesGranted ls = all_granted (drop (length cs) (answers (set_up house rule) (cs ++ placing ls))) ≡ true

  -- No unit can be chosen from the lots that the market still takes.
  abbrev pub NoUnitLeft : List ℕ → List Trade → Type 0
  NoUnitLeft takes ls =
      next_unit (holdings (market rule (afterwards ls)).series (positions a (afterwards ls))) (takes_left (units_of ls) takes) ≡ None

  -- Then nothing is due or no unit is left.
  abbrev pub Suffices : List ℕ → List Trade → Type 0
  Suffices takes ls = (something_due rule a (afterwards ls) ≡ false) ⊎ NoUnitLeft takes ls

  -- After any fewer of its units something is still due: as the list counts them, and as lines that are placed and filled.
  pub record TooFew (k : ℕ) (ls : List Trade) : Type 0 where
    pub counted : due_counted (market rule before) (minute before) (balance a before) (open_call rule a before) (positions a before) (take k (units_of ls)) ≡ true
    pub granted_so_far : NumbersLeft (lines (take k (units_of ls))) → LinesGranted (lines (take k (units_of ls)))
    pub placed : NumbersLeft (lines (take k (units_of ls))) → something_due rule a (afterwards (lines (take k (units_of ls)))) ≡ true

  pub record ListKept (takes : List ℕ) (ls : List Trade) : Type 0 where
    pub granted_whole : NumbersLeft ls → LinesGranted ls
    pub sufficient : NumbersLeft ls → Suffices takes ls
    pub minimal : (k : ℕ) → k < length (units_of ls) → TooFew k ls

-- A granted forced list is granted as it stands, sufficient and minimal.
abbrev pub ListPromised : Rule → ℕ → List Call → Event → Type 0
ListPromised rule house cs e = on_forced e (λ a takes ls. ListKept rule house cs a takes ls) Unit

abbrev pub newest : History → Event
newest [] = Event.Nothing
newest (e ∷ h) = e

-- Forced lists: what is promised of a list holds at each place of the run at which one is granted.
abbrev pub ForcedLists : Rule → ℕ → List Call → Type 0
ForcedLists rule house cs = (k : ℕ) → ListPromised rule house (take k cs) (newest (history rule house (take k cs)))

-- The three promises of one run.
pub record Promises (rule : Rule) (house : ℕ) (cs : List Call) : Type 0 where
  pub equity_identity : EquityIdentity rule house cs
  pub open_margin_calls : OpenMarginCalls rule house cs
  pub forced_lists : ForcedLists rule house cs

-- The promises hold for any rule that keeps the laws, any house number and any list of calls.
abbrev pub PromisesKept : Type 0
PromisesKept = (rule : Rule) → Keeps rule → (house : ℕ) (cs : List Call) → Promises rule house cs
