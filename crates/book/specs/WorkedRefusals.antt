-- Worked cases of refusals: the order in which a call's refusals are tested, and the bounds of every range.
use Rattle.std.specs.Prelude.{◌≡◌, ℕ, false, List, [], ◌∷◌, ◌++◌, map, replicate, ℤ, pos, negsuc, Some, None, slice_set}
use Rattle.rules.specs.declared.rule.RuleChoice.{RuleChoice}
use Rattle.book.specs.declared.account.Account.{Account}
use Rattle.book.specs.declared.account.Position.{Position}
use Rattle.book.specs.declared.account.Stage.TheVariants.{Held}
use Rattle.book.specs.declared.refusal.Refusal.TheVariants.{Full}
use Rattle.book.specs.Answer.{Entered, Refused}
use Rattle.book.specs.Call as C
use Rattle.book.specs.Call.{Call}
use Rattle.book.specs.Market.{flat}
use Rattle.book.specs.Prices.{settled}
use Rattle.book.specs.House.{State, Trading, account_at, with_account}
use Rattle.book.specs.Step.{after, answers}
use Rattle.book.specs.WorkedRuns.{Granted, No, Absent, Judged, ◌gets◌, Runs, house_number, house_after, open_call, alone, traded, first_opening, first_day, with_call}

-- A product is entered.
abbrev pub one_product : List Call
one_product = C.Product 450_000 112_500 ∷ []

pub record WorkedEntering (rule : RuleChoice) : Type 0 where
  -- the outright risk margin is 1 to 500,000,000, the spread one 1 to the outright one
  pub product_range : Runs (house_after rule [])
      (C.Product 0 0 gets No 2
      ∷ C.Product 1 0 gets No 2
      ∷ C.Product 1 2 gets No 2
      ∷ C.Product 500_000_001 1 gets No 2
      ∷ C.Product 1 1 gets Granted
      ∷ C.Product 500_000_000 1 gets Granted
      ∷ C.Product 500_000_000 500_000_000 gets Granted
      ∷ [])
  -- products are numbered from 0, and there are at most eight
  pub eight_products : answers (house_after rule []) (replicate 9 (C.Product 1 1))
      ≡ Entered 0 ∷ Entered 1 ∷ Entered 2 ∷ Entered 3 ∷ Entered 4 ∷ Entered 5 ∷ Entered 6 ∷ Entered 7 ∷ Refused Full ∷ []
  pub product_order : Runs (house_after rule (replicate 8 (C.Product 1 1))) (C.Product 0 0 gets No 2 ∷ C.Product 1 1 gets No 3 ∷ [])
  -- rates are of a product that is there, in the same ranges
  pub rates : Runs (house_after rule one_product)
      (C.Rates 1 0 0 gets No 1
      ∷ C.Rates 1 1 1 gets No 1
      ∷ C.Rates 0 0 0 gets No 2
      ∷ C.Rates 0 1 0 gets No 2
      ∷ C.Rates 0 1 2 gets No 2
      ∷ C.Rates 0 500_000_001 1 gets No 2
      ∷ C.Rates 0 1 1 gets Granted
      ∷ C.Rates 0 500_000_000 500_000_000 gets Granted
      ∷ [])
  -- a multiplier is 1 to 10,000, a price 1 to 10,000,000
  pub series_range : Runs (house_after rule one_product)
      (C.Series 1 0 0 gets No 1
      ∷ C.Series 1 1 1 gets No 1
      ∷ C.Series 0 0 1 gets No 2
      ∷ C.Series 0 1 0 gets No 2
      ∷ C.Series 0 10_001 1 gets No 2
      ∷ C.Series 0 1 10_000_001 gets No 2
      ∷ C.Series 0 1 1 gets Granted
      ∷ C.Series 0 10_000 10_000_000 gets Granted
      ∷ [])
  -- there are at most twenty-four series
  pub series_order : Runs (house_after rule (one_product ++ replicate 23 (C.Series 0 1 1)))
      (C.Series 0 1 1 gets Granted ∷ C.Series 0 0 0 gets No 2 ∷ C.Series 0 1 1 gets No 3 ∷ [])
  pub series_numbered : answers (house_after rule (one_product ++ replicate 23 (C.Series 0 1 1))) (C.Series 0 1 1 ∷ []) ≡ Entered 23 ∷ []
  -- there are at most thirty-two accounts
  pub accounts : answers (house_after rule (replicate 31 C.Account)) (C.Account ∷ C.Account ∷ []) ≡ Entered 31 ∷ Refused Full ∷ []

-- Account a has this cash, and this position in series 0.
abbrev pub given : ℕ → ℤ → Position → State → State
given a cash p s =
    let x = account_at s a in
    with_account a (record { cash = cash; positions = slice_set x.positions 0 p; orders = x.orders; call = x.call }) s

-- A house with the SET50 future and one account, on its first day, and the account with this cash and this position.
abbrev pub cash_house : RuleChoice → ℤ → Position → State
cash_house rule cash p = given 0 cash p (house_after rule first_opening)

-- One lot bought at 83,000: it gains 200 satang for each hundredth of a point.
abbrev pub one_lot : Position
one_lot = record { net = pos 1; carry = pos 83_000 }

-- No lots, and a gain of 2 × 10^17 from fills.
abbrev pub large_gain : Position
large_gain = record { net = pos 0; carry = negsuc 999_999_999_999_999 }

pub record WorkedMoney (rule : RuleChoice) : Type 0 where
  -- a minute is 0 to 1,439, and never below the present one
  pub clock : Runs (house_after rule first_opening)
      (C.Clock 0 gets Granted
      ∷ C.Clock 1_440 gets No 2
      ∷ C.Clock 600 gets Granted
      ∷ C.Clock 599 gets No 4
      ∷ C.Clock 600 gets Granted
      ∷ C.Clock 1_439 gets Granted
      ∷ C.Clock 0 gets No 4
      ∷ [])
  -- a print is of a series that is there, at 1 to 10,000,000
  pub print : Runs (house_after rule first_opening)
      (C.Print 1 0 gets No 1
      ∷ C.Print 0 0 gets No 2
      ∷ C.Print 0 10_000_001 gets No 2
      ∷ C.Print 0 1 gets Granted
      ∷ C.Print 0 10_000_000 gets Granted
      ∷ [])
  -- a deposit is 1 to 10^12, and cash of exactly 10^17 is allowed
  pub deposit_range : Runs (house_after rule first_opening)
      (C.Deposit 1 0 gets No 1
      ∷ C.Deposit 0 0 gets No 2
      ∷ C.Deposit 0 1_000_000_000_001 gets No 2
      ∷ C.Deposit 0 1 gets Granted
      ∷ C.Deposit 0 1_000_000_000_000 gets Granted
      ∷ [])
  pub deposit_limit : Runs (cash_house rule (pos 99_999_000_000_000_000) flat)
      (C.Deposit 0 1_000_000_000_000 gets Granted ∷ C.Deposit 0 1_000_000_000_001 gets No 2 ∷ C.Deposit 0 1 gets No 11 ∷ [])
  -- a withdrawal is 1 to 10^12, and no more than is free
  pub withdrawal_range : Runs (house_after rule (first_opening ++ C.Deposit 0 1_000_000_000_000 ∷ C.Deposit 0 2 ∷ []))
      (C.Withdrawal 1 0 gets No 1
      ∷ C.Withdrawal 0 0 gets No 2
      ∷ C.Withdrawal 0 1_000_000_000_001 gets No 2
      ∷ C.Withdrawal 0 1_000_000_000_000 gets Granted
      ∷ C.Withdrawal 0 1 gets Granted
      ∷ C.Withdrawal 0 1_000_000_000_001 gets No 2
      ∷ C.Withdrawal 0 2 gets No 10
      ∷ C.Withdrawal 0 1 gets Granted
      ∷ C.Withdrawal 0 1 gets No 10
      ∷ [])
  -- of 2,000,000 with two lots held 290,000 is free
  pub withdrawal_free : Runs (house_after rule (first_opening ++ C.Deposit 0 2_000_000 ∷ traded 1 0 (pos 2) 83_000))
      (C.Withdrawal 0 290_001 gets No 10 ∷ C.Withdrawal 0 290_000 gets Granted ∷ [])
  -- an open call comes before what is free, and after the range
  pub withdrawal_call : Runs (house_after rule (with_call [])) (C.Withdrawal 0 0 gets No 2 ∷ C.Withdrawal 0 1 gets No 9 ∷ [])
  -- cash of exactly −10^17 is allowed, and what is free comes before the limit
  pub withdrawal_limit : Runs (cash_house rule (negsuc 99_999_999_999_999_998) large_gain)
      (C.Withdrawal 0 1 gets Granted ∷ C.Withdrawal 0 1 gets No 11 ∷ [])
  pub withdrawal_order : Runs (cash_house rule (negsuc 99_999_999_999_999_999) flat) (C.Withdrawal 0 1 gets No 10 ∷ [])
  -- figures are of an account that is there
  pub figures : Runs (house_after rule [])
      (C.Figures 0 gets No 1
      ∷ C.Account gets Granted
      ∷ C.Figures 0 gets Granted
      ∷ C.Figures 1 gets No 1
      ∷ C.Opening gets Granted
      ∷ C.Figures 0 gets Granted
      ∷ C.Figures 1 gets No 1
      ∷ [])

-- A second account that has an order in a second product, held with number 1, on the first day.
abbrev pub other_order : List Call
other_order =
    C.Product 450_000 112_500 ∷ C.Product 450_000 112_500 ∷ C.Series 1 200 83_000 ∷ C.Account ∷ C.Account ∷ C.Opening
    ∷ C.Deposit 1 855_000 ∷ C.Check 1 0 (pos 1) None ∷ []

pub record WorkedEndingADay (rule : RuleChoice) : Type 0 where
  -- an open order of any account in any product, held or sent, comes first
  pub order_open : Runs (house_after rule other_order)
      (C.Closing [] gets No 7
      ∷ C.Closing (83_000 ∷ []) gets No 7
      ∷ C.Send house_number 1 gets Granted
      ∷ C.Closing (83_000 ∷ []) gets No 7
      ∷ C.Cancel 1 gets Granted
      ∷ C.Closing (83_000 ∷ []) gets Granted
      ∷ [])
  -- then the number of prices, then their range, then the limit of cash, which allows exactly 10^17
  pub closing_order : Runs (cash_house rule (pos 99_999_999_999_999_800) one_lot)
      (C.Closing [] gets No 13
      ∷ C.Closing (0 ∷ 0 ∷ []) gets No 13
      ∷ C.Closing (0 ∷ []) gets No 2
      ∷ C.Closing (10_000_001 ∷ []) gets No 2
      ∷ C.Closing (10_000_000 ∷ []) gets No 11
      ∷ C.Closing (83_002 ∷ []) gets No 11
      ∷ C.Closing (83_001 ∷ []) gets Granted
      ∷ [])
  pub closing_above : Runs (cash_house rule (pos 99_999_999_999_999_801) one_lot)
      (C.Closing (83_001 ∷ []) gets No 11 ∷ C.Closing (83_000 ∷ []) gets Granted ∷ [])
  -- and exactly −10^17
  pub closing_below : Runs (cash_house rule (negsuc 99_999_999_999_999_799) one_lot)
      (C.Closing (82_998 ∷ []) gets No 11 ∷ C.Closing (82_999 ∷ []) gets Granted ∷ [])
  pub closing_further_below : Runs (cash_house rule (negsuc 99_999_999_999_999_800) one_lot)
      (C.Closing (82_999 ∷ []) gets No 11 ∷ C.Closing (83_000 ∷ []) gets Granted ∷ [])
  -- of every account
  pub closing_other : Runs (given 1 (pos 99_999_999_999_999_800) one_lot (house_after rule (other_order ++ C.Drop house_number 1 ∷ [])))
      (C.Closing (83_002 ∷ []) gets No 11 ∷ C.Closing (83_001 ∷ []) gets Granted ∷ [])
  -- a settlement price is 1 to 10,000,000
  pub closing_prices : Runs (house_after rule first_opening)
      (C.Closing (10_000_000 ∷ []) gets Granted ∷ C.Opening gets Granted ∷ C.Closing (1 ∷ []) gets Granted ∷ [])
  -- without series there is no price to give
  pub no_series : Runs (house_after rule (C.Opening ∷ [])) (C.Closing (1 ∷ []) gets No 13 ∷ C.Closing [] gets Granted ∷ [])

pub record WorkedForcedRefusals (rule : RuleChoice) : Type 0 where
  -- the account, an open order of it, held or sent, the count of market lots, nothing due, and the sheet, in this order
  pub forced_order : Runs (house_after rule (with_call []))
      (C.ForcedList 1 [] 0 gets No 1
      ∷ C.Check 0 0 (negsuc 0) None gets Granted
      ∷ C.ForcedList 0 [] 0 gets No 7
      ∷ C.ForcedList 0 (2 ∷ []) 1 gets No 7
      ∷ C.Send house_number 1 gets Granted
      ∷ C.ForcedList 0 (2 ∷ []) 1 gets No 7
      ∷ C.Cancel 1 gets Granted
      ∷ C.ForcedList 0 [] 0 gets No 13
      ∷ C.ForcedList 0 (2 ∷ 2 ∷ []) 0 gets No 13
      ∷ C.ForcedList 0 (2 ∷ []) 0 gets No 14
      ∷ C.Clock 955 gets Granted
      ∷ C.ForcedList 0 (2 ∷ 2 ∷ []) 0 gets No 13
      ∷ C.ForcedList 0 (2 ∷ []) 0 gets No 15
      ∷ C.ForcedList 0 (2 ∷ []) 1 gets Granted
      ∷ [])
  -- an order of another account does not count
  pub other_account : Runs (house_after rule (first_day 2_000_000 80_800 ++ C.Account ∷ C.Opening ∷ []))
      (C.Deposit 1 855_000 gets Granted
      ∷ C.Check 1 0 (pos 1) None gets Granted
      ∷ C.Clock 955 gets Granted
      ∷ C.ForcedList 0 (2 ∷ []) 1 gets Granted
      ∷ C.ForcedList 1 (2 ∷ []) 1 gets No 7
      ∷ [])

-- Refused calls on the day after a call, with an order of number 1 held.
abbrev pub refused_calls : List Judged
refused_calls =
    C.Print 1 1 gets No 1
    ∷ C.Deposit 0 0 gets No 2
    ∷ C.Clock 99 gets No 4
    ∷ C.Check 0 0 (negsuc 0) (Some 0) gets No 5
    ∷ C.Check 0 0 (pos 999) None gets No 6
    ∷ C.Check 0 0 (negsuc 0) None gets No 7
    ∷ C.Withdrawal 0 1 gets No 9
    ∷ C.Send 8 1 gets No 12
    ∷ C.Drop house_number 2 gets No 12
    ∷ C.Fill 1 83_000 None gets No 12
    ∷ C.Cancel 1 gets No 12
    ∷ C.Closing (80_800 ∷ []) gets No 7
    ∷ C.ForcedList 0 (2 ∷ []) 1 gets No 7
    ∷ C.Opening gets Absent
    ∷ []

abbrev pub with_held_order : RuleChoice → State
with_held_order rule = house_after rule (with_call (C.Clock 100 ∷ C.Check 0 0 (negsuc 0) None ∷ []))

abbrev pub after_refusals : RuleChoice → State
after_refusals rule = after (with_held_order rule) (map (λ j. j.call) refused_calls)

-- The account with its order, as it stood before the refused calls.
abbrev pub holding_order : Account
holding_order = record {
  cash = pos 1_120_000;
  positions = record { net = pos 2; carry = pos 161_600 } ∷ replicate 23 flat;
  orders = Some (record { number = 1; stage = Held; trade = alone 0 (negsuc 0) }) ∷ replicate 7 None;
  call = open_call 590_000 0 1 false;
}

pub record WorkedStates (rule : RuleChoice) : Type 0 where
  -- a refused call leaves the house as it is, and so does one that does not exist now
  pub refused : Runs (with_held_order rule) refused_calls
  pub accounts_stay : (after_refusals rule).accounts ≡ holding_order ∷ []
  pub prices_stay : (after_refusals rule).market.series ≡ record { product = 0; multiplier = 200; quote = settled 80_800 } ∷ []
  pub day_stays : (after_refusals rule).phase ≡ Trading 100 (record { account = 0; product = 0 } ∷ [])
  -- calls that a closed house does not have
  pub closed : Runs (house_after rule (first_day 2_000_000 80_800))
      (C.Clock 0 gets Absent
      ∷ C.Print 0 1 gets Absent
      ∷ C.Deposit 0 1 gets Absent
      ∷ C.Withdrawal 0 1 gets Absent
      ∷ C.Check 0 0 (negsuc 0) None gets Absent
      ∷ C.Send house_number 1 gets Absent
      ∷ C.Drop house_number 1 gets Absent
      ∷ C.Fill 1 83_000 None gets Absent
      ∷ C.Cancel 1 gets Absent
      ∷ C.Closing (83_000 ∷ []) gets Absent
      ∷ C.ForcedList 0 (2 ∷ []) 1 gets Absent
      ∷ [])
  -- calls that a trading house does not have
  pub trading : Runs (house_after rule first_opening)
      (C.Product 1 1 gets Absent
      ∷ C.Rates 0 1 1 gets Absent
      ∷ C.Series 0 1 1 gets Absent
      ∷ C.Account gets Absent
      ∷ C.Opening gets Absent
      ∷ [])
