-- How worked cases are stated: calls on a house, how each goes, and what they leave.
use Rattle.std.specs.Prelude.{◌≡◌, ℕ, Bool, List, [], ◌∷◌, ◌++◌, map, ℤ, pos, Some, None, Option}
use Rattle.rules.specs.declared.rule.RuleChoice.{RuleChoice}
use Rattle.rules.specs.Rules.{chosen}
use Rattle.book.specs.declared.account.Account.{Account}
use Rattle.book.specs.declared.account.MarginCall.{MarginCall}
use Rattle.book.specs.declared.account.Trade.{Trade}
use Rattle.book.specs.Refusals.{number_of}
use Rattle.book.specs.Answer.{Answer, Done, Entered, Ordered, Told, Listed, Refused, NotNow}
use Rattle.book.specs.Call as C
use Rattle.book.specs.Call.{Call}
use Rattle.book.specs.Equity.{equity}
use Rattle.book.specs.Orders.{free}
use Rattle.book.specs.House.{State, set_up, account_at}
use Rattle.book.specs.Step.{step, after, answers}

-- A call is granted, or refused with a number, or does not exist in the house's present state.
pub data Verdict : Type 0 where
  Granted : Verdict
  No : ℕ → Verdict
  Absent : Verdict

abbrev pub verdict : Answer → Verdict
verdict Done = Granted
verdict (Entered n) = Granted
verdict (Ordered n) = Granted
verdict (Told f) = Granted
verdict (Listed ls) = Granted
verdict (Refused r) = No (number_of r)
verdict NotNow = Absent

-- A call, and how it goes.
pub record Judged : Type 0 where
  pub call : Call
  pub goes : Verdict

infix 68 ◌gets◌
abbrev pub ◌gets◌ : Call → Verdict → Judged
c gets v = record { call = c; goes = v }

-- On this house the calls, one after another, go as is said beside each.
abbrev pub Runs : State → List Judged → Type 0
Runs s js = map verdict (answers s (map (λ j. j.call) js)) ≡ map (λ j. j.goes) js

abbrev pub house_number : ℕ
house_number = 7

-- A new house on which these calls are made.
abbrev pub house_after : RuleChoice → List Call → State
house_after rule cs = after (set_up house_number (chosen rule)) cs

-- The answer to a call after these calls.
abbrev pub answer_after : RuleChoice → List Call → Call → Answer
answer_after rule cs c = (step (house_after rule cs) c).0

-- Account 0 after these calls, with its open call, its equity balance and what is free.
abbrev pub account_after : RuleChoice → List Call → Account
account_after rule cs = account_at (house_after rule cs) 0

abbrev pub call_after : RuleChoice → List Call → Option MarginCall
call_after rule cs = (account_after rule cs).call

abbrev pub equity_after : RuleChoice → List Call → ℤ
equity_after rule cs = equity (house_after rule cs).market (account_after rule cs)

abbrev pub free_after : RuleChoice → List Call → ℤ
free_after rule cs = free (house_after rule cs).market (account_after rule cs)

-- An open call by its amount, credit and age, and whether it is low.
abbrev pub open_call : ℕ → ℕ → ℕ → Bool → Option MarginCall
open_call amount credit age low = Some (record { amount = amount; credit = credit; age = age; low = low })

-- Lots of a series alone, and with the opposite lots of a second one.
abbrev pub alone : ℕ → ℤ → Trade
alone i lots = record { series = i; lots = lots; second = None }

abbrev pub paired : ℕ → ℤ → ℕ → Trade
paired i lots j = record { series = i; lots = lots; second = Some j }

-- The day's order n: account 0 trades these lots of a series, filled at a price.
abbrev pub traded : ℕ → ℕ → ℤ → ℕ → List Call
traded n i lots price = C.Check 0 i lots None ∷ C.Send house_number n ∷ C.Fill n price None ∷ []

-- The SET50 future: multiplier 200, risk margins 450,000 and 112,500; one account, and the first day opened.
abbrev pub first_opening : List Call
first_opening = C.Product 450_000 112_500 ∷ C.Series 0 200 83_000 ∷ C.Account ∷ C.Opening ∷ []

-- A deposit, two lots bought at 83,000, and a settlement price.
abbrev pub first_day : ℕ → ℕ → List Call
first_day deposit price =
    first_opening ++ C.Deposit 0 deposit ∷ traded 1 0 (pos 2) 83_000 ++ C.Closing (price ∷ []) ∷ []

-- The same, and the next day opened.
abbrev pub second_day : ℕ → ℕ → List Call
second_day deposit price = first_day deposit price ++ C.Opening ∷ []

-- The day after the call of 590,000, which is not low, with further calls.
abbrev pub with_call : List Call → List Call
with_call cs = second_day 2_000_000 80_800 ++ cs

-- The day after the low call of 1,230,000, with equity of 480,000 and further calls.
abbrev pub with_low_call : List Call → List Call
with_low_call cs = second_day 2_000_000 79_200 ++ cs
