-- The calls on a house, with their arguments.
use Rattle.std.specs.Prelude.{ℕ, List, ℤ, Option}

pub data Call : Type 0 where
  -- outright and spread risk margin
  Product : ℕ → ℕ → Call
  -- product, outright and spread risk margin
  Rates : ℕ → ℕ → ℕ → Call
  -- product, multiplier, settlement price
  Series : ℕ → ℕ → ℕ → Call
  Account : Call
  Opening : Call
  -- minute of the day
  Clock : ℕ → Call
  -- series, price
  Print : ℕ → ℕ → Call
  -- account, amount
  Deposit : ℕ → ℕ → Call
  Withdrawal : ℕ → ℕ → Call
  -- account, series, signed lots, second series
  Check : ℕ → ℕ → ℤ → Option ℕ → Call
  -- a ticket's house number and order number
  Send : ℕ → ℕ → Call
  Drop : ℕ → ℕ → Call
  -- order number, a price for each leg
  Fill : ℕ → ℕ → Option ℕ → Call
  -- order number
  Cancel : ℕ → Call
  -- one settlement price for each series, in order
  Closing : List ℕ → Call
  -- account
  Figures : ℕ → Call
  -- account, the lots that the market takes in each series, the lines that the sheet takes
  ForcedList : ℕ → List ℕ → ℕ → Call
