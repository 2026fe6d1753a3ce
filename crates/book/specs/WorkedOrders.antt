-- Worked cases of orders: the refusals of Check in their order, tickets, fills, and what open orders need.
use Rattle.std.specs.Prelude.{◌≡◌, ℕ, List, [], ◌∷◌, ◌++◌, take, replicate, pos, negsuc, Some, None}
use Rattle.rules.specs.declared.rule.RuleChoice.{RuleChoice}
use Rattle.rules.specs.declared.rule.RuleChoice.TheVariants.{Gross, LargerSide, Pairs}
use Rattle.rules.specs.Laws.{Rule}
use Rattle.rules.specs.Rules.{times}
use Rattle.book.specs.declared.account.Account.{Account}
use Rattle.book.specs.declared.refusal.Refusal.TheVariants.{OrderOpen, OrderNumbersUsed}
use Rattle.book.specs.Answer.{Done, Ordered, Told, Refused}
use Rattle.book.specs.Call as C
use Rattle.book.specs.Call.{Call}
use Rattle.book.specs.Market.{flat}
use Rattle.book.specs.Requirements.{requirements}
use Rattle.book.specs.House.{State, Trading, set_up, account_at, with_phase}
use Rattle.book.specs.Step.{after, answers}
use Rattle.book.specs.WorkedRuns.{Granted, No, ◌gets◌, Runs, house_number, house_after, answer_after, account_after, free_after, traded, first_opening, second_day, with_call}

-- Two products of the SET50 margins, two series of the first and one of the second, two accounts, and the first day opened.
abbrev pub three_series : List Call
three_series =
    C.Product 450_000 112_500 ∷ C.Product 450_000 112_500 ∷ C.Series 0 200 83_000 ∷ C.Series 0 200 83_000 ∷ C.Series 1 200 83_000
    ∷ C.Account ∷ C.Account ∷ C.Opening ∷ []

-- Both accounts with large deposits, and account 0 short of 1,000 lots of series 1 by the day's order 1.
abbrev pub at_the_limit : List Call
at_the_limit =
    three_series ++ C.Deposit 0 1_000_000_000_000 ∷ C.Deposit 1 1_000_000_000_000 ∷ traded 1 1 (negsuc 999) 83_000

-- A house on a day on which so many order numbers are used.
abbrev pub numbers_used : ℕ → State → State
numbers_used n s = with_phase (Trading 0 (replicate n (record { account = 1; product = 1 }))) s

-- Two lots of one series held, with an open call, and a second series of the same product.
abbrev pub two_held : List Call
two_held =
    C.Product 450_000 112_500 ∷ C.Series 0 200 83_000 ∷ C.Series 0 200 83_000 ∷ C.Account ∷ C.Opening ∷ C.Deposit 0 2_000_000
    ∷ traded 1 0 (pos 2) 83_000 ++ C.Closing (80_800 ∷ 80_800 ∷ []) ∷ C.Opening ∷ []

-- A lot sold of the other series while a call is open.
abbrev pub opposite_lot : Call
opposite_lot = C.Check 0 1 (negsuc 0) None

pub record WorkedCheck (rule : RuleChoice) : Type 0 where
  -- account and series, the second one too, come first
  pub unknown : Runs (house_after rule at_the_limit)
      (C.Check 2 0 (pos 0) None gets No 1
      ∷ C.Check 0 3 (pos 0) None gets No 1
      ∷ C.Check 0 0 (pos 0) (Some 3) gets No 1
      ∷ C.Check 2 0 (pos 1) None gets No 1
      ∷ [])
  -- then lots, 1 to 1,000 bought or sold
  pub lots_range : Runs (house_after rule at_the_limit)
      (C.Check 0 0 (pos 0) (Some 0) gets No 2
      ∷ C.Check 0 0 (pos 1_001) (Some 0) gets No 2
      ∷ C.Check 0 0 (negsuc 1_000) (Some 0) gets No 2
      ∷ C.Check 0 0 (pos 1_000) None gets Granted
      ∷ C.Drop house_number 2 gets Granted
      ∷ C.Check 0 0 (negsuc 999) None gets Granted
      ∷ C.Drop house_number 3 gets Granted
      ∷ C.Check 0 0 (pos 1) None gets Granted
      ∷ C.Drop house_number 4 gets Granted
      ∷ C.Check 0 0 (negsuc 0) None gets Granted
      ∷ [])
  -- then a second series, which is another one of the same product
  pub second_series : Runs (house_after rule at_the_limit)
      (C.Check 0 1 (negsuc 0) (Some 1) gets No 5
      ∷ C.Check 0 1 (negsuc 0) (Some 2) gets No 5
      ∷ [])
  -- then the net lots of both legs, at most 1,000 in size
  pub position_limit : Runs (house_after rule at_the_limit)
      (C.Check 0 1 (negsuc 0) None gets No 6
      ∷ C.Check 0 1 (negsuc 0) (Some 0) gets No 6
      ∷ C.Check 0 0 (pos 1) (Some 1) gets No 6
      ∷ C.Check 0 0 (negsuc 0) (Some 1) gets Granted
      ∷ C.Drop house_number 2 gets Granted
      ∷ C.Check 0 1 (pos 1_000) (Some 0) gets Granted
      ∷ [])
  -- then an open order, held or sent, of the account in this product
  pub order_open : Runs (house_after rule at_the_limit)
      (C.Check 0 0 (pos 1) None gets Granted
      ∷ C.Check 0 1 (negsuc 0) None gets No 6
      ∷ C.Check 0 1 (pos 1) None gets No 7
      ∷ C.Check 1 0 (pos 1) None gets Granted
      ∷ C.Check 0 2 (pos 1) None gets Granted
      ∷ C.Send house_number 2 gets Granted
      ∷ C.Check 0 1 (pos 1) None gets No 7
      ∷ C.Fill 2 83_000 None gets Granted
      ∷ C.Check 0 1 (pos 1) None gets Granted
      ∷ [])
  -- then the day's order numbers, of which 9,999 is the last
  pub numbers_end : answers (numbers_used 9_998 (house_after rule at_the_limit))
      (C.Check 0 0 (pos 1) None ∷ C.Check 0 0 (pos 1) None ∷ C.Check 0 2 (pos 1) None ∷ C.Send house_number 9_999 ∷ [])
      ≡ Ordered 9_999 ∷ Refused OrderOpen ∷ Refused OrderNumbersUsed ∷ Done ∷ []
  -- then an open call, and last what is free
  pub numbers_before_call : Runs (numbers_used 9_999 (house_after rule (with_call []))) (C.Check 0 0 (pos 1) None gets No 8 ∷ [])
  pub call_before_free : Runs (house_after rule (with_call [])) (C.Check 0 0 (pos 1) None gets No 9 ∷ [])
  pub call_at_high_equity : Runs (house_after rule (with_call (C.Print 0 90_000 ∷ []))) (C.Check 0 0 (pos 1) None gets No 9 ∷ [])
  pub sale_under_call : Runs (house_after rule (with_call [])) (C.Check 0 0 (negsuc 0) None gets Granted ∷ [])
  -- a need equal to what is free is granted, one satang more is refused
  pub need_free : Runs (house_after rule (first_opening ++ C.Deposit 0 1_710_000 ∷ [])) (C.Check 0 0 (pos 2) None gets Granted ∷ [])
  pub need_above_free : Runs (house_after rule (first_opening ++ C.Deposit 0 1_709_999 ∷ [])) (C.Check 0 0 (pos 2) None gets No 10 ∷ [])
  -- with free below 0 and no call, an order without need is granted
  pub no_need : Runs (house_after rule (second_day 2_077_000 80_800))
      (C.Check 0 0 (pos 1) None gets No 10 ∷ C.Check 0 0 (negsuc 0) None gets Granted ∷ [])

-- Under an open call a lot on the other side is granted only where it lowers IMR; an unchanged IMR is refused too.
pub record WorkedOppositeLot : Type 0 where
  pub raises : Runs (house_after Gross two_held) (opposite_lot gets No 9 ∷ [])
  pub leaves : Runs (house_after LargerSide two_held) (opposite_lot gets No 9 ∷ [])
  pub lowers : Runs (house_after Pairs two_held) (opposite_lot gets Granted ∷ [])

-- The first day with an order for one lot held, of number 1; and with a pair sent.
abbrev pub one_held : List Call
one_held = three_series ++ C.Deposit 0 10_000_000 ∷ C.Check 0 0 (pos 1) None ∷ []

abbrev pub pair_sent : List Call
pair_sent = three_series ++ C.Deposit 0 10_000_000 ∷ C.Check 0 0 (pos 1) (Some 1) ∷ C.Send house_number 1 ∷ []

-- An account with nothing but 10,000,000.
abbrev pub cash_only : Account
cash_only = record { cash = pos 10_000_000; positions = replicate 24 flat; orders = replicate 8 None; call = None }

pub record WorkedOrders (rule : RuleChoice) : Type 0 where
  -- a ticket is of this house and of a held order, and is spent once; only a sent order fills, once
  pub one_order : Runs (house_after rule one_held)
      (C.Send 8 1 gets No 12
      ∷ C.Drop 8 1 gets No 12
      ∷ C.Send house_number 0 gets No 12
      ∷ C.Send house_number 2 gets No 12
      ∷ C.Drop house_number 2 gets No 12
      ∷ C.Fill 1 0 (Some 0) gets No 12
      ∷ C.Fill 1 83_000 None gets No 12
      ∷ C.Cancel 1 gets No 12
      ∷ C.Send house_number 1 gets Granted
      ∷ C.Send house_number 1 gets No 12
      ∷ C.Drop house_number 1 gets No 12
      ∷ C.Fill 0 83_000 None gets No 12
      ∷ C.Fill 2 83_000 None gets No 12
      ∷ C.Cancel 2 gets No 12
      ∷ C.Fill 1 0 (Some 0) gets No 13
      ∷ C.Fill 1 0 None gets No 2
      ∷ C.Fill 1 10_000_001 None gets No 2
      ∷ C.Fill 1 10_000_000 None gets Granted
      ∷ C.Fill 1 10_000_000 None gets No 12
      ∷ C.Cancel 1 gets No 12
      ∷ [])
  -- a pair fills at two prices, each 1 to 10,000,000
  pub two_legs : Runs (house_after rule pair_sent)
      (C.Fill 1 0 None gets No 13
      ∷ C.Fill 1 0 (Some 1) gets No 2
      ∷ C.Fill 1 1 (Some 0) gets No 2
      ∷ C.Fill 1 1 (Some 10_000_001) gets No 2
      ∷ C.Fill 1 1 (Some 10_000_000) gets Granted
      ∷ [])
  pub two_positions : take 3 (account_after rule (pair_sent ++ C.Fill 1 83_000 (Some 82_000) ∷ [])).positions
      ≡ record { net = pos 1; carry = pos 83_000 } ∷ record { net = negsuc 0; carry = negsuc 81_999 } ∷ record { net = pos 0; carry = pos 0 } ∷ []
  -- an order that was dropped or cancelled has ended
  pub dropped : Runs (house_after rule one_held)
      (C.Drop house_number 1 gets Granted ∷ C.Drop house_number 1 gets No 12 ∷ C.Send house_number 1 gets No 12 ∷ [])
  pub cancelled : Runs (house_after rule pair_sent)
      (C.Cancel 1 gets Granted ∷ C.Cancel 1 gets No 12 ∷ C.Fill 1 83_000 (Some 83_000) gets No 12 ∷ [])
  -- and so has its number, although the account has another order in the product
  pub earlier_number : Runs (house_after rule one_held)
      (C.Drop house_number 1 gets Granted
      ∷ C.Check 0 0 (pos 1) None gets Granted
      ∷ C.Send house_number 1 gets No 12
      ∷ C.Send house_number 2 gets Granted
      ∷ C.Fill 1 83_000 None gets No 12
      ∷ C.Cancel 1 gets No 12
      ∷ C.Fill 2 83_000 None gets Granted
      ∷ [])
  -- an order stands whatever else happens in the day
  pub over_time : Runs (house_after rule one_held)
      (C.Clock 600 gets Granted
      ∷ C.Print 0 85_000 gets Granted
      ∷ C.Deposit 0 1 gets Granted
      ∷ C.Send house_number 1 gets Granted
      ∷ C.Clock 700 gets Granted
      ∷ C.Fill 1 83_000 None gets Granted
      ∷ [])
  -- a dropped or cancelled order leaves its account as it was
  pub dropped_leaves : account_after rule (one_held ++ C.Drop house_number 1 ∷ []) ≡ cash_only
  pub cancelled_leaves : account_after rule (pair_sent ++ C.Cancel 1 ∷ []) ≡ cash_only
  -- order numbers count all orders of the day, over all accounts
  pub counted : answers (house_after rule one_held)
      (C.Deposit 1 10_000_000 ∷ C.Check 1 0 (pos 1) None ∷ C.Drop house_number 1 ∷ C.Check 0 0 (pos 1) None ∷ [])
      ≡ Done ∷ Ordered 2 ∷ Done ∷ Ordered 3 ∷ []
  -- and begin again each day, on which no order of an earlier day is known
  pub new_day : Runs (house_after rule (second_day 2_077_000 80_800)) (C.Fill 1 83_000 None gets No 12 ∷ C.Cancel 1 gets No 12 ∷ [])
  pub counted_afresh : answer_after rule (second_day 2_077_000 80_800) (C.Check 0 0 (negsuc 0) None) ≡ Ordered 1

-- Two products of different risk margins with a series each, and an account with 2,000,000.
abbrev pub two_margins : List Call
two_margins =
    C.Product 450_000 112_500 ∷ C.Product 100_000 50_000 ∷ C.Series 0 200 83_000 ∷ C.Series 1 10 50_000 ∷ C.Account ∷ C.Opening
    ∷ C.Deposit 0 2_000_000 ∷ []

-- Account 0 has 1,710,000, what two lots need, and an order for one lot of the first product.
abbrev pub one_needed : List Call
one_needed = three_series ++ C.Deposit 0 1_710_000 ∷ C.Check 0 0 (pos 1) None ∷ []

pub record WorkedNeeds (rule : RuleChoice) : Type 0 where
  -- the needs of open orders, held and sent, in every product are not free
  pub held : free_after rule one_needed ≡ pos 855_000
  pub sent : free_after rule (one_needed ++ C.Send house_number 1 ∷ []) ≡ pos 855_000
  pub two_orders : free_after rule (one_needed ++ C.Check 0 2 (pos 1) None ∷ []) ≡ pos 0
  -- a need that is ended is free again, and one that is filled becomes IMR
  pub dropped : free_after rule (one_needed ++ C.Drop house_number 1 ∷ []) ≡ pos 1_710_000
  pub cancelled : free_after rule (one_needed ++ C.Send house_number 1 ∷ C.Cancel 1 ∷ []) ≡ pos 1_710_000
  pub filled : free_after rule (one_needed ++ C.Send house_number 1 ∷ C.Fill 1 83_000 None ∷ []) ≡ pos 855_000
  -- the next check and the next withdrawal go by what is free
  pub next_check : Runs (house_after rule (one_needed ++ C.Withdrawal 0 1 ∷ []))
      (C.Check 0 2 (pos 1) None gets No 10 ∷ C.Deposit 0 1 gets Granted ∷ C.Check 0 2 (pos 1) None gets Granted ∷ [])
  pub next_withdrawal : Runs (house_after rule one_needed) (C.Withdrawal 0 855_001 gets No 10 ∷ C.Withdrawal 0 855_000 gets Granted ∷ [])
  -- an order that lowers IMR needs nothing
  pub no_need : free_after rule (second_day 2_077_000 80_800 ++ C.Check 0 0 (negsuc 0) None ∷ []) ≡ negsuc 512_999
  -- each product has its own risk margins, and new rates are of one product
  pub first_product : free_after rule (two_margins ++ C.Check 0 0 (pos 1) None ∷ []) ≡ pos 1_145_000
  pub second_product : free_after rule (two_margins ++ C.Check 0 1 (pos 1) None ∷ []) ≡ pos 1_810_000
  pub new_rates : free_after rule (two_margins ++ traded 1 0 (pos 1) 83_000 ++ traded 2 1 (pos 1) 50_000 ++ C.Closing (83_000 ∷ 50_000 ∷ []) ∷ C.Rates 1 200_000 50_000 ∷ [])
      ≡ pos 765_000

-- Two accounts with deposits, of which the second buys a lot and withdraws.
abbrev pub second_trades : List Call
second_trades =
    three_series ++ C.Deposit 0 1_000_000 ∷ C.Deposit 1 2_000_000 ∷ C.Check 1 0 (pos 1) None ∷ C.Send house_number 1
    ∷ C.Fill 1 83_000 None ∷ C.Withdrawal 1 100_000 ∷ []

-- What one account does leaves the other as it is.
pub record WorkedTwoAccounts (rule : RuleChoice) : Type 0 where
  pub first : answer_after rule second_trades (C.Figures 0)
      ≡ Told (record { equity = pos 1_000_000; initial = 0; maintenance = 0; force = 0; free = pos 1_000_000; call = None })
  pub second : answer_after rule second_trades (C.Figures 1)
      ≡ Told (record { equity = pos 1_900_000; initial = 855_000; maintenance = 598_500; force = 256_500; free = pos 1_045_000; call = None })

-- A rule that charges the long lots alone tells the two sides apart.
abbrev pub long_lots_alone : Rule
long_lots_alone outright spread l s = times l outright

-- Under it, an account long of two lots of a series and short of one lot of another.
abbrev pub both_sides : State
both_sides =
    after (set_up house_number long_lots_alone)
    (three_series ++ C.Deposit 0 10_000_000 ∷ traded 1 0 (pos 2) 83_000 ++ traded 2 1 (negsuc 0) 83_000)

-- The lots long are given to a margin rule before the lots short.
pub record WorkedSides : Type 0 where
  pub long_before_short : requirements both_sides.market (account_at both_sides 0).positions ≡ (1_710_000, 1_197_000, 513_000)
