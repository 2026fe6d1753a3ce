-- What every call answers and leaves, in either state of the house.
use Rattle.std.specs.Prelude.{ℕ, List, [], ◌∷◌}
use Rattle.book.specs.declared.account.Placement.{Placement}
use Rattle.book.specs.Answer.{Answer, NotNow}
use Rattle.book.specs.Call as C
use Rattle.book.specs.Call.{Call}
use Rattle.book.specs.House.{State, Phase, Closed, Trading}
use Rattle.book.specs.ClosedCalls.{Outcome, enter_product, set_rates, enter_series, enter_account, open_house}
use Rattle.book.specs.TradingCalls.{set_clock, print_price, deposit, withdraw, check_order, send_order, drop_order, fill_order, cancel_order, tell_figures, tell_forced_list}
use Rattle.book.specs.Closing.{close_house}

-- A call that does not exist in the present state of the house changes nothing.
abbrev pub not_now : State → Outcome
not_now s = (NotNow, s)

abbrev pub on_closed : State → Call → Outcome
on_closed s (C.Product outright spread) = enter_product s outright spread
on_closed s (C.Rates q outright spread) = set_rates s q outright spread
on_closed s (C.Series q multiplier price) = enter_series s q multiplier price
on_closed s C.Account = enter_account s
on_closed s C.Opening = open_house s
on_closed s (C.Clock minute) = not_now s
on_closed s (C.Print i price) = not_now s
on_closed s (C.Deposit a n) = not_now s
on_closed s (C.Withdrawal a n) = not_now s
on_closed s (C.Check a i lots second) = not_now s
on_closed s (C.Send house n) = not_now s
on_closed s (C.Drop house n) = not_now s
on_closed s (C.Fill n price second_price) = not_now s
on_closed s (C.Cancel n) = not_now s
on_closed s (C.Closing prices) = not_now s
on_closed s (C.Figures a) = tell_figures s a
on_closed s (C.ForcedList a takes sheet) = not_now s

abbrev pub on_trading : State → ℕ → List Placement → Call → Outcome
on_trading s minute placed (C.Product outright spread) = not_now s
on_trading s minute placed (C.Rates q outright spread) = not_now s
on_trading s minute placed (C.Series q multiplier price) = not_now s
on_trading s minute placed C.Account = not_now s
on_trading s minute placed C.Opening = not_now s
on_trading s minute placed (C.Clock to) = set_clock s minute placed to
on_trading s minute placed (C.Print i price) = print_price s i price
on_trading s minute placed (C.Deposit a n) = deposit s a n
on_trading s minute placed (C.Withdrawal a n) = withdraw s a n
on_trading s minute placed (C.Check a i lots second) = check_order s minute placed a i lots second
on_trading s minute placed (C.Send house n) = send_order s placed house n
on_trading s minute placed (C.Drop house n) = drop_order s placed house n
on_trading s minute placed (C.Fill n price second_price) = fill_order s placed n price second_price
on_trading s minute placed (C.Cancel n) = cancel_order s placed n
on_trading s minute placed (C.Closing prices) = close_house s prices
on_trading s minute placed (C.Figures a) = tell_figures s a
on_trading s minute placed (C.ForcedList a takes sheet) = tell_forced_list s minute a takes sheet

abbrev pub in_phase : Phase → State → Call → Outcome
in_phase Closed s c = on_closed s c
in_phase (Trading minute placed) s c = on_trading s minute placed c

-- One call: its answer, and the house after it.
abbrev pub step : State → Call → Outcome
step s c = in_phase s.phase s c

-- The house after a list of calls.
abbrev pub after : State → List Call → State
after s [] = s
after s (c ∷ cs) = after (step s c).1 cs

-- The answers to a list of calls.
abbrev pub answers : State → List Call → List Answer
answers s [] = []
answers s (c ∷ cs) = (step s c).0 ∷ answers (step s c).1 cs
