-- What is due on an account with an open margin call.
use Rattle.std.specs.Prelude.{ℕ, Bool, false, ◌&&◌, ◌||◌, ℤ, Some, None, Option, ◌==◌, nat_le}
use Rattle.rules.specs.Laws.{Three}
use Rattle.book.specs.declared.account.Account.{Account}
use Rattle.book.specs.declared.account.MarginCall.{MarginCall}
use Rattle.book.specs.Market.{Market}
use Rattle.book.specs.Equity.{equity}
use Rattle.book.specs.Requirements.{requirements, maintenance, force}
use Rattle.book.specs.MarginCalls.{below}

-- The minutes of the day from which, at age 1, EB ≥ FMR, EB ≥ MMR and the call itself are due.
abbrev pub force_minute : ℕ
force_minute = 645

abbrev pub maintenance_minute : ℕ
maintenance_minute = 690

abbrev pub call_minute : ℕ
call_minute = 955

-- A demand is reached at age 1 from its minute on, and at age 2 at every minute.
abbrev pub reached : MarginCall → ℕ → ℕ → Bool
reached c from minute = nat_le 2 c.age || (c.age == 1 && nat_le from minute)

-- An open call is due from 955 on; on a low call EB ≥ FMR is due from 645 on and EB ≥ MMR from 690 on; at age 2 all are due at every minute.
unfoldable pub call_due : MarginCall → ℕ → ℤ → Three → Bool
call_due c minute eb levels =
    reached c call_minute minute
    || (c.low && ((reached c force_minute minute && below eb (force levels)) || (reached c maintenance_minute minute && below eb (maintenance levels))))

-- Something is due only on an account with an open call.
abbrev pub due : Option MarginCall → ℕ → ℤ → Three → Bool
due None minute eb levels = false
due (Some c) minute eb levels = call_due c minute eb levels

-- Something is due on the account at this minute.
abbrev pub due_on : Market → ℕ → Account → Bool
due_on m minute x = due x.call minute (equity m x) (requirements m x.positions)
