-- Closing: what it answers, and what it leaves.
use Rattle.std.specs.Prelude.{ℕ, Bool, true, not, ◌&&◌, List, [], ◌∷◌, map, length, pos, ◌*ℤ◌, ◌==◌}
use Rattle.book.specs.declared.account.Account.{Account}
use Rattle.book.specs.declared.account.Position.{Position}
use Rattle.book.specs.declared.market.Series.{Series}
use Rattle.book.specs.declared.refusal.Refusal.TheVariants.{OutOfRange, OrderOpen, CashLimit, WrongCount}
use Rattle.book.specs.Answer.{Done}
use Rattle.book.specs.Prices.{price_in_range, mark, settle_prices}
use Rattle.book.specs.Market.{Market}
use Rattle.book.specs.Equity.{equity}
use Rattle.book.specs.Requirements.{requirements}
use Rattle.book.specs.Orders.{any_open}
use Rattle.book.specs.MarginCalls.{call_at_closing}
use Rattle.book.specs.House.{State, Closed, cash_fits, with_series, with_accounts, with_phase}
use Rattle.book.specs.ClosedCalls.{Outcome, require}

abbrev pub all : {A : Type 0} → (A → Bool) → List A → Bool
all p [] = true
all p (x ∷ xs) = p x && all p xs

-- A settled position's carry is net lots × its settlement price.
abbrev pub settle_positions : List Series → List Position → List Position
settle_positions [] ps = ps
settle_positions (s ∷ ss) [] = []
settle_positions (s ∷ ss) (p ∷ ps) =
    record { net = p.net; carry = p.net *ℤ pos (mark s.quote) } ∷ settle_positions ss ps

-- At the settlement prices cash becomes EB, each carry becomes net lots × price, and a margin call is judged.
abbrev pub settle_account : Market → Account → Account
settle_account m x = record {
  cash = equity m x;
  positions = settle_positions m.series x.positions;
  orders = x.orders;
  call = call_at_closing (equity m x) (requirements m x.positions) x.call;
}

-- Closing settles every account at one price for each series, and closes the house.
abbrev pub close_house : State → List ℕ → Outcome
close_house s prices =
    let after = with_series (settle_prices prices s.market.series) s in
    let m = after.market in
    require s (all (λ x. not (any_open x.orders)) s.accounts) OrderOpen
    (require s (length prices == length s.market.series) WrongCount
    (require s (all price_in_range prices) OutOfRange
    (require s (all (λ x. cash_fits (equity m x)) s.accounts) CashLimit
    (Done, with_phase Closed (with_accounts (map (settle_account m) s.accounts) after)))))
