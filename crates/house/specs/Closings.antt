-- What Closing tests over all accounts.
use Rattle.std.specs.Prelude.{◌≡◌, ℕ, ◌<◌, Bool, true, not, List, length, get_or, Ok, Err, Result, slice_index_or}
use Rattle.rules.specs.Laws.{Rule}
use Rattle.account.specs.Bounds.{SmallNets}
use Rattle.book.specs.declared.account.Account.{Account}
use Rattle.book.specs.declared.refusal.Refusal.{Refusal}
use Rattle.book.specs.Closing.{all}
use Rattle.book.specs.Equity.{equity}
use Rattle.book.specs.House.{State, cash_fits}
use Rattle.book.specs.Market.{Market}
use Rattle.book.specs.Orders.{any_open}
use Rattle.house.specs.declared.house.House.{House}
use Rattle.house.specs.View.{closed, trading}

-- No account has an open order.
abbrev pub none_open : List Account → Bool
none_open xs = all (λ x. not (any_open x.orders)) xs

-- Every account's equity balance may be cash.
abbrev pub cash_fits_at : Market → List Account → Bool
cash_fits_at m xs = all (λ x. cash_fits (equity m x)) xs

-- Every account can be settled.
abbrev pub Settleable : Market → List Account → Type 0
Settleable m xs =
    (k : ℕ) (d : Account) → k < length xs → SmallNets (get_or xs k d).positions × (cash_fits (equity m (slice_index_or xs k d)) ≡ true)

-- A granted Closing leaves a closed house, a refused one the trading house.
abbrev pub after_closing : {R : Type 0} → (R → Rule) → Result (Unit {0}) Refusal → House R → State
after_closing meaning (Ok x) h = closed meaning h
after_closing meaning (Err r) h = trading meaning h
