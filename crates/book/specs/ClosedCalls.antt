-- The calls on a closed house: what each answers, and what it leaves.
use Rattle.std.specs.Prelude.{ℕ, Bool, cond, ◌&&◌, [], ◌∷◌, ◌++◌, map, length, nat_lt, slice_set}
use Rattle.rules.specs.declared.levels.RiskMargins.{RiskMargins}
use Rattle.rules.specs.PerLot.{fits}
use Rattle.book.specs.declared.account.Account.{Account}
use Rattle.book.specs.declared.market.Series.{Series}
use Rattle.book.specs.declared.refusal.Refusal.{Refusal}
use Rattle.book.specs.declared.refusal.Refusal.TheVariants.{Unknown, OutOfRange, Full}
use Rattle.book.specs.Answer.{Answer, Done, Entered, Refused}
use Rattle.book.specs.Prices.{price_in_range, multiplier_in_range, settled, open_prices}
use Rattle.book.specs.MarginCalls.{call_at_opening}
use Rattle.book.specs.House.{State, Trading, has_product, new_account, with_products, with_series, with_accounts, with_phase}

-- What a call answers, and the house after it.
abbrev pub Outcome : Type 0
Outcome = Answer × State

-- A check that must pass; where it does not, its refusal is the answer and the house stays as it is.
abbrev pub require : State → Bool → Refusal → Outcome → Outcome
require s passes r next = cond passes next (Refused r, s)

-- Product enters a product with its risk margins.
abbrev pub enter_product : State → ℕ → ℕ → Outcome
enter_product s outright spread =
    let margins : RiskMargins = record { outright = outright; spread = spread } in
    let entered = s.market.products in
    require s (fits margins) OutOfRange
    (require s (nat_lt (length entered) 8) Full
    (Entered (length entered), with_products (entered ++ margins ∷ []) s))

-- Rates replaces both risk margins of a product.
abbrev pub set_rates : State → ℕ → ℕ → ℕ → Outcome
set_rates s q outright spread =
    let margins : RiskMargins = record { outright = outright; spread = spread } in
    require s (has_product s q) Unknown
    (require s (fits margins) OutOfRange
    (Done, with_products (slice_set s.market.products q margins) s))

-- Series enters a series of a product with its multiplier and its settlement price.
abbrev pub enter_series : State → ℕ → ℕ → ℕ → Outcome
enter_series s q multiplier price =
    let new : Series = record { product = q; multiplier = multiplier; quote = settled price } in
    let entered = s.market.series in
    require s (has_product s q) Unknown
    (require s (multiplier_in_range multiplier && price_in_range price) OutOfRange
    (require s (nat_lt (length entered) 24) Full
    (Entered (length entered), with_series (entered ++ new ∷ []) s)))

-- Account enters an account.
abbrev pub enter_account : State → Outcome
enter_account s =
    require s (nat_lt (length s.accounts) 32) Full
    (Entered (length s.accounts), with_accounts (s.accounts ++ new_account ∷ []) s)

abbrev pub opened_account : Account → Account
opened_account x = record { cash = x.cash; positions = x.positions; orders = x.orders; call = call_at_opening x.call }

-- Opening begins a day: minute 0, no prints, order numbers from 1, and each open call a day older.
abbrev pub open_house : State → Outcome
open_house s =
    (Done, with_phase (Trading 0 []) (with_series (open_prices s.market.series) (with_accounts (map opened_account s.accounts) s)))
