-- Orders and their places.
use Rattle.std.specs.Prelude.{◌≡◌, ℕ, suc, ◌<◌, List, [], ◌∷◌, ◌++◌, length, Some, None, Option}
use Rattle.book.specs.declared.account.Order.{Order}
use Rattle.book.specs.declared.account.Placement.{Placement}
use Rattle.book.specs.declared.account.Stage.TheVariants.{Held}
use Rattle.book.specs.declared.account.Trade.{Trade}
use Rattle.book.specs.House.{State, Trading, account_at, with_account, with_phase}
use Rattle.book.specs.TradingCalls.{Found, order_in, with_order}

-- What a house is left with when an order is held.
abbrev pub held : State → ℕ → List Placement → Placement → Trade → State
held s minute placed place t =
    let order : Order = record { number = suc (length placed); stage = Held; trade = t } in
    let before = account_at s place.account in
    with_phase (Trading minute (placed ++ place ∷ [])) (with_account place.account (with_order place.product (Some order) before) s)

abbrev pub as_found : Option (Placement × Order) → Option Found
as_found None = None
as_found (Some (p, o)) = Some (record { place = p; order = o })

-- A place of one of n accounts.
pub record Within (n : ℕ) (p : Placement) : Type 0 where
  pub account : p.account < n
  pub product : p.product < 8

-- An order stands at its place.
pub record StandsAt (s : State) (p : Placement) (o : Order) : Type 0 where
  pub there : Within (length s.accounts) p
  pub order : order_in (account_at s p.account) p.product ≡ Some o
