-- The state of a house.
use Rattle.std.specs.Prelude.{ℕ, Bool, List, [], length, replicate, ℤ, pos, None, nat_le, nat_lt, slice_index_or, slice_set, unsigned_abs}
use Rattle.rules.specs.declared.levels.RiskMargins.{RiskMargins}
use Rattle.rules.specs.Laws.{Rule}
use Rattle.book.specs.declared.account.Account.{Account}
use Rattle.book.specs.declared.account.Placement.{Placement}
use Rattle.book.specs.declared.market.Series.{Series}
use Rattle.book.specs.Market.{Market, flat}

-- A house is closed, or trading at a minute of the day with the orders placed today, in the order of their numbers from 1.
pub data Phase : Type 0 where
  Closed : Phase
  Trading : ℕ → List Placement → Phase

pub record State : Type 0 where
  pub number : ℕ
  pub market : Market
  pub accounts : List Account
  pub phase : Phase

-- A house is set up closed, with a house number and its margin rule, and nothing entered.
abbrev pub set_up : ℕ → Rule → State
set_up number rule = record {
  number = number;
  market = record { rule = rule; products = []; series = [] };
  accounts = [];
  phase = Closed;
}

-- A new account has zeros and no call.
unfoldable pub new_account : Account
new_account = record { cash = pos 0; positions = replicate 24 flat; orders = replicate 8 None; call = None }

abbrev pub account_at : State → ℕ → Account
account_at s a = slice_index_or s.accounts a new_account

abbrev pub has_account : State → ℕ → Bool
has_account s a = nat_lt a (length s.accounts)

abbrev pub has_product : State → ℕ → Bool
has_product s q = nat_lt q (length s.market.products)

abbrev pub has_series : State → ℕ → Bool
has_series s i = nat_lt i (length s.market.series)

-- Cash is at most 10^17 in size.
abbrev pub max_cash : ℕ
max_cash = 100_000_000_000_000_000

abbrev pub cash_fits : ℤ → Bool
cash_fits z = nat_le (unsigned_abs z) max_cash

abbrev pub with_products : List RiskMargins → State → State
with_products ps s = record {
  number = s.number;
  market = record { rule = s.market.rule; products = ps; series = s.market.series };
  accounts = s.accounts;
  phase = s.phase;
}

abbrev pub with_series : List Series → State → State
with_series ss s = record {
  number = s.number;
  market = record { rule = s.market.rule; products = s.market.products; series = ss };
  accounts = s.accounts;
  phase = s.phase;
}

abbrev pub with_accounts : List Account → State → State
with_accounts xs s = record { number = s.number; market = s.market; accounts = xs; phase = s.phase }

abbrev pub with_account : ℕ → Account → State → State
with_account a x s = with_accounts (slice_set s.accounts a x) s

abbrev pub with_phase : Phase → State → State
with_phase p s = record { number = s.number; market = s.market; accounts = s.accounts; phase = p }
