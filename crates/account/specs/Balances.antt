-- The equity balance where series are valued by a function.
use Rattle.std.specs.Prelude.{◌≡◌, ℕ, ◌<◌, List, length, ℤ, ◌+ℤ◌}
use Rattle.book.specs.declared.account.Account.{Account}
use Rattle.book.specs.declared.market.Series.{Series}
use Rattle.book.specs.Market.{holdings, series_at}
use Rattle.book.specs.Equity.{gains}

-- The equity balance of an account over n series, the i-th of them a value that P allows at i.
pub record IsBalance (P : ℕ → Series → Type 0) (n : ℕ) (x : Account) (balance : ℤ) : Type 0 where
  pub series : List Series
  pub count : length series ≡ n
  pub each : (i : ℕ) → i < n → P i (series_at series i)
  pub is : balance ≡ x.cash +ℤ gains (holdings series x.positions)
