-- Cash that is added to or taken from a sound account.
use Rattle.std.proofs.Common.{◌≡◌, ℕ, true, List, ℤ, pos, ◌+ℤ◌, ◌-ℤ◌, neg_ℤ, nat_abs, ◌≤◌, arith}
use lib.Signed.{le_z}
use Rattle.std.proofs.lemmas.Int.{ints}
use Rattle.std.proofs.lemmas.Bool.Decides.{nat_tests}
use Rattle.book.specs.declared.account.Account.{Account}
use Rattle.book.specs.declared.market.Series.{Series}
use Rattle.book.specs.House.{max_cash, cash_fits}
use Rattle.house.specs.Sound.{sound}
use Rattle.house.proofs.Facts.{facts}

added : (z : ℤ) (n : ℕ) → nat_abs z ≤ max_cash → cash_fits (z +ℤ pos n) ≡ le_z (z +ℤ pos n) (pos max_cash)
added z n h = grind (arith, ints, nat_tests)

taken : (z : ℤ) (n : ℕ) → nat_abs z ≤ max_cash → cash_fits (z +ℤ neg_ℤ (pos n)) ≡ le_z (neg_ℤ (pos max_cash)) (z -ℤ pos n)
taken z n h = grind (arith, ints, nat_tests)

pub added_fits : (ss : List Series) (k : ℕ) (x : Account) (n : ℕ) → sound ss k x ≡ true → cash_fits (x.cash +ℤ pos n) ≡ le_z (x.cash +ℤ pos n) (pos max_cash)
added_fits ss k x n h = added x.cash n (facts ss k x h).cash

pub taken_fits : (ss : List Series) (k : ℕ) (x : Account) (n : ℕ) → sound ss k x ≡ true → cash_fits (x.cash +ℤ neg_ℤ (pos n)) ≡ le_z (neg_ℤ (pos max_cash)) (x.cash -ℤ pos n)
taken_fits ss k x n h = taken x.cash n (facts ss k x h).cash
