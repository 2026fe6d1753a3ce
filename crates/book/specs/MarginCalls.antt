-- Margin calls.
use Rattle.std.specs.Prelude.{ℕ, suc, ◌+◌, min, Bool, cond, ◌||◌, ℤ, pos, negsuc, ◌-ℤ◌, Some, None, Option, int_lt, nat_le}
use Rattle.rules.specs.Laws.{Three}
use Rattle.book.specs.declared.account.MarginCall.{MarginCall}
use Rattle.book.specs.Requirements.{initial, maintenance, force}

-- A whole number that is not negative; 0 for one that is.
abbrev pub at_least_zero : ℤ → ℕ
at_least_zero (pos n) = n
at_least_zero (negsuc n) = 0

-- Equity below a requirement.
abbrev pub below : ℤ → ℕ → Bool
below eb level = int_lt eb (pos level)

-- A new call asks for IMR − EB; it is low where EB is below FMR.
abbrev pub new_call : ℤ → Three → MarginCall
new_call eb levels = record {
  amount = at_least_zero (pos (initial levels) -ℤ eb);
  credit = 0;
  age = 0;
  low = below eb (force levels);
}

-- A closing issues a call where none is open and EB is below MMR; an open call becomes low where EB is below FMR, and changes no more.
abbrev pub call_at_closing : ℤ → Three → Option MarginCall → Option MarginCall
call_at_closing eb levels None = cond (below eb (maintenance levels)) (Some (new_call eb levels)) None
call_at_closing eb levels (Some c) =
    Some (record { amount = c.amount; credit = c.credit; age = c.age; low = c.low || below eb (force levels) })

-- An opening makes an open call a day older: 0 becomes 1, 1 becomes 2, and 2 stays.
abbrev pub call_at_opening : Option MarginCall → Option MarginCall
call_at_opening None = None
call_at_opening (Some c) =
    Some (record { amount = c.amount; credit = c.credit; age = min 2 (suc c.age); low = c.low })

-- Credit is added to an open call, which ends when its credit reaches its amount.
abbrev pub credited : ℕ → Option MarginCall → Option MarginCall
credited n None = None
credited n (Some c) =
    cond (nat_le c.amount (c.credit + n)) None
    (Some (record { amount = c.amount; credit = c.credit + n; age = c.age; low = c.low }))
