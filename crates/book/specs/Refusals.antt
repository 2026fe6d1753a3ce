-- Refusals.
use Rattle.std.specs.Prelude.{ℕ}
use Rattle.book.specs.declared.refusal.Refusal.{Refusal}
use Rattle.book.specs.declared.refusal.Refusal.TheVariants.{Unknown, OutOfRange, Full, EarlierMinute, SecondSeries, PositionLimit, OrderOpen, OrderNumbersUsed, CallOpen, ExceedsFree, CashLimit, NoSuchOrder, WrongCount, NothingDue, SheetTooShort}

-- Each refusal has a number.
abbrev pub number_of : Refusal → ℕ
number_of Unknown = 1
number_of OutOfRange = 2
number_of Full = 3
number_of EarlierMinute = 4
number_of SecondSeries = 5
number_of PositionLimit = 6
number_of OrderOpen = 7
number_of OrderNumbersUsed = 8
number_of CallOpen = 9
number_of ExceedsFree = 10
number_of CashLimit = 11
number_of NoSuchOrder = 12
number_of WrongCount = 13
number_of NothingDue = 14
number_of SheetTooShort = 15
