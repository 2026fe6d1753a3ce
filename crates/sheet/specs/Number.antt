-- Whole numbers in decimal digits.
use Rattle.std.specs.Prelude.{codes, ℕ, ◌+◌, ◌-◌, ◌*◌, ◌^◌, Bool, true, cond, ◌&&◌, List, [], ◌∷◌, length, Ok, Err, Result, nat_lt}
use Rattle.std.specs.Char.{is_ascii_digit}
use Rattle.sheet.specs.declared.number.NumberFault.{NumberFault}
use Rattle.sheet.specs.declared.number.NumberFault.TheVariants.{NotDigits, TooLarge}

abbrev pub all_digits : List ℕ → Bool
all_digits [] = true
all_digits (b ∷ bs) = is_ascii_digit b && all_digits bs

-- The number that digits write after a number that is already read.
abbrev pub value_after : ℕ → List ℕ → ℕ
value_after n [] = n
value_after n (b ∷ bs) = value_after (n * 10 + (b - 48)) bs

-- One digit or more, and a number below 2 ^ 64.
abbrev pub decimal : List ℕ → Result ℕ NumberFault
decimal bs =
    cond (nat_lt 0 (length bs) && all_digits bs)
    (cond (nat_lt (value_after 0 bs) (2 ^ 64)) (Ok (value_after 0 bs)) (Err TooLarge))
    (Err NotDigits)

-- What is said of a text that is no number.
abbrev pub number_fault_text : NumberFault → List ℕ
number_fault_text NotDigits = codes "not a number"
number_fault_text TooLarge = codes "too large to read"
