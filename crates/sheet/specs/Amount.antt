-- Amounts of money in baht.
use Rattle.std.specs.Prelude.{ℕ, zero, suc, ◌+◌, ◌-◌, ◌/◌, ◌%◌, cond, List, [], ◌∷◌, ◌++◌, length, replicate, nat_lt}

-- The digit that counts a unit of 1, 10, 100 and so on.
abbrev pub digit_of : ℕ → ℕ → ℕ
digit_of unit n = 48 + n / unit % 10

-- A blank in an amount below the unit.
abbrev pub from_unit : ℕ → ℕ → ℕ → ℕ
from_unit unit n byte = cond (nat_lt n unit) 32 byte

-- The last three digits.
abbrev pub three : ℕ → List ℕ
three n = digit_of 100 n ∷ digit_of 10 n ∷ digit_of 1 n ∷ []

-- A number below 1,000, with no zero in front.
abbrev pub short : ℕ → List ℕ
short n =
    cond (nat_lt n 10) (digit_of 1 n ∷ [])
    (cond (nat_lt n 100) (digit_of 10 n ∷ digit_of 1 n ∷ []) (three n))

-- A comma between thousands, at most k of them.
abbrev pub grouped : ℕ → ℕ → List ℕ
grouped zero n = short n
grouped (suc k) n = cond (nat_lt n 1_000) (short n) (grouped k (n / 1_000) ++ 44 ∷ three n)

-- An amount of satang in baht, as 8,550.00.
abbrev pub baht : ℕ → List ℕ
baht n = grouped 2 (n / 100) ++ 46 ∷ digit_of 10 n ∷ digit_of 1 n ∷ []

-- Blanks in front, so that the text ends where its column does.
abbrev pub right_aligned : ℕ → List ℕ → List ℕ
right_aligned width text = replicate (width - length text) 32 ++ text
