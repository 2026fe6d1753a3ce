-- The numbers of a script.
use Rattle.std.specs.Prelude.{ℕ, ◌^◌, if◌then◌else◌, List, [], ◌∷◌, ℤ, pos, neg_ℤ, Some, None, Option, ◌==◌, nat_le, nat_lt}
use Rattle.std.specs.Result.{result_ok}
use Rattle.sheet.specs.Number.{decimal}

-- What a part gives to the next, if it gives anything.
abbrev pub and_then : {X Y : Type 0} → Option X → (X → Option Y) → Option Y
and_then None f = None
and_then (Some x) f = f x

abbrev pub number : List ℕ → Option ℕ
number word = result_ok (decimal word)

abbrev pub from_small : ℕ → Option ℕ
from_small n = if nat_lt n (2 ^ 32) then Some n else None

abbrev pub small : List ℕ → Option ℕ
small word = and_then (number word) from_small

abbrev pub from_plus : ℕ → Option ℤ
from_plus n = if nat_lt n (2 ^ 63) then Some (pos n) else None

abbrev pub from_minus : ℕ → Option ℤ
from_minus n = if nat_le n (2 ^ 63) then Some (neg_ℤ (pos n)) else None

-- Digits, or a minus and digits.
abbrev pub signed : List ℕ → Option ℤ
signed [] = None
signed (b ∷ bs) = if b == 45 then and_then (number bs) from_minus else and_then (number (b ∷ bs)) from_plus

abbrev pub given : ℕ → Option (Option ℕ)
given n = Some (Some n)

-- A number, or a minus alone where there is none.
abbrev pub second : List ℕ → Option (Option ℕ)
second [] = None
second (b ∷ []) = if b == 45 then Some None else and_then (number (b ∷ [])) given
second (b ∷ d ∷ bs) = and_then (number (b ∷ d ∷ bs)) given
