-- The numbers that words write, and how many words there are.
use Rattle.std.specs.Prelude.{ℕ, zero, suc, slice_index, List, [], ◌∷◌, ℤ, Some, None, Option}
use Rattle.script.specs.Number.{and_then, number, signed, second}

-- The number of the first word, and the words after it.
abbrev pub first_number : List (List ℕ) → Option (ℕ × List (List ℕ))
first_number [] = None
first_number (w ∷ ws) = and_then (number w) (λ n. Some (n, ws))

-- A word and no more.
abbrev pub only : List (List ℕ) → Option (List ℕ)
only [] = None
only (w ∷ []) = Some w
only (w ∷ v ∷ ws) = None

-- The numbers of n words and no more.
abbrev pub numbers_of : ℕ → List (List ℕ) → Option (List ℕ)
numbers_of zero [] = Some []
numbers_of zero (w ∷ ws) = None
numbers_of (suc n) [] = None
numbers_of (suc n) (w ∷ ws) = and_then (number w) (λ a. and_then (numbers_of n ws) (λ rest. Some (a ∷ rest)))

abbrev pub one : List (List ℕ) → Option ℕ
one ws = and_then (numbers_of 1 ws) (λ ns. Some (slice_index ns 0))

abbrev pub two : List (List ℕ) → Option (ℕ × ℕ)
two ws = and_then (numbers_of 2 ws) (λ ns. Some (slice_index ns 0, slice_index ns 1))

abbrev pub three : List (List ℕ) → Option (ℕ × ℕ × ℕ)
three ws = and_then (numbers_of 3 ws) (λ ns. Some (slice_index ns 0, slice_index ns 1, slice_index ns 2))

-- A number or a minus.
abbrev pub one_second : List (List ℕ) → Option (Option ℕ)
one_second ws = and_then (only ws) second

-- A price of each leg.
abbrev pub leg_prices : List (List ℕ) → Option (ℕ × Option ℕ)
leg_prices [] = None
leg_prices (w ∷ ws) = and_then (number w) (λ price. and_then (one_second ws) (λ s. Some (price, s)))

abbrev pub lots_second : List (List ℕ) → Option (ℤ × Option ℕ)
lots_second [] = None
lots_second (w ∷ ws) = and_then (signed w) (λ lots. and_then (one_second ws) (λ s. Some (lots, s)))

-- A series, signed lots and a second series.
abbrev pub trade : List (List ℕ) → Option (ℕ × ℤ × Option ℕ)
trade [] = None
trade (w ∷ ws) = and_then (number w) (λ series. and_then (lots_second ws) (λ p. Some (series, p.0, p.1)))
