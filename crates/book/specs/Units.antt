-- The choice of a unit of a forced list. The market takes so many lots of each series.
use Rattle.std.specs.Prelude.{ℕ, zero, suc, ◌-◌, Bool, true, false, cond, ◌&&◌, ◌||◌, List, length, ℤ, pos, negsuc, is_some, Some, None, Option, ◌==◌, int_lt, nat_lt, slice_index, slice_set}
use Rattle.book.specs.declared.account.Trade.{Trade}
use Rattle.book.specs.Market.{Holding, at}
use Rattle.book.specs.Equity.{loss}
use Rattle.book.specs.Requirements.{long_side, short_side}

-- Of two series the one of greater loss; at a tie the one named first stays.
abbrev pub better : (ℕ → ℤ) → Option ℕ → ℕ → Option ℕ
better w None n = Some n
better w (Some j) n = cond (int_lt (w j) (w n)) (Some n) (Some j)

-- Of the numbers below n that pass a test, the one of greatest loss, the lowest number at a tie.
unfoldable pub greatest : (ℕ → Bool) → (ℕ → ℤ) → ℕ → Option ℕ
greatest ok w zero = None
greatest ok w (suc n) = cond (ok n) (better w (greatest ok w n) n) (greatest ok w n)

abbrev pub has_lots : ℤ → Bool
has_lots (pos zero) = false
has_lots (pos (suc n)) = true
has_lots (negsuc n) = true

-- One lot towards 0: a long lot is sold, a short one bought.
abbrev pub toward_zero : ℤ → ℤ
toward_zero (pos zero) = pos 0
toward_zero (pos (suc n)) = negsuc 0
toward_zero (negsuc n) = pos 1

abbrev pub other_side : ℤ → ℤ → Bool
other_side (pos m) (pos n) = false
other_side (pos m) (negsuc n) = true
other_side (negsuc m) (pos n) = true
other_side (negsuc m) (negsuc n) = false

-- A series is closable while the account has lots in it and the market takes more.
unfoldable pub closable : List Holding → List ℕ → ℕ → Bool
closable hs takes i = has_lots (at hs i).net && nat_lt 0 (slice_index takes i)

abbrev pub on_larger : ℤ → ℕ → ℕ → Bool
on_larger (pos n) long short = nat_lt short long
on_larger (negsuc n) long short = nat_lt long short

-- A series is on the strictly larger side of its product.
unfoldable pub larger : List Holding → ℕ → Bool
larger hs i = on_larger (at hs i).net (long_side (at hs i).product hs) (short_side (at hs i).product hs)

-- A second series for i is closable and on the other side of the same product.
unfoldable pub opposite : List Holding → List ℕ → ℕ → ℕ → Bool
opposite hs takes i j =
    closable hs takes j && ((at hs i).product == (at hs j).product && other_side (at hs i).net (at hs j).net)

abbrev pub loss_at : List Holding → ℕ → ℤ
loss_at hs i = loss (at hs i)

-- The second series is the closable one of greatest loss on the other side, the lowest number at a tie.
unfoldable pub second_for : List Holding → List ℕ → ℕ → Option ℕ
second_for hs takes i = greatest (opposite hs takes i) (loss_at hs) (length hs)

-- A unit begins with a closable series that is on a strictly larger side, or else has a second series; others are passed over.
unfoldable pub usable : List Holding → List ℕ → ℕ → Bool
usable hs takes i = closable hs takes i && (larger hs i || is_some (second_for hs takes i))

-- The unit is one lot alone on a strictly larger side, and otherwise one lot of each of two series.
abbrev pub unit_at : List Holding → List ℕ → ℕ → Trade
unit_at hs takes i = record {
  series = i;
  lots = toward_zero (at hs i).net;
  second = cond (larger hs i) None (second_for hs takes i);
}

abbrev pub unit_from : List Holding → List ℕ → Option ℕ → Option Trade
unit_from hs takes None = None
unit_from hs takes (Some i) = Some (unit_at hs takes i)

-- The next unit begins with the series of greatest loss with which one can begin, the lowest number at a tie.
unfoldable pub next_unit : List Holding → List ℕ → Option Trade
next_unit hs takes = unit_from hs takes (greatest (usable hs takes) (loss_at hs) (length hs))

abbrev pub take_one : ℕ → List ℕ → List ℕ
take_one i takes = slice_set takes i (slice_index takes i - 1)

abbrev pub take_second : Option ℕ → List ℕ → List ℕ
take_second None takes = takes
take_second (Some j) takes = take_one j takes

-- Each lot of a unit uses up one that the market takes.
abbrev pub used_up : Trade → List ℕ → List ℕ
used_up u takes = take_second u.second (take_one u.series takes)
