-- The answers of a house.
use Rattle.std.specs.Prelude.{ℕ, Bool, true, false, List, Some, None, Option}
use Rattle.book.specs.declared.refusal.Refusal.{Refusal}
use Rattle.book.specs.declared.account.Figures.{Figures}
use Rattle.book.specs.declared.account.Trade.{Trade}
use Rattle.book.specs.Refusals.{number_of}

pub data Answer : Type 0 where
  Done : Answer
  -- the number of what was entered
  Entered : ℕ → Answer
  -- the order number of a granted check
  Ordered : ℕ → Answer
  Told : Figures → Answer
  -- the lines of a forced list
  Listed : List Trade → Answer
  Refused : Refusal → Answer
  -- the call does not exist in the house's present state
  NotNow : Answer

-- The number of a refusal; a granted call, and one that does not exist now, has none.
abbrev pub refusal_number : Answer → Option ℕ
refusal_number Done = None
refusal_number (Entered n) = None
refusal_number (Ordered n) = None
refusal_number (Told f) = None
refusal_number (Listed ls) = None
refusal_number (Refused r) = Some (number_of r)
refusal_number NotNow = None

-- Whether a call was granted.
abbrev pub granted : Answer → Bool
granted Done = true
granted (Entered n) = true
granted (Ordered n) = true
granted (Told f) = true
granted (Listed ls) = true
granted (Refused r) = false
granted NotNow = false
