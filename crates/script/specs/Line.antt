-- What a line of a script says.
use Rattle.std.specs.Prelude.{◌≡◌, ℕ, if◌then◌else◌, List, [], ◌∷◌, Some, None, Ok, Err, Option, Result}
use Rattle.script.specs.declared.command.Command.{Command}
use Rattle.script.specs.declared.command.Command.TheVariants as call
use Rattle.script.specs.declared.line.ReadError.{ReadError}
use Rattle.script.specs.declared.line.ReadError.TheVariants as error
use Rattle.script.specs.Number.{and_then, number}
use Rattle.script.specs.Words.{line_words}
use Rattle.script.specs.Commands.{is, call_of}

-- Any number of numbers.
abbrev pub numbers : List (List ℕ) → Option (List ℕ)
numbers [] = Some []
numbers (w ∷ ws) = and_then (number w) (λ n. and_then (numbers ws) (λ ns. Some (n ∷ ns)))

-- No word, no call, the closing of a day at these prices, or another call.
pub data Reading : Type 0 where
  Empty : Reading
  Unreadable : Reading
  Closing : List ℕ → Reading
  Call : Command → Reading

abbrev pub closed : Option (List ℕ) → Reading
closed None = Unreadable
closed (Some prices) = Closing prices

abbrev pub closing : List (List ℕ) → Reading
closing ws = closed (numbers ws)

abbrev pub called : Option Command → Reading
called None = Unreadable
called (Some c) = Call c

abbrev pub of_words : List (List ℕ) → Reading
of_words [] = Empty
of_words (name ∷ ws) = if is name "closing" then closing ws else called (call_of name ws)

abbrev pub of_line : List ℕ → Reading
of_line line = of_words (line_words line)

-- The result of a line that says this, and the list of prices that is left with it.
abbrev pub IsResultOf : Reading → Result (Option Command) ReadError → List ℕ → Type 0
IsResultOf Empty r ps = (r ≡ Ok None) × (ps ≡ [])
IsResultOf Unreadable r ps = (r ≡ Err error.Unreadable) × (ps ≡ [])
IsResultOf (Closing ns) r ps = (r ≡ Ok (Some call.Closing)) × (ps ≡ ns)
IsResultOf (Call c) r ps = (r ≡ Ok (Some c)) × (ps ≡ [])
