-- What a published rate says.
use Rattle.std.specs.Prelude.{ℕ, List, None, Ok, Err, Option, Result}
use Rattle.std.specs.Result.{result_ok}
use Rattle.rules.specs.declared.levels.Levels.{Levels}
use Rattle.rules.specs.PerLot.{per_lot_answer}
use Rattle.sheet.specs.declared.number.NumberFault.{NumberFault}
use Rattle.sheet.specs.Number.{decimal}

abbrev pub levels_at : Result ℕ NumberFault → Option Levels
levels_at (Ok risk) = result_ok (per_lot_answer risk)
levels_at (Err e) = None

-- The levels of one lot at the risk margin that a word says.
abbrev pub levels_said : List ℕ → Option Levels
levels_said w = levels_at (decimal w)
