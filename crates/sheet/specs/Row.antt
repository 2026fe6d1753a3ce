-- What a line of a rate sheet says: an outright risk margin, a spread risk margin and a name.
use Rattle.std.specs.Prelude.{ℕ, Bool, cond, ◌&&◌, List, [], ◌∷◌, Some, None, Ok, Err, Option, Result, ◌==◌}
use Rattle.std.proofs.Math.Utf8.{scalars, encodes}
use Rattle.std.specs.Str.{chars, bytes_eq}
use Rattle.rules.specs.declared.levels.Levels.{Levels}
use Rattle.rules.specs.declared.levels.RiskMargins.{RiskMargins}
use Rattle.rules.specs.declared.levels.RangeError.{RangeError}
use Rattle.rules.specs.PerLot.{per_lot, risk_margins}
use Rattle.sheet.specs.declared.number.NumberFault.{NumberFault}
use Rattle.sheet.specs.declared.row.LineFault.{LineFault}
use Rattle.sheet.specs.declared.row.LineFault.TheVariants.{Outright, NoSpread, Spread, NoName, NotText, Range}
use Rattle.sheet.specs.declared.row.Row.{Row}
use Rattle.sheet.specs.Number.{decimal}
use Rattle.sheet.specs.Word.{word, after_word, trimmed}

-- A name, and the levels of one lot outright and of one lot of a spread.
abbrev pub Said : Type 0
Said = List ℕ × Levels × Levels

-- What a row holds.
abbrev pub shown : Result Row LineFault → Result Said LineFault
shown (Ok r) = Ok (r.name.now, r.outright, r.spread)
shown (Err e) = Err e

abbrev pub shown_entry : Result (Option Row) LineFault → Result (Option Said) LineFault
shown_entry (Ok (Some r)) = Ok (Some (r.name.now, r.outright, r.spread))
shown_entry (Ok None) = Ok None
shown_entry (Err e) = Err e

-- The bytes are the UTF-8 of some characters.
abbrev pub is_text : List ℕ → Bool
is_text bs = scalars (chars bs) && bytes_eq (encodes (chars bs)) bs

abbrev pub with_levels : List ℕ → Result RiskMargins RangeError → Result Said LineFault
with_levels name (Ok m) = Ok (name, per_lot m.outright, per_lot m.spread)
with_levels name (Err e) = Err (Range e)

abbrev pub of_margins : List ℕ → ℕ → ℕ → Result Said LineFault
of_margins name outright spread = with_levels name (risk_margins outright spread)

abbrev pub of_name : ℕ → ℕ → List ℕ → Result Said LineFault
of_name outright spread [] = Err NoName
of_name outright spread (b ∷ bs) = cond (is_text (b ∷ bs)) (of_margins (b ∷ bs) outright spread) (Err NotText)

-- The spread risk margin is the first word, and the name what follows it.
abbrev pub with_spread : ℕ → List ℕ → Result ℕ NumberFault → Result Said LineFault
with_spread outright name (Ok spread) = of_name outright spread name
with_spread outright name (Err e) = Err (Spread e)

abbrev pub of_spread : ℕ → List ℕ → Result Said LineFault
of_spread outright [] = Err NoSpread
of_spread outright (b ∷ bs) = with_spread outright (after_word (b ∷ bs)) (decimal (word (b ∷ bs)))

-- The outright risk margin is the first word.
abbrev pub with_outright : List ℕ → Result ℕ NumberFault → Result Said LineFault
with_outright rest (Ok outright) = of_spread outright rest
with_outright rest (Err e) = Err (Outright e)

abbrev pub of_text : List ℕ → Result Said LineFault
of_text t = with_outright (after_word t) (decimal (word t))

abbrev pub some : Result Said LineFault → Result (Option Said) LineFault
some (Ok r) = Ok (Some r)
some (Err e) = Err e

-- A blank line and one that begins with # say nothing.
abbrev pub of_entry : List ℕ → Result (Option Said) LineFault
of_entry [] = Ok None
of_entry (b ∷ bs) = cond (b == 35) (Ok None) (some (of_text (b ∷ bs)))

abbrev pub of_line : List ℕ → Result (Option Said) LineFault
of_line line = of_entry (trimmed line)
