-- The columns of the printed sheet: a name in 32, and six amounts in 13 each.
use Rattle.std.specs.Prelude.{ℕ, ◌-◌, cond, List, [], ◌∷◌, ◌++◌, replicate, nat_le}
use Rattle.rules.specs.declared.levels.Levels.{Levels}
use Rattle.sheet.specs.declared.row.Row.{Row}
use Rattle.sheet.specs.Amount.{baht, right_aligned}
use Rattle.sheet.specs.Name.{columns}

-- A name that is wider than its column is followed by a line break and an empty column.
abbrev pub name_cell : List ℕ → List ℕ
name_cell name = name ++ cond (nat_le (columns name) 32) (replicate (32 - columns name) 32) (10 ∷ replicate 32 32)

abbrev pub amount_cell : ℕ → List ℕ
amount_cell satang = right_aligned 13 (baht satang)

abbrev pub level_cells : Levels → List ℕ
level_cells v = amount_cell v.initial ++ (amount_cell v.maintenance ++ amount_cell v.force)

-- The name, the levels of one lot outright and of one lot of a spread, and a line break.
abbrev pub row_text : Row → List ℕ
row_text r = name_cell r.name.now ++ (level_cells r.outright ++ (level_cells r.spread ++ 10 ∷ []))
