-- The margin levels of one lot.
use Rattle.std.specs.Prelude.{ℕ, ◌+◌, ◌*◌, ◌/◌, ◌≤◌, Bool, cond, ◌&&◌, Ok, Err, Result, nat_le}
use Rattle.rules.specs.declared.levels.Levels.{Levels}
use Rattle.rules.specs.declared.levels.RiskMargins.{RiskMargins}
use Rattle.rules.specs.declared.levels.RangeError.{RangeError}
use Rattle.rules.specs.declared.levels.RangeError.TheVariants.{Outright, Spread}

-- So many percent of a risk margin, rounded up to a whole satang.
abbrev pub percent : ℕ → ℕ → ℕ
percent rate risk = (risk * rate + 99) / 100

-- A lot's initial, maintenance and force level are 190, 133 and 57 percent of its risk margin, each rounded up.
abbrev pub per_lot : ℕ → Levels
per_lot risk = record {
  initial = percent 190 risk;
  maintenance = percent 133 risk;
  force = percent 57 risk;
}

-- A number is at least the lowest and at most the highest.
abbrev pub within : ℕ → ℕ → ℕ → Bool
within lowest highest n = nat_le lowest n && nat_le n highest

-- The largest risk margin of a lot is 500,000,000 satang.
abbrev pub max_risk : ℕ
max_risk = 500_000_000

-- A risk margin outside 1 to 500,000,000 has no levels.
abbrev pub per_lot_answer : ℕ → Result Levels RangeError
per_lot_answer risk = cond (within 1 max_risk risk) (Ok (per_lot risk)) (Err Outright)

-- A product's outright risk margin is 1 to 500,000,000, its spread risk margin 1 up to the outright one.
abbrev pub risk_margins : ℕ → ℕ → Result RiskMargins RangeError
risk_margins outright spread =
    cond (within 1 max_risk outright)
    (cond (within 1 outright spread) (Ok (record { outright = outright; spread = spread })) (Err Spread))
    (Err Outright)

abbrev pub InRange : ℕ → Type 0
InRange risk = (1 ≤ risk) × (risk ≤ max_risk)

-- Whether a product may have these risk margins.
abbrev pub fits : RiskMargins → Bool
fits m = within 1 max_risk m.outright && within 1 m.outright m.spread

-- The risk margins that a product may have.
abbrev pub Fits : RiskMargins → Type 0
Fits m = (1 ≤ m.spread) × (m.spread ≤ m.outright) × (m.outright ≤ max_risk)
