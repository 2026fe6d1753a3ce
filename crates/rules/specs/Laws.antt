-- What a margin rule is, and the laws that every margin rule keeps.
use Rattle.std.specs.Prelude.{◌≡◌, ℕ, ◌+◌, ◌-◌, ◌*◌, ◌<◌, ◌≤◌}
use Rattle.rules.specs.declared.levels.Levels.{Levels}
use Rattle.rules.specs.declared.levels.RiskMargins.{RiskMargins}
use Rattle.rules.specs.PerLot.{per_lot, Fits}

-- An initial, a maintenance and a force level, in this order.
abbrev pub Three : Type 0
Three = ℕ × ℕ × ℕ

-- A margin rule means three levels for a product's outright levels, its spread levels, the lots long and the lots short.
abbrev pub Rule : Type 0
Rule = Levels → Levels → ℕ → ℕ → Three

-- A margin rule's laws reach to 24,000 lots on a side: 24 series of 1,000 lots.
abbrev pub most : ℕ
most = 24_000

-- What a rule means at a product's risk margins.
abbrev pub charged : Rule → RiskMargins → ℕ → ℕ → Three
charged f m = f (per_lot m.outright) (per_lot m.spread)

-- The initial level falls, and neither other level rises.
abbrev pub Falls : Three → Three → Type 0
Falls x y = (y.0 < x.0) × (y.1 ≤ x.1) × (y.2 ≤ x.2)

-- Without lots all three levels are 0.
abbrev pub FlatIsFree : Rule → Type 0
FlatIsFree f = (m : RiskMargins) → Fits m → charged f m 0 0 ≡ (0, 0, 0)

-- Force ≤ maintenance ≤ initial.
abbrev pub Ordered : Three → Type 0
Ordered x = (x.2 ≤ x.1) × (x.1 ≤ x.0)

-- The levels are in order, and the initial level is at most that of all lots outright.
abbrev pub InOrder : Rule → Type 0
InOrder f =
    (m : RiskMargins) (l s : ℕ) → Fits m → l ≤ most → s ≤ most
    → Ordered (charged f m l s) × ((charged f m l s).0 ≤ (l + s) * (per_lot m.outright).initial)

-- One lot fewer on a strictly larger long side lowers the initial level and raises neither other.
abbrev pub LongFalls : Rule → Type 0
LongFalls f =
    (m : RiskMargins) (l s : ℕ) → Fits m → l ≤ most → s < l → Falls (charged f m l s) (charged f m (l - 1) s)

-- One lot fewer on a strictly larger short side does the same.
abbrev pub ShortFalls : Rule → Type 0
ShortFalls f =
    (m : RiskMargins) (l s : ℕ) → Fits m → s ≤ most → l < s → Falls (charged f m l s) (charged f m l (s - 1))

-- One lot fewer on both sides does the same.
abbrev pub PairFalls : Rule → Type 0
PairFalls f =
    (m : RiskMargins) (l s : ℕ) → Fits m → l ≤ most → s ≤ most → 0 < l → 0 < s
    → Falls (charged f m l s) (charged f m (l - 1) (s - 1))

-- A margin rule that keeps the laws.
pub record Keeps (f : Rule) : Type 0 where
  pub flat : FlatIsFree f
  pub ordered : InOrder f
  pub longer : LongFalls f
  pub shorter : ShortFalls f
  pub paired : PairFalls f
