-- The initial margin that is freed by closing one lot.
use Rattle.std.specs.Prelude.{ℕ, ◌-◌, ◌<◌, Bool, cond, ◌&&◌, Some, None, Option, nat_le, nat_lt}
use Rattle.rules.specs.declared.levels.RiskMargins.{RiskMargins}
use Rattle.rules.specs.PerLot.{fits}
use Rattle.rules.specs.Laws.{Three, Rule, charged, most}

-- How far the initial level falls from one triple of levels to another.
abbrev pub fall : Three → Three → ℕ
fall x y = x.0 - y.0

-- Closing one lot of the strictly larger side frees the fall of the initial level; equal sides have no larger one.
abbrev pub freed_of : Rule → RiskMargins → ℕ → ℕ → Option ℕ
freed_of f m l s =
    cond (nat_lt s l) (Some (fall (charged f m l s) (charged f m (l - 1) s)))
    (cond (nat_lt l s) (Some (fall (charged f m l s) (charged f m l (s - 1)))) None)

-- A rule is asked at risk margins that a product may have, and for at most 24,000 lots on a side.
abbrev pub askable : RiskMargins → ℕ → ℕ → Bool
askable m l s = fits m && (nat_le l most && nat_le s most)

abbrev pub freed : Rule → RiskMargins → ℕ → ℕ → Option ℕ
freed f m l s = cond (askable m l s) (freed_of f m l s) None

-- Where a lot of a larger side can be closed, closing it frees margin above 0.
abbrev pub AboveZero : Option ℕ → Type 0
AboveZero None = Unit {0}
AboveZero (Some n) = 0 < n
