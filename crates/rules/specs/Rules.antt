-- The three margin rules: what each asks for l lots long and s lots short of a product.
use Rattle.std.specs.Prelude.{ℕ, ◌+◌, ◌-◌, ◌*◌, min, max}
use Rattle.rules.specs.declared.levels.Levels.{Levels}
use Rattle.rules.specs.declared.rule.RuleChoice.{RuleChoice}
use Rattle.rules.specs.declared.rule.RuleChoice.TheVariants.{Gross, LargerSide, Pairs}
use Rattle.rules.specs.Laws.{Three, Rule}

-- The levels of n lots.
abbrev pub times : ℕ → Levels → Three
times n v = (n * v.initial, n * v.maintenance, n * v.force)

abbrev pub plus : Three → Three → Three
plus x y = (x.0 + y.0, x.1 + y.1, x.2 + y.2)

-- Every lot is charged outright.
abbrev pub gross : Rule
gross outright spread l s = times (l + s) outright

-- The lots of the larger side are charged outright.
abbrev pub larger_side : Rule
larger_side outright spread l s = times (max l s) outright

-- How far the two sides are apart.
abbrev pub difference : ℕ → ℕ → ℕ
difference l s = (l - s) + (s - l)

-- A lot long and a lot short make a pair that is charged as a spread; lots without a pair are charged outright.
abbrev pub pairs : Rule
pairs outright spread l s = plus (times (difference l s) outright) (times (min l s) spread)

-- What a rule that is chosen as the program runs means.
abbrev pub chosen : RuleChoice → Rule
chosen Gross = gross
chosen LargerSide = larger_side
chosen Pairs = pairs
