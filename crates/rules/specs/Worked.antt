-- Worked cases of the levels and the rules, at the risk margins of the SET50 index future: 450,000 outright, 112,500 for a spread.
use Rattle.std.specs.Prelude.{◌≡◌}
use Rattle.rules.specs.declared.levels.RiskMargins.{RiskMargins}
use Rattle.rules.specs.PerLot.{per_lot}
use Rattle.rules.specs.Laws.{charged}
use Rattle.rules.specs.Rules.{gross, larger_side, pairs}

abbrev pub set50 : RiskMargins
set50 = record { outright = 450_000; spread = 112_500 }

-- The smallest risk margins that a product may have.
abbrev pub smallest : RiskMargins
smallest = record { outright = 1; spread = 1 }

pub record WorkedLevels : Type 0 where
  pub outright : per_lot 450_000 ≡ record { initial = 855_000; maintenance = 598_500; force = 256_500 }
  pub spread : per_lot 112_500 ≡ record { initial = 213_750; maintenance = 149_625; force = 64_125 }
  -- each level of a lot is rounded up before lots are multiplied in
  pub one_satang : per_lot 1 ≡ record { initial = 2; maintenance = 2; force = 1 }
  pub ten_gross : charged gross smallest 10 0 ≡ (20, 20, 10)
  pub ten_larger_side : charged larger_side smallest 0 10 ≡ (20, 20, 10)
  pub ten_pairs : charged pairs smallest 10 0 ≡ (20, 20, 10)
  -- three lots long and one short
  pub gross_initial : (charged gross set50 3 1).0 ≡ 3_420_000
  pub larger_side_initial : (charged larger_side set50 3 1).0 ≡ 2_565_000
  pub pairs_initial : (charged pairs set50 3 1).0 ≡ 1_923_750
