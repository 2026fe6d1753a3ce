-- What the levels of a lot are known to be, at any risk margins that a product may have.
use Rattle.std.specs.Prelude.{ℕ, ◌<◌, ◌≤◌}
use Rattle.std.proofs.Common.{arith}
use Rattle.rules.specs.declared.levels.Levels.{Levels}
use Rattle.rules.specs.declared.levels.RiskMargins.{RiskMargins}
use Rattle.rules.specs.PerLot.{per_lot, InRange, Fits}

pub record Lot (v : Levels) : Type 0 where
  pub force≤maintenance : v.force ≤ v.maintenance
  pub maintenance≤initial : v.maintenance ≤ v.initial
  pub initial_positive : 0 < v.initial
  pub initial_bounded : v.initial ≤ 950_000_000

pub record Lots (outright spread : Levels) : Type 0 where
  pub single : Lot outright
  pub paired : Lot spread
  pub initial≤ : spread.initial ≤ outright.initial

lot : (risk : ℕ) → InRange risk → Lot (per_lot risk)
lot risk h = record {
  force≤maintenance = omega arith;
  maintenance≤initial = omega arith;
  initial_positive = omega arith;
  initial_bounded = omega arith;
}

pub lots : (m : RiskMargins) → Fits m → Lots (per_lot m.outright) (per_lot m.spread)
lots m h = record {
  single = lot m.outright (omega arith, omega arith);
  paired = lot m.spread (omega arith, omega arith);
  initial≤ = omega arith;
}
