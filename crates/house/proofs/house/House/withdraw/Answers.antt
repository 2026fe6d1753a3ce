use Rattle.std.proofs.Common.{◌≡◌, pos, neg_ℤ, ◌-ℤ◌, w64, to_z, of_z, arith, rules}
use Rattle.std.proofs.lemmas.Grind.{common_steps}
use Rattle.house.proofs.CashLimits.{taken_fits}
use Rattle.house.proofs.house.House.withdraw.Goals as goal

pub returns-in_err-cash : goal.returns-in_err-cash
returns-in_err-cash g c =
    let by : to_z w64 (of_z w64 (pos 0 -ℤ to_z w64 c.args.amount)) ≡ neg_ℤ (pos c.args.amount) = search rules in
    grind (arith, common_steps, taken_fits)

pub returns : goal.returns
returns g c =
    let by : to_z w64 (of_z w64 (pos 0 -ℤ to_z w64 c.args.amount)) ≡ neg_ℤ (pos c.args.amount) = search rules in
    grind (arith, common_steps, taken_fits)
