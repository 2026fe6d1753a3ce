use Rattle.std.proofs.Common.{◌≡◌, ◌-◌, ◌^◌, pos, ◌*ℤ◌, arith, w32, w64, SFits, to_z, of_z}
use Rattle.std.proofs.lemmas.Int.{ints, to_z-of_z}
use Rattle.account.proofs.Sizes.{abs_product}
use Rattle.account.proofs.equity.value_at.Goals as goal

pub returns : goal.returns
returns c =
    let a = c.args.lots in
    let p = c.args.price in
    let ea : to_z w64 (of_z w64 (to_z w32 (of_z w32 a))) ≡ a = omega (arith, ints) in
    let ep : to_z w64 p ≡ pos p = omega (arith, ints) in
    let f : SFits w64 (a *ℤ pos p) = omega (arith, ints, abs_product a (pos p) (2 ^ 31) (2 ^ 32 - 1) (omega (arith, ints)) (omega (arith, ints))) in
    rw (ea, ep) (to_z-of_z w64 (a *ℤ pos p) f)
