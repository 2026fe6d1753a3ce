use Rattle.std.proofs.Common.{◌≡◌, ◌^◌, ◌≤◌, pos, ◌*ℤ◌, nat_abs, arith, to_z, of_z}
use mir.Syntax.{w128}
use Rattle.std.proofs.lemmas.Int.{ints}
use Rattle.account.proofs.Sizes.{abs_product}
use Rattle.account.proofs.equity.scaled.Goals as goal

pub returns-clause-size : goal.returns-clause-size
returns-clause-size c =
    let k = c.args.multiplier in
    let z = c.args.value in
    let ek : to_z w128 k ≡ pos k = omega (arith, ints) in
    let ez : to_z w128 (of_z w128 z) ≡ z = omega (arith, ints) in
    let b : nat_abs (pos k *ℤ z) ≤ 2 ^ 97 = abs_product (pos k) z (2 ^ 32) (2 ^ 65) (omega (arith, ints)) c.requires in
    rw (ek, ez) (omega (arith, ints, b))
