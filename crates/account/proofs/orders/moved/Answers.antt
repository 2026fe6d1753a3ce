use Rattle.std.proofs.Common.{◌≡◌, ℕ, ◌*◌, ◌^◌, ◌<◌, ◌≤◌, ℤ, pos, ◌+ℤ◌, ◌*ℤ◌, nat_abs, arith, w32, w64, to_z, of_z}
use Rattle.std.proofs.lemmas.Int.{ints}
use Rattle.account.proofs.Sizes.{abs_product}
use Rattle.account.proofs.orders.moved.Goals as goal

-- the value of at most 1,000 lots
value_size : (lots value : ℤ) (price : ℕ) → value ≡ to_z w32 (of_z w32 lots) *ℤ pos price → nat_abs lots ≤ 1_000 → price < 2 ^ 32 → nat_abs value ≤ 1_000 * 2 ^ 32
value_size lots value price is size range =
    let back : to_z w32 (of_z w32 lots) ≡ lots = omega (arith, ints, size) in
    rw (is, back) (abs_product lots (pos price) 1_000 (2 ^ 32) size (omega (arith, ints)))

pub overflow_add-result-2 : goal.overflow_add-result-2
overflow_add-result-2 c =
    omega (arith, ints, value_size c.args.lots c.value_at.result c.args.price c.value_at.ensures c.requires.lots c.ranges.price.fits, c.requires.carry)

pub returns : goal.returns
returns c =
    let x = c.args.position in
    let value = c.value_at.ensures in
    let small = value_size c.args.lots c.value_at.result c.args.price value c.requires.lots c.ranges.price.fits in
    let back : to_z w32 (of_z w32 c.args.lots) ≡ c.args.lots = omega (arith, ints, c.requires.lots) in
    let net : to_z w32 (of_z w32 (to_z w32 (of_z w32 x.net) +ℤ to_z w32 (of_z w32 c.args.lots))) ≡ x.net +ℤ c.args.lots = omega (arith, ints, c.requires.net, c.requires.lots) in
    let carry : to_z w64 (of_z w64 (to_z w64 (of_z w64 x.carry) +ℤ to_z w64 (of_z w64 c.value_at.result))) ≡ x.carry +ℤ c.value_at.result = omega (arith, ints, small, c.requires.carry) in
    cc
