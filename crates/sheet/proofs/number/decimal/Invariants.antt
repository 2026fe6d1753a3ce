use Rattle.std.proofs.Common.{◌≡◌, ◌^◌, ◌<◌, drop}
use Rattle.sheet.specs.Number.{value_after}
use Rattle.sheet.proofs.number.decimal.Given as goal

abbrev pub invariant-loop-b : goal.invariant-loop-b
invariant-loop-b l =
    (value_after l.number (drop l.b-index l.text) ≡ value_after 0 l.text) × (l.number < 2 ^ 64)
