use Rattle.std.proofs.Common.{arith}
use Rattle.std.proofs.lemmas.Int.{to_z-of_z}
use Rattle.book.specs.Equity.{gain}
use Rattle.account.proofs.equity.gain_in.Goals as goal

pub returns-clause-value : goal.returns-clause-value
unfolding gain
returns-clause-value c = grind (arith, to_z-of_z)
