use Rattle.std.proofs.Common.{arith}
use Rattle.sheet.proofs.Amounts.{laid_out}
use Rattle.sheet.proofs.amount.amount.Goals as goal

pub returns : goal.returns
returns c = cc (laid_out c.args.satang (omega arith))
