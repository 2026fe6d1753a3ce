use Rattle.std.proofs.Common.{arith}
use Rattle.sheet.proofs.Lines.{of_name_text, of_name_no_text}
use Rattle.sheet.proofs.row.of_text.Goals as goal

pub returns-in_err-name : goal.returns-in_err-name
returns-in_err-name c = grind (arith, of_name_no_text)

pub returns-in_err-margins : goal.returns-in_err-margins
returns-in_err-margins c = grind (arith, of_name_text)

pub returns : goal.returns
returns c = grind (arith, of_name_text)
