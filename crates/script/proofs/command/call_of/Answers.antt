use Rattle.std.proofs.Common.{codes, rules, arith}
use Rattle.std.proofs.lemmas.Slice.Eq.{text_from_reads}
use Rattle.script.proofs.command.call_of.Goals as goal

pub returns-in_ok-product-in-rates : goal.returns-in_ok-product-in-rates
returns-in_ok-product-in-rates c = rw (text_from_reads c.args.name.now (codes "rates") (omega arith) (search rules)) (search rules)

pub returns-in_ok-minute-in-clock : goal.returns-in_ok-minute-in-clock
returns-in_ok-minute-in-clock c = rw (text_from_reads c.args.name.now (codes "clock") (omega arith) (search rules)) (search rules)

pub returns-in-check : goal.returns-in-check
returns-in-check c = rw (text_from_reads c.args.name.now (codes "check") (omega arith) (search rules)) (search rules)

pub returns-in_ok-series-in-print : goal.returns-in_ok-series-in-print
returns-in_ok-series-in-print c = rw (text_from_reads c.args.name.now (codes "print") (omega arith) (search rules)) (search rules)

pub returns-in_ok-product-in-series : goal.returns-in_ok-product-in-series
returns-in_ok-product-in-series c = rw (text_from_reads c.args.name.now (codes "series") (omega arith) (search rules)) (search rules)

pub returns-in_ok-order-in-cancel : goal.returns-in_ok-order-in-cancel
returns-in_ok-order-in-cancel c = rw (text_from_reads c.args.name.now (codes "cancel") (omega arith) (search rules)) (search rules)

pub returns-in_ok-outright-in-product : goal.returns-in_ok-outright-in-product
returns-in_ok-outright-in-product c = rw (text_from_reads c.args.name.now (codes "product") (omega arith) (search rules)) (search rules)

pub returns-in_ok-numbers-in-account : goal.returns-in_ok-numbers-in-account
returns-in_ok-numbers-in-account c = rw (text_from_reads c.args.name.now (codes "account") (omega arith) (search rules)) (search rules)

pub returns-in_ok-numbers-in-opening : goal.returns-in_ok-numbers-in-opening
returns-in_ok-numbers-in-opening c = rw (text_from_reads c.args.name.now (codes "opening") (omega arith) (search rules)) (search rules)

pub returns-in_ok-account-in-deposit : goal.returns-in_ok-account-in-deposit
returns-in_ok-account-in-deposit c = rw (text_from_reads c.args.name.now (codes "deposit") (omega arith) (search rules)) (search rules)

pub returns-in_ok-account-in-figures : goal.returns-in_ok-account-in-figures
returns-in_ok-account-in-figures c = rw (text_from_reads c.args.name.now (codes "figures") (omega arith) (search rules)) (search rules)

pub returns-in_ok-account-in-withdraw : goal.returns-in_ok-account-in-withdraw
returns-in_ok-account-in-withdraw c = rw (text_from_reads c.args.name.now (codes "withdraw") (omega arith) (search rules)) (search rules)
