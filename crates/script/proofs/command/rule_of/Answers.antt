use Rattle.std.proofs.Common.{codes, rules, arith}
use Rattle.std.proofs.lemmas.Slice.Eq.{text_from_reads}
use Rattle.script.proofs.command.rule_of.Goals as goal

pub returns-in-gross : goal.returns-in-gross
returns-in-gross c = rw (text_from_reads c.args.word.now (codes "gross") (omega arith) (search rules))

pub returns-in-larger : goal.returns-in-larger
returns-in-larger c = rw (text_from_reads c.args.word.now (codes "larger") (omega arith) (search rules))

pub returns-in-pairs : goal.returns-in-pairs
returns-in-pairs c = rw (text_from_reads c.args.word.now (codes "pairs") (omega arith) (search rules))
