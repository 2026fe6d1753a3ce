use Rattle.std.proofs.Common.{rules, arith}
use Rattle.script.proofs.Lists.{onto_more}
use Rattle.script.proofs.fields.numbers.Goals as goal

pub loop-n-preserved : goal.loop-n-preserved
loop-n-preserved g c = record {
  count = search rules;
  so_far =
      onto_more c.loop-n.n-items c.loop-n.n-index g.row.N c.in_ok-n.field-0 c.in_ok-word.word.now _ _ (omega arith) (omega arith)
      c.in_ok-word.ensures.words c.in_ok-n.ensures c.loop-n.invariant.so_far;
}
