use Rattle.std.proofs.Common.{◌≡◌, length, drop, vec_items}
use Rattle.std.proofs.lemmas.Iterator.{YieldsList}
use Rattle.script.specs.Line.{numbers}
use Rattle.script.specs.Words.{words}
use Rattle.script.proofs.Lists.{onto}
use Rattle.script.proofs.line.read_numbers.Given as goal

abbrev pub invariant-loop-word : goal.invariant-loop-word
invariant-loop-word l = record {
  gives : YieldsList goal.iterator-loop-word.next_gives (λ w. w.now) l.initial.word-iterator (words l.text);
  so_far : onto (vec_items l.list) (numbers (drop (length l.yielded) (words l.text))) ≡ numbers (words l.text);
}
