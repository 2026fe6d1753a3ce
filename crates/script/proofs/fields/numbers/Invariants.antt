use Rattle.std.proofs.Common.{◌≡◌, ◌-◌, length, take}
use Rattle.script.specs.Words.{words}
use Rattle.script.specs.Fields.{numbers_of}
use Rattle.script.proofs.Lists.{onto}
use Rattle.script.proofs.fields.numbers.Given as goal

abbrev pub invariant-loop-n : goal.invariant-loop-n
invariant-loop-n g l = record {
  count : length l.n-items ≡ g.row.N;
  so_far : onto (take l.n-index l.n-items) (numbers_of (g.row.N - l.n-index) (words l.rest)) ≡ numbers_of g.row.N (words l.text);
}
