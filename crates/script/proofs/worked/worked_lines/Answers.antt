use Rattle.std.specs.Fmt.{digits}
use Rattle.script.specs.Words.{words}
use Rattle.script.specs.Worked.{WorkedCalls, WorkedBlanks, WorkedUnreadable, WorkedAnswers}
use Rattle.script.proofs.worked.worked_lines.Goals as goal

calls : WorkedCalls
unfolding words
calls = search

blanks : WorkedBlanks
unfolding words
blanks = search

unreadable : WorkedUnreadable
unfolding words
unreadable = search

answers : WorkedAnswers
unfolding digits
answers = search

pub returns : goal.returns
returns c = record { calls = calls; blanks = blanks; unreadable = unreadable; answers = answers }
