-- The worked cases, by computing the definitions.
use Rattle.rules.specs.declared.rule.RuleChoice.{RuleChoice}
use Rattle.rules.specs.declared.rule.RuleChoice.TheVariants.{Gross, LargerSide, Pairs}
use Rattle.rules.specs.Worked.{WorkedLevels}
use Rattle.book.specs.WorkedCalls.{WorkedClosing, WorkedNextDay, WorkedRelease, WorkedLaterClosings}
use Rattle.book.specs.WorkedForced.{WorkedDue, WorkedSheet, WorkedPair}
use Rattle.book.specs.WorkedUnits.{WorkedChoice, WorkedLines, WorkedJoining}
use Rattle.book.specs.WorkedRefusals.{WorkedEntering, WorkedMoney, WorkedEndingADay, WorkedForcedRefusals, WorkedStates}
use Rattle.book.specs.WorkedOrders.{WorkedCheck, WorkedOppositeLot, WorkedOrders, WorkedNeeds, WorkedTwoAccounts, WorkedSides}
use Rattle.book.specs.Worked.{WorkedCases}
use Rattle.book.proofs.CasesOpen.{all_definitions}

levels : WorkedLevels
levels = search

closing : (rule : RuleChoice) → WorkedClosing rule
unfolding all_definitions
closing Gross = search
closing LargerSide = search
closing Pairs = search

next_day : (rule : RuleChoice) → WorkedNextDay rule
unfolding all_definitions
next_day Gross = search
next_day LargerSide = search
next_day Pairs = search

release : (rule : RuleChoice) → WorkedRelease rule
unfolding all_definitions
release Gross = search
release LargerSide = search
release Pairs = search

later_closings : (rule : RuleChoice) → WorkedLaterClosings rule
unfolding all_definitions
later_closings Gross = search
later_closings LargerSide = search
later_closings Pairs = search

due : (rule : RuleChoice) → WorkedDue rule
unfolding all_definitions
due Gross = search
due LargerSide = search
due Pairs = search

sheet : (rule : RuleChoice) → WorkedSheet rule
unfolding all_definitions
sheet Gross = search
sheet LargerSide = search
sheet Pairs = search

pair : WorkedPair
unfolding all_definitions
pair = search

choice : (rule : RuleChoice) → WorkedChoice rule
unfolding all_definitions
choice Gross = search
choice LargerSide = search
choice Pairs = search

lines : (rule : RuleChoice) → WorkedLines rule
unfolding all_definitions
lines Gross = search
lines LargerSide = search
lines Pairs = search

joining : WorkedJoining
unfolding all_definitions
joining = search

entering : (rule : RuleChoice) → WorkedEntering rule
unfolding all_definitions
entering Gross = search
entering LargerSide = search
entering Pairs = search

money : (rule : RuleChoice) → WorkedMoney rule
unfolding all_definitions
money Gross = search
money LargerSide = search
money Pairs = search

ending_a_day : (rule : RuleChoice) → WorkedEndingADay rule
unfolding all_definitions
ending_a_day Gross = search
ending_a_day LargerSide = search
ending_a_day Pairs = search

forced_refusals : (rule : RuleChoice) → WorkedForcedRefusals rule
unfolding all_definitions
forced_refusals Gross = search
forced_refusals LargerSide = search
forced_refusals Pairs = search

states : (rule : RuleChoice) → WorkedStates rule
unfolding all_definitions
states Gross = search
states LargerSide = search
states Pairs = search

check : (rule : RuleChoice) → WorkedCheck rule
unfolding all_definitions
check Gross = search
check LargerSide = search
check Pairs = search

opposite_lot : WorkedOppositeLot
unfolding all_definitions
opposite_lot = search

orders : (rule : RuleChoice) → WorkedOrders rule
unfolding all_definitions
orders Gross = search
orders LargerSide = search
orders Pairs = search

needs : (rule : RuleChoice) → WorkedNeeds rule
unfolding all_definitions
needs Gross = search
needs LargerSide = search
needs Pairs = search

two_accounts : (rule : RuleChoice) → WorkedTwoAccounts rule
unfolding all_definitions
two_accounts Gross = search
two_accounts LargerSide = search
two_accounts Pairs = search

sides : WorkedSides
unfolding all_definitions
sides = search

pub worked : WorkedCases
worked = record {
  levels = levels;
  closing = closing;
  next_day = next_day;
  release = release;
  later_closings = later_closings;
  due = due;
  sheet = sheet;
  pair = pair;
  choice = choice;
  lines = lines;
  joining = joining;
  entering = entering;
  money = money;
  ending_a_day = ending_a_day;
  forced_refusals = forced_refusals;
  states = states;
  check = check;
  opposite_lot = opposite_lot;
  orders = orders;
  needs = needs;
  two_accounts = two_accounts;
  sides = sides;
}
