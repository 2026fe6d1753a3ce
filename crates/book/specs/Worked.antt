-- All worked cases together: what the definitions answer in runs of calls on a house.
use Rattle.rules.specs.declared.rule.RuleChoice.{RuleChoice}
use Rattle.rules.specs.Worked.{WorkedLevels}
use Rattle.book.specs.WorkedCalls.{WorkedClosing, WorkedNextDay, WorkedRelease, WorkedLaterClosings}
use Rattle.book.specs.WorkedForced.{WorkedDue, WorkedSheet, WorkedPair}
use Rattle.book.specs.WorkedUnits.{WorkedChoice, WorkedLines, WorkedJoining}
use Rattle.book.specs.WorkedRefusals.{WorkedEntering, WorkedMoney, WorkedEndingADay, WorkedForcedRefusals, WorkedStates}
use Rattle.book.specs.WorkedOrders.{WorkedCheck, WorkedOppositeLot, WorkedOrders, WorkedNeeds, WorkedTwoAccounts, WorkedSides}

-- The cases hold under each margin rule; those of a pair, of an opposite lot and of the sides name theirs.
pub record WorkedCases : Type 0 where
  pub levels : WorkedLevels
  -- margin calls
  pub closing : (rule : RuleChoice) → WorkedClosing rule
  pub next_day : (rule : RuleChoice) → WorkedNextDay rule
  pub release : (rule : RuleChoice) → WorkedRelease rule
  pub later_closings : (rule : RuleChoice) → WorkedLaterClosings rule
  -- forced lists
  pub due : (rule : RuleChoice) → WorkedDue rule
  pub sheet : (rule : RuleChoice) → WorkedSheet rule
  pub pair : WorkedPair
  pub choice : (rule : RuleChoice) → WorkedChoice rule
  pub lines : (rule : RuleChoice) → WorkedLines rule
  pub joining : WorkedJoining
  -- refusals and ranges
  pub entering : (rule : RuleChoice) → WorkedEntering rule
  pub money : (rule : RuleChoice) → WorkedMoney rule
  pub ending_a_day : (rule : RuleChoice) → WorkedEndingADay rule
  pub forced_refusals : (rule : RuleChoice) → WorkedForcedRefusals rule
  pub states : (rule : RuleChoice) → WorkedStates rule
  -- orders
  pub check : (rule : RuleChoice) → WorkedCheck rule
  pub opposite_lot : WorkedOppositeLot
  pub orders : (rule : RuleChoice) → WorkedOrders rule
  pub needs : (rule : RuleChoice) → WorkedNeeds rule
  pub two_accounts : (rule : RuleChoice) → WorkedTwoAccounts rule
  pub sides : WorkedSides
