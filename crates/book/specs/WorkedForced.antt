-- Worked cases of what is due and of forced lists: two lots of the SET50 future, and a pair.
use Rattle.std.specs.Prelude.{◌≡◌, ℕ, true, false, List, [], ◌∷◌, ◌++◌, pos, negsuc, Some, None}
use Rattle.rules.specs.declared.rule.RuleChoice.{RuleChoice}
use Rattle.rules.specs.declared.rule.RuleChoice.TheVariants.{Pairs}
use Rattle.book.specs.declared.refusal.Refusal.TheVariants.{NothingDue, SheetTooShort}
use Rattle.book.specs.Answer.{Answer, Told, Listed, Refused}
use Rattle.book.specs.Call as C
use Rattle.book.specs.Call.{Call}
use Rattle.book.specs.WorkedRuns.{Granted, No, ◌gets◌, Runs, house_number, house_after, answer_after, call_after, equity_after, open_call, alone, traded, with_call, with_low_call}

-- The forced list of account 0 at a minute, after these calls, with so many lots that the market takes and a sheet of so many lines.
abbrev pub list_at : RuleChoice → List Call → ℕ → ℕ → ℕ → Answer
list_at rule cs minute takes sheet = answer_after rule (cs ++ C.Clock minute ∷ []) (C.ForcedList 0 (takes ∷ []) sheet)

abbrev pub sell_one : Answer
sell_one = Listed (alone 0 (negsuc 0) ∷ [])

abbrev pub sell_two : Answer
sell_two = Listed (alone 0 (negsuc 1) ∷ [])

-- The day is closed at a price, and the next one opened.
abbrev pub another_day : ℕ → List Call
another_day price = C.Closing (price ∷ []) ∷ C.Opening ∷ []

pub record WorkedDue (rule : RuleChoice) : Type 0 where
  -- a call is due at age 1 from minute 955 on
  pub call_before : list_at rule (with_call []) 954 2 1 ≡ Refused NothingDue
  pub call_from : list_at rule (with_call []) 955 2 1 ≡ sell_one
  pub call_last_minute : list_at rule (with_call []) 1_439 2 1 ≡ sell_one
  -- on a call that is not low equity below FMR is not due
  pub not_low : list_at rule (with_call (C.Print 0 70_000 ∷ [])) 954 2 1 ≡ Refused NothingDue
  -- on a low call EB ≥ FMR is due from 645 on, and EB ≥ MMR from 690 on
  pub low_before : list_at rule (with_low_call []) 644 2 1 ≡ Refused NothingDue
  pub force_from : list_at rule (with_low_call []) 645 2 1 ≡ sell_one
  pub force_until : list_at rule (with_low_call []) 689 2 1 ≡ sell_one
  pub maintenance_from : list_at rule (with_low_call []) 690 2 1 ≡ sell_two
  -- equity equal to FMR meets EB ≥ FMR, one satang less does not
  pub equal_to_force : list_at rule (with_low_call (C.Deposit 0 33_000 ∷ [])) 645 2 1 ≡ Refused NothingDue
  pub below_force : list_at rule (with_low_call (C.Deposit 0 32_999 ∷ [])) 645 2 1 ≡ sell_one
  -- and so for MMR
  pub equal_to_maintenance : list_at rule (with_low_call (C.Deposit 0 717_000 ∷ [])) 690 2 1 ≡ Refused NothingDue
  pub below_maintenance : list_at rule (with_low_call (C.Deposit 0 716_999 ∷ [])) 690 2 1 ≡ sell_one
  -- equity is taken at the present marks, which the call itself does not regard
  pub met_by_print : list_at rule (with_low_call (C.Print 0 83_000 ∷ [])) 954 2 1 ≡ Refused NothingDue
  pub call_despite_print : list_at rule (with_low_call (C.Print 0 83_000 ∷ [])) 955 2 1 ≡ sell_two
  -- at age 2 a call is due at every minute, a low one too
  pub at_age_two : list_at rule (with_call (another_day 80_800)) 0 2 1 ≡ sell_one
  pub low_at_age_two : list_at rule (with_low_call (another_day 79_200)) 0 2 1 ≡ sell_two
  pub at_age_three : list_at rule (with_call (another_day 80_800 ++ another_day 80_800)) 0 2 1 ≡ sell_one
  -- nothing is due without an open call, however low equity is
  pub call_ended : list_at rule (with_call (C.Deposit 0 590_000 ∷ C.Print 0 70_000 ∷ [])) 955 2 1 ≡ Refused NothingDue
  -- one satang that the call lacks is due
  pub one_satang : list_at rule (with_call (C.Deposit 0 589_999 ∷ [])) 955 2 1 ≡ sell_one
  -- once the listed lots are sold nothing is due
  pub placed : list_at rule (with_call (traded 1 0 (negsuc 0) 80_800)) 955 2 1 ≡ Refused NothingDue
  pub low_placed : list_at rule (with_low_call (traded 1 0 (negsuc 0) 79_200)) 645 2 1 ≡ Refused NothingDue

pub record WorkedSheet (rule : RuleChoice) : Type 0 where
  -- no more is listed than the market takes
  pub takes_one : list_at rule (with_low_call []) 690 1 1 ≡ sell_one
  -- no unit to choose is a grant of no lines, on a sheet of any size
  pub takes_none : list_at rule (with_call []) 955 0 1 ≡ Listed []
  pub no_room_needed : list_at rule (with_call []) 955 0 0 ≡ Listed []
  -- a line needs a sheet of one line
  pub no_room : list_at rule (with_call []) 955 2 0 ≡ Refused SheetTooShort
  pub more_room : list_at rule (with_call []) 955 2 24 ≡ sell_one

-- Two series of the SET50 future and one account, the first day opened: a pair bought at 83,000 and settled at two prices, and the next day opened.
abbrev pub pair_held : ℕ → ℕ → List Call
pair_held first second =
    C.Product 450_000 112_500 ∷ C.Series 0 200 83_000 ∷ C.Series 0 200 83_000 ∷ C.Account ∷ C.Opening
    ∷ C.Deposit 0 213_750 ∷ C.Check 0 0 (pos 1) (Some 1) ∷ C.Send house_number 1 ∷ C.Fill 1 83_000 (Some 83_000)
    ∷ C.Closing (first ∷ second ∷ []) ∷ C.Opening ∷ []

-- The pair is sold at the marks.
abbrev pub pair_sold : ℕ → ℕ → List Call
pair_sold first second =
    pair_held first second ++ C.Check 0 0 (negsuc 0) (Some 1) ∷ C.Send house_number 1 ∷ C.Fill 1 first (Some second) ∷ []

-- A pair under the rule that charges pairs as spreads.
pub record WorkedPair : Type 0 where
  pub pair_figures : answer_after Pairs (pair_held 82_000 82_500) (C.Figures 0)
      ≡ Told (record {
        equity = pos 113_750;
        initial = 213_750;
        maintenance = 149_625;
        force = 64_125;
        free = negsuc 99_999;
        call = open_call 100_000 0 1 false;
      })
  -- to sell one leg alone would raise IMR; both legs together lower it
  pub legs : Runs (house_after Pairs (pair_held 82_000 82_500))
      (C.Check 0 0 (negsuc 0) None gets No 9
      ∷ C.Check 0 1 (pos 1) None gets No 9
      ∷ C.Check 0 0 (negsuc 0) (Some 1) gets Granted
      ∷ [])
  -- the fill releases 213,750: it ends a call of 100,000, and is the credit of one of 300,000
  pub release_ends : call_after Pairs (pair_sold 82_000 82_500) ≡ None
  pub release_credits : call_after Pairs (pair_sold 81_000 82_500) ≡ open_call 300_000 213_750 1 true
  -- a fill at the marks leaves equity as it is
  pub equity_before : equity_after Pairs (pair_held 81_000 82_500) ≡ negsuc 86_249
  pub equity_kept : equity_after Pairs (pair_sold 81_000 82_500) ≡ negsuc 86_249
  -- a print of one series moves the gain of that one
  pub print_second : equity_after Pairs (pair_held 82_000 82_500 ++ C.Print 1 82_000 ∷ []) ≡ pos 213_750
