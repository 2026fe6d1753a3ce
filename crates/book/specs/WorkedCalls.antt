-- Worked cases of margin calls: two lots of the SET50 future bought at 83,000, and the days after.
use Rattle.std.specs.Prelude.{◌≡◌, true, false, List, [], ◌∷◌, ◌++◌, ℤ, pos, negsuc, ◌+ℤ◌, ◌-ℤ◌, ◌*ℤ◌, Some, None, Option, slice_index_or}
use Rattle.rules.specs.declared.rule.RuleChoice.{RuleChoice}
use Rattle.book.specs.declared.account.MarginCall.{MarginCall}
use Rattle.book.specs.Answer.{Answer, Done, Entered, Ordered, Told}
use Rattle.book.specs.Call as C
use Rattle.book.specs.Call.{Call}
use Rattle.book.specs.Market.{flat}
use Rattle.book.specs.Step.{answers}
use Rattle.book.specs.WorkedRuns.{No, ◌gets◌, Runs, house_after, answer_after, account_after, call_after, equity_after, open_call, traded, first_opening, first_day, second_day, with_call, with_low_call}

-- The figures of two lots long: IMR 1,710,000, MMR 1,197,000 and FMR 513,000.
abbrev pub two_lots : ℤ → ℤ → Option MarginCall → Answer
two_lots eb free call = Told (record {
  equity = eb;
  initial = 1_710_000;
  maintenance = 1_197_000;
  force = 513_000;
  free = free;
  call = call;
})

abbrev pub figures_after : RuleChoice → List Call → Answer
figures_after rule cs = answer_after rule cs (C.Figures 0)

-- The two lots are sold at 70,000 on the day on which they were bought.
abbrev pub sold_out : List Call
sold_out =
    first_opening ++ C.Deposit 0 2_000_000 ∷ traded 1 0 (pos 2) 83_000 ++ traded 2 0 (negsuc 1) 70_000 ++ C.Closing (83_000 ∷ []) ∷ []

pub record WorkedClosing (rule : RuleChoice) : Type 0 where
  -- the answers to all calls of the first day
  pub answers_are : answers (house_after rule []) (first_day 2_000_000 80_800)
      ≡ Entered 0 ∷ Entered 0 ∷ Entered 0 ∷ Done ∷ Done ∷ Ordered 1 ∷ Done ∷ Done ∷ Done ∷ []
  -- equity below MMR brings a call of IMR − EB
  pub call_issued : figures_after rule (first_day 2_000_000 80_800)
      ≡ two_lots (pos 1_120_000) (negsuc 589_999) (open_call 590_000 0 0 false)
  -- cash becomes equity, and the carry net lots × settlement price
  pub settled_cash : (account_after rule (first_day 2_000_000 80_800)).cash ≡ pos 1_120_000
  pub settled_carry : slice_index_or (account_after rule (first_day 2_000_000 80_800)).positions 0 flat
      ≡ record { net = pos 2; carry = pos 161_600 }
  -- equity equal to MMR brings no call, one satang less does
  pub at_maintenance : figures_after rule (first_day 2_077_000 80_800) ≡ two_lots (pos 1_197_000) (negsuc 512_999) None
  pub below_maintenance : figures_after rule (first_day 2_076_999 80_800)
      ≡ two_lots (pos 1_196_999) (negsuc 513_000) (open_call 513_001 0 0 false)
  -- equity below FMR makes the call low
  pub low_call : figures_after rule (first_day 2_000_000 79_200)
      ≡ two_lots (pos 480_000) (negsuc 1_229_999) (open_call 1_230_000 0 0 true)
  -- equity equal to FMR does not, one satang less does
  pub at_force : figures_after rule (first_day 2_033_000 79_200)
      ≡ two_lots (pos 513_000) (negsuc 1_196_999) (open_call 1_197_000 0 0 false)
  pub below_force : figures_after rule (first_day 2_032_999 79_200)
      ≡ two_lots (pos 512_999) (negsuc 1_197_000) (open_call 1_197_001 0 0 true)
  -- without lots, equity of 0 brings no call, and equity below 0 a low call of −EB
  pub nothing_held : call_after rule (first_opening ++ C.Closing (83_000 ∷ []) ∷ []) ≡ None
  pub sold_at_loss : call_after rule sold_out ≡ open_call 3_200_000 0 0 true

-- Equity from the deposit and the fill: two lots bought at 83,000, marked at 81,000.
abbrev pub from_deposit_and_fill : ℤ
from_deposit_and_fill = pos 2_000_000 +ℤ pos 2 *ℤ pos 200 *ℤ (pos 81_000 -ℤ pos 83_000)

pub record WorkedNextDay (rule : RuleChoice) : Type 0 where
  -- a price rise does not end a call
  pub print_rises : figures_after rule (with_call (C.Print 0 85_000 ∷ []))
      ≡ two_lots (pos 2_800_000) (pos 1_090_000) (open_call 590_000 0 1 false)
  -- under the call no withdrawal and no purchase is granted
  pub refused_under_call : Runs (house_after rule (with_call (C.Print 0 85_000 ∷ [])))
      (C.Withdrawal 0 1 gets No 9 ∷ C.Check 0 0 (pos 1) None gets No 9 ∷ [])
  -- the call ends when deposits reach its amount, and not one satang before
  pub one_satang_short : call_after rule (with_call (C.Deposit 0 589_999 ∷ [])) ≡ open_call 590_000 589_999 1 false
  pub deposits_reach : call_after rule (with_call (C.Deposit 0 589_999 ∷ C.Deposit 0 1 ∷ [])) ≡ None
  pub deposits_add : call_after rule (with_call (C.Deposit 0 100_000 ∷ C.Deposit 0 200_000 ∷ [])) ≡ open_call 590_000 300_000 1 false
  -- a deposit beyond what the call lacks ends it, and the rest counts towards no later call
  pub deposit_beyond : call_after rule (with_call (C.Deposit 0 700_000 ∷ [])) ≡ None
  pub none_kept : call_after rule (with_call (C.Deposit 0 700_000 ∷ C.Closing (79_200 ∷ []) ∷ [])) ≡ open_call 530_000 0 0 false
  -- equity is the same from the settled cash and carry as from the deposit and the fill
  pub print_falls : figures_after rule (with_call (C.Print 0 81_000 ∷ []))
      ≡ two_lots (pos 1_200_000) (negsuc 509_999) (open_call 590_000 0 1 false)
  pub equity_agrees : equity_after rule (with_call (C.Print 0 81_000 ∷ [])) ≡ from_deposit_and_fill
  -- the last print of a day counts until the day is closed
  pub last_print : equity_after rule (with_call (C.Print 0 85_000 ∷ C.Print 0 81_000 ∷ [])) ≡ pos 1_200_000
  pub print_and_settlement : (house_after rule (with_call (C.Print 0 85_000 ∷ []))).market.series
      ≡ record { product = 0; multiplier = 200; quote = record { settlement = 80_800; last = Some 85_000 } } ∷ []
  pub settled_despite_print : (account_after rule (with_call (C.Print 0 85_000 ∷ C.Closing (80_800 ∷ []) ∷ []))).cash ≡ pos 1_120_000
  pub no_print_today : equity_after rule (with_call (C.Print 0 85_000 ∷ C.Closing (80_800 ∷ []) ∷ C.Opening ∷ [])) ≡ pos 1_120_000
  -- new rates act at once, release no margin and leave the call as it is
  pub new_rates : figures_after rule (first_day 2_000_000 80_800 ++ C.Rates 0 400_000 112_500 ∷ [])
      ≡ Told (record {
        equity = pos 1_120_000;
        initial = 1_520_000;
        maintenance = 1_064_000;
        force = 456_000;
        free = negsuc 399_999;
        call = open_call 590_000 0 0 false;
      })

-- Fills under an open call.
pub record WorkedRelease (rule : RuleChoice) : Type 0 where
  -- a lot sold releases 855,000, which ends the call of 590,000 and stays below the low one of 1,230,000; two lots end that too
  pub sale_ends : call_after rule (with_call (traded 1 0 (negsuc 0) 79_000)) ≡ None
  pub sale_credits : call_after rule (with_low_call (traded 1 0 (negsuc 0) 79_000)) ≡ open_call 1_230_000 855_000 1 true
  pub sales_end : call_after rule (with_low_call (traded 1 0 (negsuc 1) 79_000)) ≡ None
  -- a fill at another price than the mark moves equity by the difference
  pub sale_below_mark : equity_after rule (with_call (traded 1 0 (negsuc 0) 79_000)) ≡ pos 760_000
  -- released margin equal to the amount ends a call, one satang less does not
  pub release_reaches : call_after rule (second_day 1_735_000 80_800 ++ traded 1 0 (negsuc 0) 80_800) ≡ None
  pub release_falls_short : call_after rule (second_day 1_734_999 80_800 ++ traded 1 0 (negsuc 0) 80_800) ≡ open_call 855_001 855_000 1 false

pub record WorkedLaterClosings (rule : RuleChoice) : Type 0 where
  -- an open call keeps amount, credit and age at a closing, whatever equity is
  pub kept : call_after rule (with_call (C.Deposit 0 100_000 ∷ C.Closing (80_800 ∷ []) ∷ [])) ≡ open_call 590_000 100_000 1 false
  pub kept_at_high_equity : call_after rule (with_call (C.Closing (90_000 ∷ []) ∷ [])) ≡ open_call 590_000 0 1 false
  -- its age is 2 from the second opening on, and nothing else changes at an opening
  pub second_opening : call_after rule (with_call (C.Deposit 0 100_000 ∷ C.Closing (80_800 ∷ []) ∷ C.Opening ∷ []))
      ≡ open_call 590_000 100_000 2 false
  pub third_opening : call_after rule (with_call (C.Closing (80_800 ∷ []) ∷ C.Opening ∷ C.Closing (80_800 ∷ []) ∷ C.Opening ∷ []))
      ≡ open_call 590_000 0 2 false
  -- it becomes low where equity is below FMR, and not where equity is equal to it
  pub equal_to_force : call_after rule (with_call (C.Deposit 0 200 ∷ C.Closing (79_282 ∷ []) ∷ [])) ≡ open_call 590_000 200 1 false
  pub below_force : call_after rule (with_call (C.Deposit 0 199 ∷ C.Closing (79_282 ∷ []) ∷ [])) ≡ open_call 590_000 199 1 true
  -- a low call stays low at high equity
  pub stays_low : call_after rule (with_low_call (C.Closing (90_000 ∷ []) ∷ [])) ≡ open_call 1_230_000 0 1 true
