-- Worked cases of lines and answers.
use Rattle.std.specs.Prelude.{◌≡◌, ℕ, true, List, [], ◌∷◌, pos, negsuc, Some, None, codes}
use Prim.Native.String.{String}
use Rattle.rules.specs.declared.rule.RuleChoice.TheVariants as rule
use Rattle.book.specs.declared.refusal.Refusal.TheVariants as refusal
use Rattle.book.specs.declared.account.Figures.{Figures}
use Rattle.script.specs.declared.command.Command.{Command}
use Rattle.script.specs.declared.command.Command.TheVariants as call
use Rattle.script.specs.Line as reading
use Rattle.script.specs.Answers.{ok_number_line, refused_line, figures_line}
use Rattle.script.specs.Line.{of_line}

abbrev pub Says : String → Command → Type 0
Says text c = of_line (codes text) ≡ reading.Call c

abbrev pub Closes : String → List ℕ → Type 0
Closes text prices = of_line (codes text) ≡ reading.Closing prices

abbrev pub Unreadable : String → Type 0
Unreadable text = of_line (codes text) ≡ reading.Unreadable

abbrev pub Empty : String → Type 0
Empty text = of_line (codes text) ≡ reading.Empty

pub record WorkedCalls : Type 0 where
  pub house : Says "house 4294967295 pairs" (call.House 4_294_967_295 rule.Pairs)
  pub gross : Says "house 1 gross" (call.House 1 rule.Gross)
  pub larger : Says "house 1 larger" (call.House 1 rule.LargerSide)
  pub product : Says "product 450000 112500" (call.Product 450_000 112_500)
  pub rates : Says "rates 1 450000 112500" (call.Rates 1 450_000 112_500)
  pub series : Says "series 1 200 95030" (call.Series 1 200 95_030)
  pub account : Says "account" call.Account
  pub opening : Says "opening" call.Opening
  pub clock : Says "clock 0570" (call.Clock 570)
  pub print : Says "print 3 95040" (call.Print 3 95_040)
  pub deposit : Says "deposit 1 18446744073709551615" (call.Deposit 1 18_446_744_073_709_551_615)
  pub withdraw : Says "withdraw 1 50" (call.Withdraw 1 50)
  pub check : Says "check 1 2 -3 -" (call.Check 1 2 (negsuc 2) None)
  pub check_second : Says "check 1 2 3 4" (call.Check 1 2 (pos 3) (Some 4))
  pub check_most : Says "check 1 2 9223372036854775807 -" (call.Check 1 2 (pos 9_223_372_036_854_775_807) None)
  pub check_least : Says "check 1 2 -9223372036854775808 -" (call.Check 1 2 (negsuc 9_223_372_036_854_775_807) None)
  pub send : Says "send 7" (call.Send 7)
  pub drop : Says "drop 7" (call.Drop 7)
  pub fill : Says "fill 7 95030 -" (call.Fill 7 95_030 None)
  pub fill_second : Says "fill 7 95030 95040" (call.Fill 7 95_030 (Some 95_040))
  pub cancel : Says "cancel 7" (call.Cancel 7)
  pub closing_none : Closes "closing" []
  pub closing_one : Closes "closing 95030" (95_030 ∷ [])
  pub closing_three : Closes "closing 95030 0 95040" (95_030 ∷ 0 ∷ 95_040 ∷ [])
  pub figures : Says "figures 1" (call.Figures 1)

pub record WorkedBlanks : Type 0 where
  pub tabs : Says "\tcancel \t7\t" (call.Cancel 7)
  pub carriage_return : Says "cancel 7\r" (call.Cancel 7)
  pub comment_after : Says "cancel 7 # too late" (call.Cancel 7)
  pub comment_in_word : Says "cancel 7#8" (call.Cancel 7)
  pub comment_only : Empty "  # closing 95030"
  pub blanks_only : Empty " \t\r"
  pub no_bytes : Empty ""

pub record WorkedUnreadable : Type 0 where
  pub unknown : Unreadable "sell 7"
  pub upper_case : Unreadable "Account"
  pub too_few : Unreadable "deposit 1"
  pub too_many : Unreadable "cancel 7 8"
  pub not_alone : Unreadable "account 1"
  pub house_too_large : Unreadable "house 4294967296 gross"
  pub no_rule : Unreadable "house 1 net"
  pub too_large : Unreadable "deposit 1 18446744073709551616"
  pub two_minuses : Unreadable "check 1 2 --3 -"
  pub plus : Unreadable "check 1 2 +3 -"
  pub no_lots : Unreadable "check 1 2 - -"
  pub above_most : Unreadable "check 1 2 9223372036854775808 -"
  pub below_least : Unreadable "check 1 2 -9223372036854775809 -"
  pub minus : Unreadable "cancel -7"
  pub letter : Unreadable "cancel 7x"
  pub closing_letter : Unreadable "closing 95030 x"

-- An account with an equity balance below 0, and the smallest number of 128 bits free.
abbrev pub without_call : Figures
without_call = record {
  equity = negsuc 4;
  initial = 18_446_744_073_709_551_615;
  maintenance = 20;
  force = 0;
  free = negsuc 170_141_183_460_469_231_731_687_303_715_884_105_727;
  call = None;
}

abbrev pub with_call : Figures
with_call = record {
  equity = pos 1_000;
  initial = 855;
  maintenance = 600;
  force = 300;
  free = pos 145;
  call = Some (record { amount = 700; credit = 250; age = 2; low = true });
}

pub record WorkedAnswers : Type 0 where
  pub number : ok_number_line 9_999 ≡ codes "ok 9999\n"
  pub zero : ok_number_line 0 ≡ codes "ok 0\n"
  pub refused : refused_line refusal.SheetTooShort ≡ codes "refused 15\n"
  pub no_call : figures_line without_call ≡ codes "ok -5 18446744073709551615 20 0 -170141183460469231731687303715884105728 -\n"
  pub call : figures_line with_call ≡ codes "ok 1000 855 600 300 145 700 250 2 low\n"

pub record WorkedLines : Type 0 where
  pub calls : WorkedCalls
  pub blanks : WorkedBlanks
  pub unreadable : WorkedUnreadable
  pub answers : WorkedAnswers
