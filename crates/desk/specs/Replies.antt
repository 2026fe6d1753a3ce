-- The calls that the commands of a script name, and the answers that replies stand for.
use Rattle.std.specs.Prelude.{◌≡◌, ℕ, ◌<◌, Some, None, Option, Ok, Err, Result}
use Rattle.book.specs.Answer.{Answer}
use Rattle.book.specs.Answer as B
use Rattle.book.specs.Call as C
use Rattle.book.specs.Call.{Call}
use Rattle.book.specs.House.{State}
use Rattle.book.specs.Step.{step}
use Rattle.script.specs.declared.answer.Answer as ScriptAnswer
use Rattle.script.specs.declared.answer.Answer.TheVariants as A
use Rattle.script.specs.declared.answer.Fault.{Fault}
use Rattle.script.specs.declared.answer.Fault.TheVariants as F
use Rattle.script.specs.declared.command.Command.{Command}
use Rattle.script.specs.declared.command.Command.TheVariants as K

-- What a script's line is replied.
abbrev pub Reply : Type 0
Reply = Result ScriptAnswer.Answer Fault

-- The answer that a reply stands for; an unreadable line has none.
abbrev pub answer_of : Reply → Option Answer
answer_of (Ok A.Done) = Some B.Done
answer_of (Ok (A.Entered n)) = Some (B.Entered n)
answer_of (Ok (A.Ordered n)) = Some (B.Ordered n)
answer_of (Ok (A.Told f)) = Some (B.Told f)
answer_of (Err (F.Refused r)) = Some (B.Refused r)
answer_of (Err F.NotNow) = Some B.NotNow
answer_of (Err F.Unreadable) = None

-- The call that a command names. Opening and Closing move the house, a ticket is spent where it is in hand, and a house line is no call.
abbrev pub call_of : Command → Option Call
call_of (K.House number rule) = None
call_of (K.Product outright spread) = Some (C.Product outright spread)
call_of (K.Rates product outright spread) = Some (C.Rates product outright spread)
call_of (K.Series product multiplier price) = Some (C.Series product multiplier price)
call_of K.Account = Some C.Account
call_of K.Opening = None
call_of (K.Clock minute) = Some (C.Clock minute)
call_of (K.Print series price) = Some (C.Print series price)
call_of (K.Deposit account amount) = Some (C.Deposit account amount)
call_of (K.Withdraw account amount) = Some (C.Withdrawal account amount)
call_of (K.Check account series lots second) = Some (C.Check account series lots second)
call_of (K.Send order) = None
call_of (K.Drop order) = None
call_of (K.Fill order price second) = Some (C.Fill order price second)
call_of (K.Cancel order) = Some (C.Cancel order)
call_of K.Closing = None
call_of (K.Figures account) = Some (C.Figures account)

-- A reply is the rulebook's answer to the command's call, and the house after it the rulebook's.
abbrev pub Replied : Option Call → State → Reply → State → Type 0
Replied None s r t = Unit {0}
Replied (Some c) s r t = (Some (step s c).0 ≡ answer_of r) × ((step s c).1 ≡ t)

-- Where n tickets are in hand, a Check has a place for one more; no other command needs one.
abbrev pub HasPlaceFor : Command → ℕ → ℕ → Type 0
HasPlaceFor (K.Check account series lots second) n places = n < places
HasPlaceFor _ n places = Unit {0}
