-- The line that each answer prints.
use Rattle.std.specs.Prelude.{ℕ, List, ◌∷◌, ◌++◌, ℤ, Some, None, codes, decimal, Option, Result, Ok, Err, if◌then◌else◌}
use Rattle.std.specs.Fmt.{signed_decimal}
use Rattle.book.specs.declared.refusal.Refusal.{Refusal}
use Rattle.book.specs.declared.account.Figures.{Figures}
use Rattle.book.specs.declared.account.MarginCall.{MarginCall}
use Rattle.book.specs.Refusals.{number_of}
use Rattle.script.specs.declared.answer.Answer.{Answer}
use Rattle.script.specs.declared.answer.Answer.TheVariants.{Done, Entered, Ordered, Told}
use Rattle.script.specs.declared.answer.Fault.{Fault}
use Rattle.script.specs.declared.answer.Fault.TheVariants.{Refused, NotNow, Unreadable}

-- A number after a blank.
abbrev pub field : ℕ → List ℕ
field n = 32 ∷ decimal n

abbrev pub signed_field : ℤ → List ℕ
signed_field z = 32 ∷ signed_decimal z

abbrev pub ok_line : List ℕ
ok_line = codes "ok\n"

abbrev pub ok_number_line : ℕ → List ℕ
ok_number_line n = codes "ok" ++ (field n ++ codes "\n")

abbrev pub refused_line : Refusal → List ℕ
refused_line r = codes "refused" ++ (field (number_of r) ++ codes "\n")

abbrev pub not_now_line : List ℕ
not_now_line = codes "not now\n"

abbrev pub unreadable_line : List ℕ
unreadable_line = codes "unreadable\n"

-- The initial, the maintenance and the force requirement.
abbrev pub requirement_fields : Figures → List ℕ
requirement_fields f = field f.initial ++ (field f.maintenance ++ field f.force)

-- The amount, the credit, the age and the mark of a margin call.
abbrev pub call_fields : MarginCall → List ℕ
call_fields m = field m.amount ++ (field m.credit ++ (field m.age ++ (if m.low then codes " low" else codes " high")))

abbrev pub any_call_fields : Option MarginCall → List ℕ
any_call_fields None = codes " -"
any_call_fields (Some m) = call_fields m

abbrev pub figures_fields : Figures → List ℕ
figures_fields f =
    signed_field f.equity ++ (requirement_fields f ++ (signed_field f.free ++ any_call_fields f.call))

abbrev pub figures_line : Figures → List ℕ
figures_line f = codes "ok" ++ (figures_fields f ++ codes "\n")

-- The line of a reply.
abbrev pub reply_line : Result Answer Fault → List ℕ
reply_line (Ok Done) = ok_line
reply_line (Ok (Entered n)) = ok_number_line n
reply_line (Ok (Ordered n)) = ok_number_line n
reply_line (Ok (Told f)) = figures_line f
reply_line (Err (Refused r)) = refused_line r
reply_line (Err NotNow) = not_now_line
reply_line (Err Unreadable) = unreadable_line

-- An answer and a fault as they are printed, with no line break.
abbrev pub answer_text : Answer → List ℕ
answer_text Done = codes "ok"
answer_text (Entered n) = codes "ok" ++ field n
answer_text (Ordered n) = codes "ok" ++ field n
answer_text (Told f) = codes "ok" ++ figures_fields f

abbrev pub fault_text : Fault → List ℕ
fault_text (Refused r) = codes "refused" ++ field (number_of r)
fault_text NotNow = codes "not now"
fault_text Unreadable = codes "unreadable"
