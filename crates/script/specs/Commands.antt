-- The call that a name and the words after it make.
use Rattle.std.specs.Prelude.{ℕ, Bool, if◌then◌else◌, List, [], ◌∷◌, Some, None, codes, Option}
use Prim.Native.String.{String}
use Rattle.std.specs.Str.{bytes_eq}
use Rattle.rules.specs.declared.rule.RuleChoice.{RuleChoice}
use Rattle.rules.specs.declared.rule.RuleChoice.TheVariants as rule
use Rattle.script.specs.declared.command.Command.{Command}
use Rattle.script.specs.declared.command.Command.TheVariants as call
use Rattle.script.specs.Number.{and_then, number, small}
use Rattle.script.specs.Fields.{only, one, two, three, leg_prices, trade}

abbrev pub is : List ℕ → String → Bool
is word text = bytes_eq word (codes text)

abbrev pub rule_of : List ℕ → Option RuleChoice
rule_of word =
    if is word "gross" then Some rule.Gross
    else if is word "larger" then Some rule.LargerSide
    else if is word "pairs" then Some rule.Pairs
    else None

abbrev pub house : List (List ℕ) → Option Command
house [] = None
house (w ∷ ws) = and_then (small w) (λ n. and_then (and_then (only ws) rule_of) (λ r. Some (call.House n r)))

abbrev pub check : List (List ℕ) → Option Command
check [] = None
check (w ∷ ws) = and_then (number w) (λ account. and_then (trade ws) (λ t. Some (call.Check account t.0 t.1 t.2)))

abbrev pub fill : List (List ℕ) → Option Command
fill [] = None
fill (w ∷ ws) = and_then (number w) (λ order. and_then (leg_prices ws) (λ p. Some (call.Fill order p.0 p.1)))

-- A call that takes no words.
abbrev pub alone : Command → List (List ℕ) → Option Command
alone c [] = Some c
alone c (w ∷ ws) = None

-- The calls that set a house up, and the opening of a day.
abbrev pub set_up_call : List ℕ → List (List ℕ) → Option Command
set_up_call name ws =
    if is name "house" then house ws
    else if is name "product" then and_then (two ws) (λ p. Some (call.Product p.0 p.1))
    else if is name "rates" then and_then (three ws) (λ p. Some (call.Rates p.0 p.1 p.2))
    else if is name "series" then and_then (three ws) (λ p. Some (call.Series p.0 p.1 p.2))
    else if is name "account" then alone call.Account ws
    else if is name "opening" then alone call.Opening ws
    else None

-- The calls of a day that are not on orders.
abbrev pub day_call : List ℕ → List (List ℕ) → Option Command
day_call name ws =
    if is name "clock" then and_then (one ws) (λ minute. Some (call.Clock minute))
    else if is name "print" then and_then (two ws) (λ p. Some (call.Print p.0 p.1))
    else if is name "deposit" then and_then (two ws) (λ p. Some (call.Deposit p.0 p.1))
    else if is name "withdraw" then and_then (two ws) (λ p. Some (call.Withdraw p.0 p.1))
    else if is name "figures" then and_then (one ws) (λ account. Some (call.Figures account))
    else set_up_call name ws

-- Every call but the closing of a day, by its name.
abbrev pub call_of : List ℕ → List (List ℕ) → Option Command
call_of name ws =
    if is name "check" then check ws
    else if is name "send" then and_then (one ws) (λ order. Some (call.Send order))
    else if is name "fill" then fill ws
    else if is name "drop" then and_then (one ws) (λ order. Some (call.Drop order))
    else if is name "cancel" then and_then (one ws) (λ order. Some (call.Cancel order))
    else day_call name ws
