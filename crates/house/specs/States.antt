-- The two states of a house, and what its moves answer and leave.
use Rattle.std.specs.Prelude.{◌≡◌, ℕ, Ok, Err, Result}
use Rattle.rules.specs.Laws.{Rule}
use Rattle.book.specs.declared.refusal.Refusal.{Refusal}
use Rattle.book.specs.Answer.{Answer, Done, Ordered, Refused}
use Rattle.book.specs.House.{State}
use Rattle.house.specs.declared.states.Closed.{Closed}
use Rattle.house.specs.declared.states.Trading.{Trading}
use Rattle.house.specs.declared.ticket.Ticket.{Ticket}
use Rattle.house.specs.View.{closed, trading}

module _ {R : Type 0} (meaning : R → Rule) where
  abbrev pub the_closed : Closed R → State
  the_closed c = closed meaning c.house

  abbrev pub the_trading : Trading R → State
  the_trading t = trading meaning t.house

  -- The house after Closing: closed, or handed back where Closing was refused.
  abbrev pub moved : Result (Closed R) (Trading R × Refusal) → State
  moved (Ok c) = the_closed c
  moved (Err (t, why)) = the_trading t

-- What Closing answers.
abbrev pub closing_answer : {R : Type 0} → Result (Closed R) (Trading R × Refusal) → Answer
closing_answer (Ok c) = Done
closing_answer (Err (t, why)) = Refused why

-- What Check answers: the ticket of the order number.
abbrev pub ticketed : Result Ticket Refusal → Answer
ticketed (Ok t) = Ordered t.order
ticketed (Err r) = Refused r

-- A ticket carries the house number.
abbrev pub Carries : ℕ → Result Ticket Refusal → Type 0
Carries house (Ok t) = t.house ≡ house
Carries house (Err r) = Unit {0}

-- What Send and Drop answer.
abbrev pub spent : Result (Unit {0}) (Ticket × Refusal) → Answer
spent (Ok x) = Done
spent (Err (t, why)) = Refused why

-- A refused ticket comes back as it was.
abbrev pub Back : Ticket → Result (Unit {0}) (Ticket × Refusal) → Type 0
Back ticket (Ok x) = Unit {0}
Back ticket (Err (t, why)) = t ≡ ticket
