-- What becomes of a ticket.
use Rattle.std.specs.Prelude.{Ok, Err, Result}
use Rattle.book.specs.declared.refusal.Refusal.{Refusal}
use Rattle.house.specs.declared.ticket.Ticket.{Ticket}

-- A refused ticket is handed back.
abbrev pub handed_back : Ticket → Result (Unit {0}) Refusal → Result (Unit {0}) (Ticket × Refusal)
handed_back ticket (Ok x) = Ok x
handed_back ticket (Err why) = Err (ticket, why)
