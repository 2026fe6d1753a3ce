-- Margin calls as a history tells them.
use Rattle.std.specs.Prelude.{ℕ, ◌+◌, ◌-◌, min, Bool, true, false, cond, not, ◌&&◌, ◌||◌, [], ◌∷◌, ◌++◌, pos, ◌-ℤ◌, Some, None, Option, ◌==◌, nat_lt}
use Rattle.rules.specs.Laws.{Rule}
use Rattle.book.specs.declared.account.MarginCall.{MarginCall}
use Rattle.book.specs.Due.{due}
use Rattle.book.specs.Events.{Event, on_opened, on_deposited, on_filled, on_settled}
use Rattle.book.specs.History.{History, Placed, order, levels, balance, minute}
use Rattle.book.specs.MarginCalls.{at_least_zero, below}
use Rattle.book.specs.Requirements.{initial, maintenance, force}

-- Whether an order is the account's.
abbrev pub is_of : ℕ → Option Placed → Bool
is_of a None = false
is_of a (Some o) = a == o.account

-- Whether an event fills an order of the account.
abbrev pub fills_for : ℕ → Event → History → Bool
fills_for a e h = on_filled e (λ n price second_price. is_of a (order n h)) false

-- The margin that an event releases is the fall of the account's initial margin requirement at a fill of its order, or 0.
abbrev pub released_by : Rule → ℕ → Event → History → ℕ
released_by rule a e h =
    cond (fills_for a e h) (initial (levels rule a h) - initial (levels rule a (e ∷ h))) 0

abbrev pub deposited_by : ℕ → Event → ℕ
deposited_by a e = on_deposited e (λ b n. cond (a == b) n 0) 0

-- A call's issue: its amount, the history up to the closing that issued it, and what happened since.
pub record Issue : Type 0 where
  pub amount : ℕ
  pub upto : History
  pub since : History

-- Granted deposits and margin released by fills since the issue.
abbrev pub credit_since : Rule → ℕ → History → History → ℕ
credit_since rule a upto [] = 0
credit_since rule a upto (e ∷ since) =
    deposited_by a e + released_by rule a e (since ++ upto) + credit_since rule a upto since

abbrev pub credit_of : Rule → ℕ → Issue → ℕ
credit_of rule a k = credit_since rule a k.upto k.since

-- A call is open while granted deposits and margin released by fills since its issue total less than its amount.
abbrev pub is_open : Rule → ℕ → Option Issue → Bool
is_open rule a None = false
is_open rule a (Some k) = nat_lt (credit_of rule a k) k.amount

-- Whether an event is a closing.
abbrev pub is_closing : Event → Bool
is_closing e = on_settled e (λ prices. true) false

-- EB below MMR after an event.
abbrev pub below_maintenance : Rule → ℕ → History → Bool
below_maintenance rule a h = below (balance a h) (maintenance (levels rule a h))

abbrev pub below_force : Rule → ℕ → History → Bool
below_force rule a h = below (balance a h) (force (levels rule a h))

-- A call issued at the newest event asks for IMR − EB.
abbrev pub issued_at : Rule → ℕ → History → Issue
issued_at rule a h = record {
  amount = at_least_zero (pos (initial (levels rule a h)) -ℤ balance a h);
  upto = h;
  since = [];
}

abbrev pub longer_since : Event → Option Issue → Option Issue
longer_since e None = None
longer_since e (Some k) = Some (record { amount = k.amount; upto = k.upto; since = e ∷ k.since })

-- The last call that was issued: a closing issues one where none is open and EB is below MMR.
abbrev pub last_issue : Rule → ℕ → History → Option Issue
last_issue rule a [] = None
last_issue rule a (e ∷ h) =
    cond (is_closing e && (not (is_open rule a (last_issue rule a h)) && below_maintenance rule a (e ∷ h)))
    (Some (issued_at rule a (e ∷ h)))
    (longer_since e (last_issue rule a h))

-- Openings since the issue.
abbrev pub openings : History → ℕ
openings [] = 0
openings (e ∷ since) = on_opened e 1 0 + openings since

-- Low: at some closing from the issue on, EB was below FMR.
abbrev pub low_since : Rule → ℕ → History → History → Bool
low_since rule a upto [] = below_force rule a upto
low_since rule a upto (e ∷ since) =
    (is_closing e && below_force rule a (e ∷ (since ++ upto))) || low_since rule a upto since

-- An open call as Figures is to tell it: its credit is what was credited since its issue, its age the openings since, at most 2.
abbrev pub told_call : Rule → ℕ → Issue → MarginCall
told_call rule a k = record {
  amount = k.amount;
  credit = credit_of rule a k;
  age = min 2 (openings k.since);
  low = low_since rule a k.upto k.since;
}

abbrev pub told_if_open : Rule → ℕ → Option Issue → Option MarginCall
told_if_open rule a None = None
told_if_open rule a (Some k) = cond (is_open rule a (Some k)) (Some (told_call rule a k)) None

-- The open call of an account, if there is one.
abbrev pub open_call : Rule → ℕ → History → Option MarginCall
open_call rule a h = told_if_open rule a (last_issue rule a h)

-- Whether something is due on the account.
abbrev pub something_due : Rule → ℕ → History → Bool
something_due rule a h = due (open_call rule a h) (minute h) (balance a h) (levels rule a h)
