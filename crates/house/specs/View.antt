-- The house that a program holds, as the definitions see it.
use Rattle.std.specs.Prelude.{◌≡◌, true, vec_items, vec_len}
use Rattle.rules.specs.Laws.{Rule}
use Rattle.account.specs.View.{the_market}
use Rattle.book.specs.declared.account.Account.{Account}
use Rattle.book.specs.House.{State, Phase, Closed, Trading}
use Rattle.house.specs.declared.house.House.{House}
use Rattle.house.specs.Sound.{sound}

module _ {R : Type 0} (meaning : R → Rule) where
  abbrev pub in_phase : Phase → House R → State
  in_phase phase h = record {
    number = h.number;
    market = the_market meaning h.market;
    accounts = vec_items h.accounts;
    phase = phase;
  }

  -- A closed house.
  abbrev pub closed : House R → State
  closed h = in_phase Closed h

  -- A trading house.
  abbrev pub trading : House R → State
  trading h = in_phase (Trading h.minute (vec_items h.placed)) h

-- An account that a house may hold, among its series and its orders of the day.
abbrev pub SoundIn : {R : Type 0} → House R → Account → Type 0
SoundIn h x = sound (vec_items h.market.series) (vec_len h.placed) x ≡ true
