-- The definitions with which the worked cases compute.
use Rattle.book.specs.House.{new_account}
use Rattle.book.specs.Equity.{gain, loss}
use Rattle.book.specs.Orders.{fill_leg, need, lowers, released, free}
use Rattle.book.specs.Requirements.{long_side, short_side, product_levels}
use Rattle.book.specs.Due.{call_due}
use Rattle.book.specs.Units.{greatest, closable, larger, opposite, second_for, usable, next_unit}
use Rattle.book.specs.ForcedList.{units, add_units}

-- To unfold this is to unfold them all.
unfoldable pub all_definitions : Unit {0}
unfolding new_account gain loss fill_leg need lowers released free long_side short_side product_levels call_due greatest closable larger opposite second_for usable next_unit units add_units
all_definitions = tt
