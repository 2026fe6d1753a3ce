-- The equity balance.
use Rattle.std.specs.Prelude.{List, [], ◌∷◌, ℤ, pos, ◌+ℤ◌, ◌-ℤ◌, ◌*ℤ◌, neg_ℤ}
use Rattle.book.specs.declared.account.Account.{Account}
use Rattle.book.specs.Market.{Market, Holding, holdings}

-- A holding has gained multiplier × (net lots × mark − carry).
unfoldable pub gain : Holding → ℤ
gain h = pos h.multiplier *ℤ (h.net *ℤ pos h.mark -ℤ h.carry)

-- A holding's loss is the opposite of its gain.
unfoldable pub loss : Holding → ℤ
loss h = neg_ℤ (gain h)

abbrev pub gains : List Holding → ℤ
gains [] = pos 0
gains (h ∷ hs) = gain h +ℤ gains hs

-- The equity balance is cash and the gains of all holdings.
abbrev pub equity : Market → Account → ℤ
equity m x = x.cash +ℤ gains (holdings m.series x.positions)
