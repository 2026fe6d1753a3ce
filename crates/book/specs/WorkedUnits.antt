-- Worked cases of the choice of units and of lines: accounts with positions of given losses.
use Rattle.std.specs.Prelude.{◌≡◌, ℕ, ◌-◌, false, List, [], ◌∷◌, ◌++◌, map, length, replicate, ℤ, pos, negsuc, ◌+ℤ◌, ◌*ℤ◌, None}
use Rattle.rules.specs.declared.rule.RuleChoice.{RuleChoice}
use Rattle.rules.specs.Rules.{chosen}
use Rattle.rules.specs.Worked.{set50}
use Rattle.book.specs.declared.account.Position.{Position}
use Rattle.book.specs.declared.market.Series.{Series}
use Rattle.book.specs.Answer.{Answer, Listed}
use Rattle.book.specs.Call as C
use Rattle.book.specs.Prices.{settled}
use Rattle.book.specs.Market.{flat}
use Rattle.book.specs.ForcedList.{lines}
use Rattle.book.specs.House.{State, Trading}
use Rattle.book.specs.Step.{step}
use Rattle.book.specs.WorkedRuns.{open_call, house_number, alone, paired}

-- A series as an account holds it: its product, the account's net lots and their loss, and the lots that the market takes.
pub record Stake : Type 0 where
  pub product : ℕ
  pub net : ℤ
  pub loss : ℤ
  pub takes : ℕ

abbrev pub stake : ℕ → ℤ → ℤ → ℕ → Stake
stake product net loss takes = record { product = product; net = net; loss = loss; takes = takes }

-- Long lots are marked at 2,000 and short ones at 1,000.
abbrev pub mark_for : ℤ → ℕ
mark_for (pos n) = 2_000
mark_for (negsuc n) = 1_000

-- Every series has multiplier 1, so that the loss of a position is its carry less net lots × mark.
abbrev pub series_of : Stake → Series
series_of h = record { product = h.product; multiplier = 1; quote = settled (mark_for h.net) }

abbrev pub position_of : Stake → Position
position_of h = record { net = h.net; carry = h.net *ℤ pos (mark_for h.net) +ℤ h.loss }

-- A trading house with two products of the SET50 margins, these series, and one account with a call of this amount that is due.
abbrev pub house_holding : RuleChoice → ℕ → List Stake → State
house_holding rule amount hs = record {
  number = house_number;
  market = record { rule = chosen rule; products = set50 ∷ set50 ∷ []; series = map series_of hs };
  accounts = record {
    cash = pos 0;
    positions = map position_of hs ++ replicate (24 - length hs) flat;
    orders = replicate 8 None;
    call = open_call amount 0 2 false;
  } ∷ [];
  phase = Trading 0 [];
}

-- The forced list of the account for a call of this amount.
abbrev pub list_for : RuleChoice → ℕ → List Stake → Answer
list_for rule amount hs = (step (house_holding rule amount hs) (C.ForcedList 0 (map (λ h. h.takes) hs) 24)).0

-- The list for a call that no released margin ends.
abbrev pub whole_list : RuleChoice → List Stake → Answer
whole_list rule hs = list_for rule 1_000_000_000 hs

pub record WorkedChoice (rule : RuleChoice) : Type 0 where
  -- the greatest loss goes first, and a tie to the lowest number
  pub greatest_loss : whole_list rule (stake 0 (pos 1) (pos 100) 1 ∷ stake 0 (pos 1) (pos 300) 1 ∷ stake 0 (pos 1) (pos 200) 1 ∷ [])
      ≡ Listed (alone 1 (negsuc 0) ∷ alone 2 (negsuc 0) ∷ alone 0 (negsuc 0) ∷ [])
  pub tie : whole_list rule (stake 0 (pos 1) (pos 100) 1 ∷ stake 0 (pos 1) (pos 200) 1 ∷ stake 0 (pos 1) (pos 200) 1 ∷ [])
      ≡ Listed (alone 1 (negsuc 0) ∷ alone 2 (negsuc 0) ∷ alone 0 (negsuc 0) ∷ [])
  -- a gain is a negative loss, and is taken all the same
  pub gains : whole_list rule (stake 0 (pos 1) (negsuc 199) 1 ∷ stake 0 (pos 1) (negsuc 99) 1 ∷ [])
      ≡ Listed (alone 1 (negsuc 0) ∷ alone 0 (negsuc 0) ∷ [])
  -- short lots are bought back
  pub short_lots : whole_list rule (stake 0 (negsuc 1) (pos 100) 2 ∷ []) ≡ Listed (alone 0 (pos 2) ∷ [])
  -- on equal sides a pair is closed together, beginning with the greater loss
  pub equal_sides : whole_list rule (stake 0 (pos 1) (pos 200) 1 ∷ stake 0 (negsuc 0) (pos 100) 1 ∷ [])
      ≡ Listed (paired 0 (negsuc 0) 1 ∷ [])
  pub short_first : whole_list rule (stake 0 (pos 1) (pos 100) 1 ∷ stake 0 (negsuc 0) (pos 200) 1 ∷ [])
      ≡ Listed (paired 1 (pos 1) 0 ∷ [])
  pub tied_pair : whole_list rule (stake 0 (pos 1) (pos 100) 1 ∷ stake 0 (negsuc 0) (pos 100) 1 ∷ [])
      ≡ Listed (paired 0 (negsuc 0) 1 ∷ [])
  -- the second series is the one of greatest loss on the other side, the lowest number at a tie
  pub second_by_loss : whole_list rule (stake 0 (pos 2) (pos 300) 2 ∷ stake 0 (negsuc 0) (pos 100) 1 ∷ stake 0 (negsuc 0) (pos 200) 1 ∷ [])
      ≡ Listed (paired 0 (negsuc 0) 2 ∷ paired 0 (negsuc 0) 1 ∷ [])
  pub second_at_tie : whole_list rule (stake 0 (pos 2) (pos 300) 2 ∷ stake 0 (negsuc 0) (pos 100) 1 ∷ stake 0 (negsuc 0) (pos 100) 1 ∷ [])
      ≡ Listed (paired 0 (negsuc 0) 1 ∷ paired 0 (negsuc 0) 2 ∷ [])
  -- a series on the smaller side is closed with one of the larger side
  pub smaller_side : whole_list rule (stake 0 (pos 2) (pos 100) 2 ∷ stake 0 (negsuc 0) (pos 200) 1 ∷ [])
      ≡ Listed (paired 1 (pos 1) 0 ∷ alone 0 (negsuc 0) ∷ [])
  -- without a second series the first is passed over for the next greatest loss
  pub passed_over : whole_list rule (stake 0 (pos 1) (pos 300) 1 ∷ stake 0 (negsuc 0) (pos 200) 0 ∷ stake 1 (pos 1) (pos 100) 1 ∷ [])
      ≡ Listed (alone 2 (negsuc 0) ∷ [])
  -- the sides are those of one product
  pub two_products : whole_list rule (stake 0 (pos 1) (pos 100) 1 ∷ stake 1 (negsuc 0) (pos 200) 1 ∷ [])
      ≡ Listed (alone 1 (pos 1) ∷ alone 0 (negsuc 0) ∷ [])
  pub second_of_product : whole_list rule (stake 0 (pos 1) (pos 300) 1 ∷ stake 0 (negsuc 0) (pos 100) 1 ∷ stake 1 (negsuc 0) (pos 200) 1 ∷ [])
      ≡ Listed (paired 0 (negsuc 0) 1 ∷ alone 2 (pos 1) ∷ [])
  -- lots that the market does not take count on their side
  pub untaken_lots : whole_list rule (stake 0 (pos 2) (pos 100) 2 ∷ stake 0 (negsuc 0) (pos 200) 0 ∷ [])
      ≡ Listed (alone 0 (negsuc 0) ∷ [])
  -- a series without lots is not chosen, whatever its loss is
  pub no_lots : whole_list rule (stake 0 (pos 0) (pos 900) 5 ∷ stake 0 (pos 1) (pos 100) 5 ∷ [])
      ≡ Listed (alone 1 (negsuc 0) ∷ [])

pub record WorkedLines (rule : RuleChoice) : Type 0 where
  -- neighbouring units of one series join, and another first series begins a line
  pub joined : whole_list rule (stake 0 (pos 3) (pos 200) 3 ∷ stake 0 (pos 2) (pos 100) 2 ∷ [])
      ≡ Listed (alone 0 (negsuc 2) ∷ alone 1 (negsuc 1) ∷ [])
  pub many_lots : whole_list rule (stake 0 (pos 30) (pos 100) 30 ∷ []) ≡ Listed (alone 0 (negsuc 29) ∷ [])
  -- units with the same second series join, and a second series begins a line
  pub pairs_joined : whole_list rule (stake 0 (pos 4) (pos 200) 4 ∷ stake 0 (negsuc 1) (pos 100) 2 ∷ [])
      ≡ Listed (alone 0 (negsuc 1) ∷ paired 0 (negsuc 1) 1 ∷ [])
  -- each lot uses up one that the market takes of its series
  pub first_used_up : whole_list rule (stake 0 (pos 3) (pos 100) 2 ∷ []) ≡ Listed (alone 0 (negsuc 1) ∷ [])
  pub pair_used_up : whole_list rule (stake 0 (pos 3) (pos 200) 2 ∷ stake 0 (negsuc 2) (pos 100) 3 ∷ [])
      ≡ Listed (paired 0 (negsuc 1) 1 ∷ [])
  pub second_used_up : whole_list rule (stake 0 (pos 3) (pos 200) 3 ∷ stake 0 (negsuc 2) (pos 100) 2 ∷ [])
      ≡ Listed (paired 0 (negsuc 1) 1 ∷ [])
  -- the list stops at the unit whose released margin reaches the call's amount
  pub reached : list_for rule 1_710_000 (stake 0 (pos 4) (pos 100) 4 ∷ []) ≡ Listed (alone 0 (negsuc 1) ∷ [])
  pub not_reached : list_for rule 1_710_001 (stake 0 (pos 4) (pos 100) 4 ∷ []) ≡ Listed (alone 0 (negsuc 2) ∷ [])
  -- three series: one lot alone, two pairs, and what is left of the larger side
  pub three_series : whole_list rule (stake 0 (pos 3) (pos 100) 5 ∷ stake 0 (pos 1) (pos 400) 5 ∷ stake 0 (negsuc 1) (pos 200) 5 ∷ [])
      ≡ Listed (alone 1 (negsuc 0) ∷ paired 2 (pos 2) 0 ∷ alone 0 (negsuc 0) ∷ [])
  -- the same, where the market takes no lot of the first series
  pub three_series_none : whole_list rule (stake 0 (pos 3) (pos 100) 0 ∷ stake 0 (pos 1) (pos 400) 5 ∷ stake 0 (negsuc 1) (pos 200) 5 ∷ [])
      ≡ Listed (alone 1 (negsuc 0) ∷ [])

-- Which units form a line.
pub record WorkedJoining : Type 0 where
  pub alone_joined : lines (alone 0 (negsuc 0) ∷ alone 0 (negsuc 0) ∷ []) ≡ alone 0 (negsuc 1) ∷ []
  pub paired_joined : lines (paired 0 (pos 1) 1 ∷ paired 0 (pos 1) 1 ∷ []) ≡ paired 0 (pos 2) 1 ∷ []
  -- not where the first or the second series differs, or one unit has no second
  pub other_first : lines (alone 0 (negsuc 0) ∷ alone 1 (negsuc 0) ∷ []) ≡ alone 0 (negsuc 0) ∷ alone 1 (negsuc 0) ∷ []
  pub other_second : lines (paired 0 (pos 1) 1 ∷ paired 0 (pos 1) 2 ∷ []) ≡ paired 0 (pos 1) 1 ∷ paired 0 (pos 1) 2 ∷ []
  pub then_second : lines (alone 0 (pos 1) ∷ paired 0 (pos 1) 1 ∷ []) ≡ alone 0 (pos 1) ∷ paired 0 (pos 1) 1 ∷ []
  pub then_alone : lines (paired 0 (pos 1) 1 ∷ alone 0 (pos 1) ∷ []) ≡ paired 0 (pos 1) 1 ∷ alone 0 (pos 1) ∷ []
  -- nor where another unit stands between them
  pub between : lines (alone 0 (pos 1) ∷ alone 1 (pos 1) ∷ alone 0 (pos 1) ∷ []) ≡ alone 0 (pos 1) ∷ alone 1 (pos 1) ∷ alone 0 (pos 1) ∷ []
